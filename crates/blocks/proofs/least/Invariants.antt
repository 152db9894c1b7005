-- `least` meets its contract: the least place so far. Assumes nothing.
use Prim.Native.Nat.{◌-◌, ◌≤◌}
use Rattle.blocks.specs.Blocks.{one_of_three}
use Rattle.blocks.proofs.Places.{LeastSoFar}
use Rattle.blocks.proofs.least.Given as goal

abbrev pub invariant-loop-k : goal.invariant-loop-k
invariant-loop-k l = (l.k ≤ 64) × LeastSoFar (one_of_three l.a l.b l.c) l.s l.at 64 l.k l.least

abbrev pub decreases-loop-k : goal.decreases-loop-k
decreases-loop-k l = 64 - l.k
