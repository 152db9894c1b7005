-- `reaches` meets its contract: the flag tells of the bytes seen so far. Assumes nothing.
use Prim.Native.Nat.{◌-◌, ◌≤◌}
use lib.Dec.{leb}
use Rattle.blocks.specs.Blocks.{Flag}
use Rattle.blocks.proofs.reaches.Given as goal

abbrev pub invariant-loop-k : goal.invariant-loop-k
invariant-loop-k l = (l.k ≤ l.n) × Flag (leb l.top) l.s l.at l.k l.high

abbrev pub decreases-loop-k : goal.decreases-loop-k
decreases-loop-k l = l.n - l.k
