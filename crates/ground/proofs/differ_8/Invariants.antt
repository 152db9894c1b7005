-- `differ_8` meets its contract: the flag tells of the bytes seen so far. Assumes nothing.
use Prim.Native.Nat.{◌-◌, ◌≤◌}
use Rattle.ground.specs.Alike.{Alike}
use Rattle.ground.proofs.differ_8.Given as goal

abbrev pub invariant-loop-k : goal.invariant-loop-k
invariant-loop-k l = (l.k ≤ 8) × Alike l.a l.b l.at l.k l.other

abbrev pub decreases-loop-k : goal.decreases-loop-k
decreases-loop-k l = 8 - l.k
