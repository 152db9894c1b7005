-- `fill` meets its contract. The invariant: the first i rows are filled. Assumes nothing.
use Prim.Native.Nat.{◌-◌, ◌≤◌}
use Rattle.capi_rows.proofs.Slots.{Reached}
use Rattle.capi_rows.proofs.fill.Given as goal

abbrev pub invariant-loop-i : goal.invariant-loop-i
invariant-loop-i l = (l.i ≤ l.count) × Reached l.stack l.i l.initial.slots l.slots

abbrev pub decreases-loop-i : goal.decreases-loop-i
decreases-loop-i l = l.count - l.i
