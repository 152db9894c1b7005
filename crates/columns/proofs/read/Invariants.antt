-- `read` meets its contract, and ends: fewer calls are left after each. The invariant: the loop has what i calls leave and tell, and the lent slices keep their
-- lengths. Assumes nothing.
use Prim.Native.Nat.{◌+◌, ◌-◌, ◌≤◌, ◌<◌, ◌^◌}
use mathlib.Core.Path.{◌≡◌}
use lib.ListN.{length}
use Rattle.columns.proofs.Turns.{Going}
use Rattle.columns.proofs.read.Given as goal

abbrev pub invariant-loop-i : goal.invariant-loop-i
invariant-loop-i l = (l.i ≤ l.calls) × (l.calls < 2 ^ 64) × (l.calls ≡ length l.document + 2) × (length l.stack ≡ length l.initial.stack) × (length l.column ≡ length l.initial.column)
    × Going l.document l.initial.stack l.initial.column l.i l.stack l.column l.reader l.count

abbrev pub decreases-loop-i : goal.decreases-loop-i
decreases-loop-i l = l.calls - l.i
