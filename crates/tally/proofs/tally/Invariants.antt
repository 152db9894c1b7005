-- `tally` meets its contract, and ends: fewer calls are left after each. The invariant: the loop has what i calls leave, and the stack keeps its length.
-- Assumes nothing.
use Prim.Native.Nat.{◌≤◌, ◌<◌, ◌-◌, ◌^◌}
use mathlib.Core.Path.{◌≡◌}
use lib.ListN.{length}
use Rattle.tally.proofs.Calls.{Going}
use Rattle.tally.proofs.tally.Given as goal

abbrev pub invariant-loop-i : goal.invariant-loop-i
invariant-loop-i l = (l.i ≤ l.calls) × (l.calls < 2 ^ 64) × (length l.stack ≡ length l.initial.stack) × Going l.document l.initial.stack l.initial.reader.settings l.i l.stack l.reader l.openings l.closings l.mismatches

abbrev pub decreases-loop-i : goal.decreases-loop-i
decreases-loop-i l = l.calls - l.i
