-- `seen_end` meets its contract. The invariant: the scan from `from` on is the scan from i on in the state of the loop. Assumes nothing.
use Prim.Native.Nat.{◌-◌}
use mathlib.Core.Path.{◌≡◌}
use lib.ListN.{length}
use Rattle.parser.specs.Machine.{scan_at}
use Rattle.parser.specs.Marks.{marks_step, seeing}
use Rattle.pieces.proofs.marked.seen_end.Given as goal

abbrev pub invariant-loop-i : goal.invariant-loop-i
invariant-loop-i l = scan_at (marks_step l.mark l.need) (seeing l.before) l.piece l.from ≡ scan_at (marks_step l.mark l.need) (seeing l.seen) l.piece l.i

abbrev pub decreases-loop-i : goal.decreases-loop-i
decreases-loop-i l = length l.piece - l.i
