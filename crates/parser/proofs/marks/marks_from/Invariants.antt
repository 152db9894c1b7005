-- `marks_from` meets its contract. The invariant: the scan from `from` on is the scan from i on with `seen` marks just before. Assumes nothing.
use Prim.Native.Nat.{◌-◌, ◌^◌, ◌<◌}
use mathlib.Core.Path.{◌≡◌}
use lib.ListN.{length}
use Rattle.parser.specs.Machine.{scan_at}
use Rattle.parser.specs.Marks.{marks_step, seeing}
use Rattle.parser.proofs.marks.marks_from.Given as goal

abbrev pub invariant-loop-i : goal.invariant-loop-i
invariant-loop-i l = (l.i < 2 ^ 64) × (scan_at (marks_step l.mark l.need) (seeing 0) l.s l.from ≡ scan_at (marks_step l.mark l.need) (seeing l.seen) l.s l.i)

abbrev pub decreases-loop-i : goal.decreases-loop-i
decreases-loop-i l = length l.s - l.i
