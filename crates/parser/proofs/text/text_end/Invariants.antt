-- `text_end` meets its contract. The invariant: the scan from the start on is the scan from i on. Assumes nothing.
use Prim.Native.Nat.{◌-◌}
use mathlib.Core.Path.{◌≡◌}
use lib.ListN.{length}
use Rattle.parser.specs.Machine.{scan_at}
use Rattle.parser.specs.First.{first_step, one_of, text_ends}
use Rattle.parser.proofs.text.text_end.Given as goal

abbrev pub invariant-loop-i : goal.invariant-loop-i
invariant-loop-i l = scan_at (first_step (one_of text_ends)) tt l.s l.from ≡ scan_at (first_step (one_of text_ends)) tt l.s l.i

abbrev pub decreases-loop-i : goal.decreases-loop-i
decreases-loop-i l = length l.s - l.i
