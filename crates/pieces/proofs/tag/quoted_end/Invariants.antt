-- `quoted_end` meets its contract. The invariant: the scan from `from` on is the scan from i on in the state of the loop. Assumes nothing.
use Prim.Native.Nat.{◌-◌, ◌^◌, ◌<◌}
use mathlib.Core.Path.{◌≡◌}
use lib.ListN.{length}
use Rattle.parser.specs.Machine.{scan_at}
use Rattle.parser.specs.Element.{element_step, quote_of}
use Rattle.pieces.proofs.tag.quoted_end.Given as goal

abbrev pub invariant-loop-i : goal.invariant-loop-i
invariant-loop-i l = (l.i < 2 ^ 64) × (scan_at element_step (quote_of l.b) l.piece l.from ≡ scan_at element_step (quote_of l.b) l.piece l.i)

abbrev pub decreases-loop-i : goal.decreases-loop-i
decreases-loop-i l = length l.piece - l.i
