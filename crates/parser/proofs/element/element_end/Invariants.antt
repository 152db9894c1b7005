-- `element_end` meets its contract. The invariants: the scan from `from` on is the scan from i on in the state of the loop. Assumes nothing.
use Prim.Native.Nat.{◌-◌, ◌^◌, ◌≤◌, ◌<◌}
use mathlib.Core.Path.{◌≡◌}
use lib.ListN.{length}
use Rattle.parser.specs.Machine.{scan_at}
use Rattle.parser.specs.Element.{element_step, quote_of, IsQuote}
use Rattle.parser.specs.declared.element.ElementState.TheVariants.{Outside}
use Rattle.parser.proofs.element.element_end.Given as goal

abbrev pub invariant-quote : goal.invariant-quote
invariant-quote l = (l.initial.i ≤ l.i) × (l.i < 2 ^ 64) × IsQuote l.b × (scan_at element_step Outside l.s l.from ≡ scan_at element_step (quote_of l.b) l.s l.i)

abbrev pub decreases-quote : goal.decreases-quote
decreases-quote l = length l.s - l.i

abbrev pub invariant-tag : goal.invariant-tag
invariant-tag l = (l.i < 2 ^ 64) × (scan_at element_step Outside l.s l.from ≡ scan_at element_step Outside l.s l.i)

abbrev pub decreases-tag : goal.decreases-tag
decreases-tag l = length l.s - l.i
