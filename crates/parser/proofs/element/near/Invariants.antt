-- `near` meets its contract: so far it has passed bytes that are not the quote. Assumes nothing.
use Prim.Native.Nat.{◌-◌}
use Rattle.parser.specs.Element.{element_step, quote_of}
use Rattle.parser.specs.Passed.{Passes}
use Rattle.parser.proofs.element.near.Given as goal

abbrev pub invariant-loop-i : goal.invariant-loop-i
invariant-loop-i l = Passes element_step (quote_of l.b) l.s l.from l.i

abbrev pub decreases-loop-i : goal.decreases-loop-i
decreases-loop-i l = l.end - l.i
