-- `past` meets its contract: so far it has passed bytes that are neither. Assumes nothing.
use Prim.Native.Nat.{◌-◌}
use lib.ListN.{length}
use Rattle.parser.specs.First.{first_step, one_of, text_ends}
use Rattle.parser.specs.Passed.{Passes}
use Rattle.parser.proofs.text.past.Given as goal

abbrev pub invariant-loop-i : goal.invariant-loop-i
invariant-loop-i l = Passes (first_step (one_of text_ends)) tt l.s l.from l.i

abbrev pub decreases-loop-i : goal.decreases-loop-i
decreases-loop-i l = length l.s - l.i
