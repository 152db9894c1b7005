-- `reference_end` meets its contract. The invariant: the scan from the start on is the scan from i on. Assumes nothing.
use Rattle.parser.proofs.Turns.{first_turns}
use Rattle.parser.proofs.reference.reference_end.Goals as goal

pub returns-then-s-from : goal.returns-then-s-from
returns-then-s-from c = search first_turns

pub overflow_add-i : goal.overflow_add-i
overflow_add-i c = search first_turns

pub loop-i-init : goal.loop-i-init
loop-i-init c = search first_turns

pub bounds-s-i : goal.bounds-s-i
bounds-s-i c = search first_turns

pub overflow_add-i-in_default : goal.overflow_add-i-in_default
overflow_add-i-in_default c = search first_turns

pub loop-i-smaller : goal.loop-i-smaller
loop-i-smaller c = search first_turns

pub loop-i-preserved : goal.loop-i-preserved
loop-i-preserved c = search first_turns

pub returns-then-s-i : goal.returns-then-s-i
returns-then-s-i c = search first_turns

pub returns-in-59 : goal.returns-in-59
returns-in-59 c = search first_turns

pub returns-in-38 : goal.returns-in-38
returns-in-38 c = search first_turns

pub returns-in-60 : goal.returns-in-60
returns-in-60 c = search first_turns
