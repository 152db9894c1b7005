-- `phase` meets its contract. Assumes nothing.
use Rattle.ground.proofs.Choices.{choices}
use Rattle.capi.specs.Numbers.{phase_of}
use Rattle.capi.proofs.slots.phase.Goals as goal

pub returns-in-0 : goal.returns-in-0
unfolding phase_of
returns-in-0 c = search choices

pub returns-in-1 : goal.returns-in-1
unfolding phase_of
returns-in-1 c = search choices

pub returns-in-2 : goal.returns-in-2
unfolding phase_of
returns-in-2 c = search choices

pub returns-in-3 : goal.returns-in-3
unfolding phase_of
returns-in-3 c = search choices

pub returns-in-4 : goal.returns-in-4
unfolding phase_of
returns-in-4 c = search choices

pub returns-in_default : goal.returns-in_default
unfolding phase_of
returns-in_default c = search choices
