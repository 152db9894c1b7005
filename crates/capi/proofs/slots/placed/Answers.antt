-- `placed` meets its contract. Assumes nothing.
use Rattle.ground.proofs.Choices.{choices}
use Rattle.capi.specs.Slots.{placed}
use Rattle.capi.proofs.slots.placed.Goals as goal

pub returns-then-span : goal.returns-then-span
unfolding placed
returns-then-span c = search choices

pub returns-then-n-span : goal.returns-then-n-span
unfolding placed
returns-then-n-span c = search choices

pub returns : goal.returns
unfolding placed
returns c = search choices
