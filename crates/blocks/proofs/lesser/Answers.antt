-- `lesser` meets its contract. Assumes nothing.
use Rattle.ground.proofs.Choices.{choices}
use Rattle.blocks.proofs.lesser.Goals as goal

pub returns-then-x-y : goal.returns-then-x-y
returns-then-x-y c = search choices

pub returns-else-x-y : goal.returns-else-x-y
returns-else-x-y c = search choices
