-- `place` meets its contract. Assumes nothing.
use Rattle.ground.proofs.Choices.{choices, by_true, by_false}
use Rattle.blocks.proofs.place.Goals as goal

pub returns-then-v-a : goal.returns-then-v-a
returns-then-v-a c = search (choices, by_true)

pub returns-else-v-a : goal.returns-else-v-a
returns-else-v-a c = search (choices, by_false)
