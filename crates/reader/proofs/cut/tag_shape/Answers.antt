-- `tag_shape` meets its contract. Assumes nothing.
use Rattle.ground.proofs.Choices.{choices}
use Rattle.reader.proofs.cut.tag_shape.Goals as goal

pub returns-then-b-eq47 : goal.returns-then-b-eq47
returns-then-b-eq47 c = search choices

pub returns-else-b-eq47 : goal.returns-else-b-eq47
returns-else-b-eq47 c = search choices
