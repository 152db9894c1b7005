-- `quote_of` meets its contract. Assumes nothing.
use Rattle.ground.proofs.Choices.{choices}
use Rattle.parser.proofs.element.quote_of.Goals as goal

pub returns-then-b-eq39 : goal.returns-then-b-eq39
returns-then-b-eq39 c = search choices

pub returns-else-b-eq39 : goal.returns-else-b-eq39
returns-else-b-eq39 c = search choices
