-- `same` meets its contract. Assumes nothing.
use borrow.Author.Rules.{rules}
use Rattle.ground.proofs.Equal.{same_uneven, same_even}
use Rattle.ground.proofs.same.Goals as goal

pub alike-requires : goal.alike-requires
alike-requires c = search rules

pub returns-then-a-b : goal.returns-then-a-b
returns-then-a-b c = search same_even

pub returns-else-a-b : goal.returns-else-a-b
returns-else-a-b c = search same_uneven
