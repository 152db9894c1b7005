-- `digit_of` meets its contract. Assumes nothing.
use Rattle.escape.specs.Reference.{digit}
use Rattle.escape.proofs.Ranges.{ranges}
use Rattle.escape.proofs.reference.digit_of.Goals as goal

pub overflow_cast-result : goal.overflow_cast-result
unfolding digit
overflow_cast-result c = search ranges

pub overflow_cast-result-in-65-to-70 : goal.overflow_cast-result-in-65-to-70
unfolding digit
overflow_cast-result-in-65-to-70 c = search ranges

pub overflow_add-result : goal.overflow_add-result
unfolding digit
overflow_add-result c = search ranges

pub overflow_cast-result-in-97-to-102 : goal.overflow_cast-result-in-97-to-102
unfolding digit
overflow_cast-result-in-97-to-102 c = search ranges

pub overflow_add-result-in-97-to-102 : goal.overflow_add-result-in-97-to-102
unfolding digit
overflow_add-result-in-97-to-102 c = search ranges

pub returns-in-48-to-57 : goal.returns-in-48-to-57
unfolding digit
returns-in-48-to-57 c = search ranges

pub returns-in-65-to-70 : goal.returns-in-65-to-70
unfolding digit
returns-in-65-to-70 c = search ranges

pub returns-in-97-to-102 : goal.returns-in-97-to-102
unfolding digit
returns-in-97-to-102 c = search ranges

pub returns-in_default : goal.returns-in_default
unfolding digit
returns-in_default c = search ranges

pub returns-in_default-2 : goal.returns-in_default-2
unfolding digit
returns-in_default-2 c = search ranges

pub returns-in_default-3 : goal.returns-in_default-3
unfolding digit
returns-in_default-3 c = search ranges

pub returns-in_default-4 : goal.returns-in_default-4
unfolding digit
returns-in_default-4 c = search ranges
