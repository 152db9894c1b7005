-- `more` meets its contract. Assumes nothing.
use Rattle.escape.proofs.Numbers.{mores}
use Rattle.escape.proofs.reference.more.Goals as goal

pub overflow_mul-result : goal.overflow_mul-result
overflow_mul-result c = search mores

pub overflow_add-result : goal.overflow_add-result
overflow_add-result c = search mores

pub returns-then-value-lt-PAST : goal.returns-then-value-lt-PAST
returns-then-value-lt-PAST c = search mores

pub returns : goal.returns
returns c = search mores
