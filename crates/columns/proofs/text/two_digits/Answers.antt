-- `two_digits` meets its contract. Assumes nothing.
use borrow.Author.Rules.{rules}
use Rattle.columns.specs.Time.{two_digits}
use Rattle.columns.proofs.text.two_digits.Goals as goal

pub digit-requires : goal.digit-requires
digit-requires c = search rules

pub overflow_mul-result : goal.overflow_mul-result
overflow_mul-result c = search rules

pub digit-requires-2 : goal.digit-requires-2
digit-requires-2 c = search rules

pub overflow_add-result : goal.overflow_add-result
overflow_add-result c = search rules

pub returns : goal.returns
unfolding two_digits
returns c = search rules
