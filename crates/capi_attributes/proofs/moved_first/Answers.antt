-- `moved_first` meets its contract. Assumes nothing.
use Rattle.capi_attributes.proofs.Answers.{moves}
use Rattle.capi_attributes.proofs.moved_first.Goals as goal

pub overflow_add-result : goal.overflow_add-result
overflow_add-result c = search moves

pub returns-then-number-eq-NAME_USED : goal.returns-then-number-eq-NAME_USED
returns-then-number-eq-NAME_USED c = search moves

pub returns : goal.returns
returns c = search moves
