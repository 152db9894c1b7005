-- `moved` meets its contract. Assumes nothing.
use Rattle.capi_attributes.proofs.Answers.{moves}
use Rattle.capi_attributes.proofs.moved.Goals as goal

pub moved_extent-requires : goal.moved_extent-requires
moved_extent-requires c = search moves

pub moved_extent-requires-then-values-eq1 : goal.moved_extent-requires-then-values-eq1
moved_extent-requires-then-values-eq1 c = search moves

pub overflow_add-result : goal.overflow_add-result
overflow_add-result c = search moves

pub returns-then-values-eq1 : goal.returns-then-values-eq1
returns-then-values-eq1 c = search moves

pub returns-then-values-eq0 : goal.returns-then-values-eq0
returns-then-values-eq0 c = search moves

pub returns-then-values-eq-BAD_STATE : goal.returns-then-values-eq-BAD_STATE
returns-then-values-eq-BAD_STATE c = search moves

pub moved_first-first-requires : goal.moved_first-first-requires
moved_first-first-requires c = search moves

pub overflow_add-result-2 : goal.overflow_add-result-2
overflow_add-result-2 c = search moves

pub returns : goal.returns
returns c = search moves
