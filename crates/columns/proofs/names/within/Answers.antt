-- `within` meets its contract. Assumes nothing.
use Rattle.columns.proofs.Answers.{names}
use Rattle.columns.proofs.names.within.Goals as goal

pub returns-then-depth-eq0 : goal.returns-then-depth-eq0
returns-then-depth-eq0 c = search names

pub overflow_sub-i : goal.overflow_sub-i
overflow_sub-i c = search names

pub overflow_mul-i : goal.overflow_mul-i
overflow_mul-i c = search names

pub offset_bounds-stack-i : goal.offset_bounds-stack-i
offset_bounds-stack-i c = search names

pub bounds-stack-i : goal.bounds-stack-i
bounds-stack-i c = search names

pub overflow_add-i : goal.overflow_add-i
overflow_add-i c = search names

pub offset_bounds-stack-i-2 : goal.offset_bounds-stack-i-2
offset_bounds-stack-i-2 c = search names

pub bounds-stack-i-2 : goal.bounds-stack-i-2
bounds-stack-i-2 c = search names

pub part-requires : goal.part-requires
part-requires c = search names

pub same-requires : goal.same-requires
same-requires c = search names

pub returns : goal.returns
returns c = search names
