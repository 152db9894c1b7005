-- `open_row` meets its contract. Assumes nothing.
use Rattle.rows.proofs.Records.{ones}
use Rattle.rows.proofs.open_row.Goals as goal

pub capacity-most-requires : goal.capacity-most-requires
capacity-most-requires c = search ones

pub returns-then-most-names : goal.returns-then-most-names
returns-then-most-names c = search ones

pub returns-then-depth-eq0 : goal.returns-then-depth-eq0
returns-then-depth-eq0 c = search ones

pub returns-then-names-depth : goal.returns-then-names-depth
returns-then-names-depth c = search ones

pub overflow_sub-at : goal.overflow_sub-at
overflow_sub-at c = search ones

pub overflow_mul-at : goal.overflow_mul-at
overflow_mul-at c = search ones

pub offset_bounds-stack-at : goal.offset_bounds-stack-at
offset_bounds-stack-at c = search ones

pub bounds-stack-at : goal.bounds-stack-at
bounds-stack-at c = search ones

pub overflow_add-end : goal.overflow_add-end
overflow_add-end c = search ones

pub offset_bounds-stack-at-2 : goal.offset_bounds-stack-at-2
offset_bounds-stack-at-2 c = search ones

pub bounds-stack-at-2 : goal.bounds-stack-at-2
bounds-stack-at-2 c = search ones

pub returns-then-end-start : goal.returns-then-end-start
returns-then-end-start c = search ones

pub returns-then-position-end : goal.returns-then-position-end
returns-then-position-end c = search ones

pub returns : goal.returns
returns c = search ones
