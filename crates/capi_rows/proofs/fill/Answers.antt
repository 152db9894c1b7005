-- `fill` meets its contract. The invariant: the first i rows are filled. Assumes nothing.
use borrow.Author.Rules.{rules}
use Rattle.capi_rows.proofs.Slots.{fills, row_more}
use Rattle.capi_rows.proofs.fill.Goals as goal

pub plan-filled-requires : goal.plan-filled-requires
plan-filled-requires c = search fills

pub count-count-requires : goal.count-count-requires
count-count-requires c = search fills

pub loop-i-init : goal.loop-i-init
loop-i-init c = search fills

pub overflow_add-i : goal.overflow_add-i
overflow_add-i c = search fills

pub open_row-requires : goal.open_row-requires
open_row-requires c = search fills

pub enum_known-row : goal.enum_known-row
enum_known-row c = search fills

pub enum_told-1 : goal.enum_told-1
enum_told-1 c = search fills

pub shape_of-slots-in_default : goal.shape_of-slots-in_default
shape_of-slots-in_default c = search fills

pub returns-in_default : goal.returns-in_default
returns-in_default c = search fills

pub overflow_mul-i : goal.overflow_mul-i
overflow_mul-i c = search fills

pub put-requires : goal.put-requires
put-requires c = search fills

pub overflow_add-i-in-loop-i : goal.overflow_add-i-in-loop-i
overflow_add-i-in-loop-i c = search fills

pub loop-i-smaller : goal.loop-i-smaller
loop-i-smaller c = search fills

pub loop-i-preserved : goal.loop-i-preserved
loop-i-preserved c = (search rules, row_more _ _ _ _ _ c.plan-filled.ensures _ c.count-count.ensures _ c.loop-i-test.true _ c.open_row.ensures _ _ _ c.in-Row.is c.loop-i.invariant.1 c.put.ensures)

pub shape_of-slots : goal.shape_of-slots
shape_of-slots c = search fills

pub returns : goal.returns
returns c = search fills
