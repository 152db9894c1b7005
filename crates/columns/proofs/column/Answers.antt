-- `column` meets its contract. Assumes nothing.
use borrow.Author.Rules.{rules}
use Rattle.columns.proofs.Turns.{columns, times_count}
use Rattle.columns.proofs.column.Goals as goal

pub default-requires : goal.default-requires
default-requires c = search columns

pub new-requires : goal.new-requires
new-requires c = search columns

pub enum_known-refusal : goal.enum_known-refusal
enum_known-refusal c = search columns

pub enum_known-fresh : goal.enum_known-fresh
enum_known-fresh c = search columns

pub read-filled-requires : goal.read-filled-requires
read-filled-requires c = search columns

pub slice_bounds-order_of-end : goal.slice_bounds-order_of-end
slice_bounds-order_of-end c = search columns

pub slice_bounds-order_of-end-in-Fresh : goal.slice_bounds-order_of-end-in-Fresh
slice_bounds-order_of-end-in-Fresh c = search (rules, times_count)

pub order_of-order-requires : goal.order_of-order-requires
order_of-order-requires c = search columns

pub returns-in-Refused : goal.returns-in-Refused
returns-in-Refused c = search columns

pub shape_of-stack : goal.shape_of-stack
shape_of-stack c = search columns

pub shape_of-column : goal.shape_of-column
shape_of-column c = search columns

pub returns-in-Fresh : goal.returns-in-Fresh
returns-in-Fresh c = search columns
