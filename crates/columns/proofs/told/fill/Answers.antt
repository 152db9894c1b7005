-- `fill` meets its contract. Assumes nothing.
use Rattle.columns.proofs.Answers.{fills}
use Rattle.columns.proofs.told.fill.Goals as goal

pub enum_told-1 : goal.enum_told-1
enum_told-1 c = search fills

pub enum_known-told : goal.enum_known-told
enum_known-told c = search fills

pub enum_known-told-in-Time-1 : goal.enum_known-told-in-Time-1
enum_known-told-in-Time-1 c = search fills

pub returns-then-column-count : goal.returns-then-column-count
returns-then-column-count c = search fills

pub offset_bounds-column-count : goal.offset_bounds-column-count
offset_bounds-column-count c = search fills

pub bounds-column-count : goal.bounds-column-count
bounds-column-count c = search fills

pub overflow_add-result : goal.overflow_add-result
overflow_add-result c = search fills

pub returns-in-Nothing : goal.returns-in-Nothing
returns-in-Nothing c = search fills

pub returns-in-Refused : goal.returns-in-Refused
returns-in-Refused c = search fills

pub shape_of-column : goal.shape_of-column
shape_of-column c = search fills

pub returns-else-column-count : goal.returns-else-column-count
returns-else-column-count c = search fills
