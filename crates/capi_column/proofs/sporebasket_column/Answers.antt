-- `sporebasket_column` meets its contract. Assumes nothing.
use Rattle.capi_column.proofs.Columns.{columns}
use Rattle.capi_column.proofs.sporebasket_column.Goals as goal

pub bad_number-requires : goal.bad_number-requires
bad_number-requires c = search columns

pub returns-then-answer-lt-COLUMN_SLOTS : goal.returns-then-answer-lt-COLUMN_SLOTS
returns-then-answer-lt-COLUMN_SLOTS c = search columns

pub column-summary-requires : goal.column-summary-requires
column-summary-requires c = search columns

pub values-values-requires : goal.values-values-requires
values-values-requires c = search columns

pub report-requires : goal.report-requires
report-requires c = search columns

pub shape_of-stack : goal.shape_of-stack
shape_of-stack c = search columns

pub shape_of-column : goal.shape_of-column
shape_of-column c = search columns

pub shape_of-answer : goal.shape_of-answer
shape_of-answer c = search columns

pub returns : goal.returns
returns c = search columns
