-- `sporebasket_open_row` meets its contract. Assumes nothing.
use Rattle.capi_rows.proofs.Answers.{ones}
use Rattle.capi_rows.proofs.sporebasket_open_row.Goals as goal

pub returns-then-slots-lt-ROW_SLOTS : goal.returns-then-slots-lt-ROW_SLOTS
returns-then-slots-lt-ROW_SLOTS c = search ones

pub returns-then-state-lt-STATE_SLOTS : goal.returns-then-state-lt-STATE_SLOTS
returns-then-state-lt-STATE_SLOTS c = search ones

pub bounds-state-1 : goal.bounds-state-1
bounds-state-1 c = search ones

pub bounds-state-2 : goal.bounds-state-2
bounds-state-2 c = search ones

pub open_row-given-requires : goal.open_row-given-requires
open_row-given-requires c = search ones

pub enum_known-given : goal.enum_known-given
enum_known-given c = search ones

pub put-requires : goal.put-requires
put-requires c = search ones

pub enum_told-1 : goal.enum_told-1
enum_told-1 c = search ones

pub number-requires : goal.number-requires
number-requires c = search ones

pub shape_of-slots : goal.shape_of-slots
shape_of-slots c = search ones

pub returns-in-Row : goal.returns-in-Row
returns-in-Row c = search ones

pub returns-in-BadState : goal.returns-in-BadState
returns-in-BadState c = search ones
