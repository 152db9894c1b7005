-- `sporebasket_open_rows` meets its contract. Assumes nothing.
use Rattle.capi_rows.proofs.Answers.{lists}
use Rattle.capi_rows.proofs.sporebasket_open_rows.Goals as goal

pub returns-then-answer-lt-FILLED_SLOTS : goal.returns-then-answer-lt-FILLED_SLOTS
returns-then-answer-lt-FILLED_SLOTS c = search lists

pub bounds-answer-0 : goal.bounds-answer-0
bounds-answer-0 c = search lists

pub shape_of-answer-then-state-lt-STATE_SLOTS : goal.shape_of-answer-then-state-lt-STATE_SLOTS
shape_of-answer-then-state-lt-STATE_SLOTS c = search lists

pub returns-then-state-lt-STATE_SLOTS : goal.returns-then-state-lt-STATE_SLOTS
returns-then-state-lt-STATE_SLOTS c = search lists

pub bounds-state-1 : goal.bounds-state-1
bounds-state-1 c = search lists

pub bounds-state-2 : goal.bounds-state-2
bounds-state-2 c = search lists

pub fill-filled-requires : goal.fill-filled-requires
fill-filled-requires c = search lists

pub count-requires : goal.count-requires
count-requires c = search lists

pub bounds-answer-0-2 : goal.bounds-answer-0-2
bounds-answer-0-2 c = search lists

pub number-requires : goal.number-requires
number-requires c = search lists

pub shape_of-slots : goal.shape_of-slots
shape_of-slots c = search lists

pub shape_of-answer : goal.shape_of-answer
shape_of-answer c = search lists

pub returns : goal.returns
returns c = search lists
