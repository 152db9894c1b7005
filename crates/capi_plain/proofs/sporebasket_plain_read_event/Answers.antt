-- `sporebasket_plain_read_event` meets its contract. Assumes nothing.
use Rattle.capi.proofs.Calls.{calls}
use Rattle.capi_plain.proofs.sporebasket_plain_read_event.Goals as goal

pub returns-then-answer-lt-ANSWER_SLOTS : goal.returns-then-answer-lt-ANSWER_SLOTS
returns-then-answer-lt-ANSWER_SLOTS c = search calls

pub load-requires : goal.load-requires
load-requires c = search calls

pub enum_known-reader : goal.enum_known-reader
enum_known-reader c = search calls

pub advance-step-requires : goal.advance-step-requires
advance-step-requires c = search calls

pub values-values-requires : goal.values-values-requires
values-values-requires c = search calls

pub move_on-requires : goal.move_on-requires
move_on-requires c = search calls

pub tell-requires : goal.tell-requires
tell-requires c = search calls

pub enum_told-1 : goal.enum_told-1
enum_told-1 c = search calls

pub bad-said-requires : goal.bad-said-requires
bad-said-requires c = search calls

pub values-values-requires-in-Nothing : goal.values-values-requires-in-Nothing
values-values-requires-in-Nothing c = search calls

pub tell-requires-in-Nothing : goal.tell-requires-in-Nothing
tell-requires-in-Nothing c = search calls

pub shape_of-stack : goal.shape_of-stack
shape_of-stack c = search calls

pub shape_of-state-in-Reader : goal.shape_of-state-in-Reader
shape_of-state-in-Reader c = search calls

pub shape_of-answer-in-Reader : goal.shape_of-answer-in-Reader
shape_of-answer-in-Reader c = search calls

pub returns-in-Reader : goal.returns-in-Reader
returns-in-Reader c = search calls

pub shape_of-state-in-Nothing : goal.shape_of-state-in-Nothing
shape_of-state-in-Nothing c = search calls

pub shape_of-answer-in-Nothing : goal.shape_of-answer-in-Nothing
shape_of-answer-in-Nothing c = search calls

pub returns-in-Nothing : goal.returns-in-Nothing
returns-in-Nothing c = search calls
