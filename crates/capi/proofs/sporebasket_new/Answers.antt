-- `sporebasket_new` meets its contract. Assumes nothing.
use Rattle.capi.proofs.Calls.{calls}
use Rattle.capi.proofs.sporebasket_new.Goals as goal

pub bad_number-requires : goal.bad_number-requires
bad_number-requires c = search calls

pub returns-then-state-lt-STATE_SLOTS : goal.returns-then-state-lt-STATE_SLOTS
returns-then-state-lt-STATE_SLOTS c = search calls

pub config-requires : goal.config-requires
config-requires c = search calls

pub new-requires : goal.new-requires
new-requires c = search calls

pub enum_known-reader : goal.enum_known-reader
enum_known-reader c = search calls

pub store-requires : goal.store-requires
store-requires c = search calls

pub enum_known-refusal : goal.enum_known-refusal
enum_known-refusal c = search calls

pub values-values-requires : goal.values-values-requires
values-values-requires c = search calls

pub shape_of-state : goal.shape_of-state
shape_of-state c = search calls

pub returns-in-Fresh : goal.returns-in-Fresh
returns-in-Fresh c = search calls

pub returns-in-Refused : goal.returns-in-Refused
returns-in-Refused c = search calls
