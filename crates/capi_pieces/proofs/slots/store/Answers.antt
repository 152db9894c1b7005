-- `store` meets its contract. Assumes nothing.
use Rattle.capi_pieces.proofs.Answers.{puts}
use Rattle.capi_pieces.proofs.slots.store.Goals as goal

pub enum_known-scan : goal.enum_known-scan
enum_known-scan c = search puts

pub put-requires : goal.put-requires
put-requires c = search puts

pub enum_known-scan-in-Open-1 : goal.enum_known-scan-in-Open-1
enum_known-scan-in-Open-1 c = search puts

pub state_number-requires : goal.state_number-requires
state_number-requires c = search puts

pub marks_in-requires : goal.marks_in-requires
marks_in-requires c = search puts

pub put-requires-in-Open : goal.put-requires-in-Open
put-requires-in-Open c = search puts

pub shape_of-slots-in-Closed : goal.shape_of-slots-in-Closed
shape_of-slots-in-Closed c = search puts

pub returns-in-Closed : goal.returns-in-Closed
returns-in-Closed c = search puts

pub shape_of-slots-in-Open : goal.shape_of-slots-in-Open
shape_of-slots-in-Open c = search puts

pub returns-in-Open : goal.returns-in-Open
returns-in-Open c = search puts
