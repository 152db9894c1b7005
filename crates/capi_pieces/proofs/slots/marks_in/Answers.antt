-- `marks_in` meets its contract. Assumes nothing.
use Rattle.capi_pieces.proofs.Answers.{puts}
use Rattle.capi_pieces.proofs.slots.marks_in.Goals as goal

pub enum_told-1 : goal.enum_told-1
enum_told-1 c = search puts

pub enum_told-in-Opened : goal.enum_told-in-Opened
enum_told-in-Opened c = search puts

pub enum_told-in-Bang : goal.enum_told-in-Bang
enum_told-in-Bang c = search puts

pub enum_told-in-Tag : goal.enum_told-in-Tag
enum_told-in-Tag c = search puts

pub enum_known-state : goal.enum_known-state
enum_known-state c = search puts

pub enum_told-in-Reference : goal.enum_told-in-Reference
enum_told-in-Reference c = search puts

pub enum_told-in-Text : goal.enum_told-in-Text
enum_told-in-Text c = search puts

pub returns-in-Start : goal.returns-in-Start
returns-in-Start c = search puts

pub returns-in-Opened : goal.returns-in-Opened
returns-in-Opened c = search puts

pub returns-in-Bang : goal.returns-in-Bang
returns-in-Bang c = search puts

pub returns-in-Tag : goal.returns-in-Tag
returns-in-Tag c = search puts

pub returns-in-Marked : goal.returns-in-Marked
returns-in-Marked c = search puts

pub returns-in-Reference : goal.returns-in-Reference
returns-in-Reference c = search puts

pub returns-in-Text : goal.returns-in-Text
returns-in-Text c = search puts
