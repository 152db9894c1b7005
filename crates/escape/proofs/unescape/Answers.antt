-- `unescape` meets its contract. Assumes nothing.
use Rattle.escape.proofs.Writes.{texts}
use Rattle.escape.proofs.unescape.Goals as goal

pub measure-measured-requires : goal.measure-measured-requires
measure-measured-requires c = search texts

pub enum_told-1 : goal.enum_told-1
enum_told-1 c = search texts

pub enum_told-in-Bytes : goal.enum_told-in-Bytes
enum_told-in-Bytes c = search texts

pub write-requires : goal.write-requires
write-requires c = search texts

pub returns-in-Refused : goal.returns-in-Refused
returns-in-Refused c = search texts

pub shape_of-galley : goal.shape_of-galley
shape_of-galley c = search texts

pub returns-in-Bytes : goal.returns-in-Bytes
returns-in-Bytes c = search texts
