-- `Told::number` meets its contract. Assumes nothing.
use Rattle.pieces.proofs.Tests.{numbers}
use Rattle.pieces.proofs.scan.Told.number.Goals as goal

pub enum_told-1 : goal.enum_told-1
enum_told-1 c = search numbers

pub enum_told-in-Open : goal.enum_told-in-Open
enum_told-in-Open c = search numbers

pub enum_known-self : goal.enum_known-self
enum_known-self c = search numbers

pub numbered-numbered-requires : goal.numbered-numbered-requires
numbered-numbered-requires c = search numbers

pub returns-in-At : goal.returns-in-At
returns-in-At c = search numbers

pub returns-in-Open : goal.returns-in-Open
returns-in-Open c = search numbers

pub returns-in-Refused : goal.returns-in-Refused
returns-in-Refused c = search numbers
