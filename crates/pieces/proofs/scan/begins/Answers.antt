-- `begins` meets its contract. Assumes nothing.
use Rattle.pieces.proofs.Tests.{begin_cases}
use Rattle.pieces.proofs.scan.begins.Goals as goal

pub enum_told-1 : goal.enum_told-1
enum_told-1 c = search begin_cases

pub enum_told-in-Tag : goal.enum_told-in-Tag
enum_told-in-Tag c = search begin_cases

pub enum_known-what : goal.enum_known-what
enum_known-what c = search begin_cases

pub opener-requires : goal.opener-requires
opener-requires c = search begin_cases

pub enum_told-in-Text : goal.enum_told-in-Text
enum_told-in-Text c = search begin_cases

pub returns-in-Piece : goal.returns-in-Piece
returns-in-Piece c = search begin_cases

pub returns-in-Tag : goal.returns-in-Tag
returns-in-Tag c = search begin_cases

pub returns-in-Marked : goal.returns-in-Marked
returns-in-Marked c = search begin_cases

pub returns-in-Text : goal.returns-in-Text
returns-in-Text c = search begin_cases
