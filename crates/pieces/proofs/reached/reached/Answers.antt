-- `reached` meets its contract. Assumes nothing.
use Rattle.pieces.proofs.Tests.{reacheds}
use Rattle.pieces.proofs.reached.reached.Goals as goal

pub enum_told-1 : goal.enum_told-1
enum_told-1 c = search reacheds

pub enum_told-in-Opened : goal.enum_told-in-Opened
enum_told-in-Opened c = search reacheds

pub enum_told-in-Bang : goal.enum_told-in-Bang
enum_told-in-Bang c = search reacheds

pub enum_known-state : goal.enum_known-state
enum_known-state c = search reacheds

pub quotes_reached-requires : goal.quotes_reached-requires
quotes_reached-requires c = search reacheds

pub enum_known-state-in-Marked-1 : goal.enum_known-state-in-Marked-1
enum_known-state-in-Marked-1 c = search reacheds

pub marks_reached-requires : goal.marks_reached-requires
marks_reached-requires c = search reacheds

pub enum_told-in-Reference : goal.enum_told-in-Reference
enum_told-in-Reference c = search reacheds

pub enum_told-in-Text : goal.enum_told-in-Text
enum_told-in-Text c = search reacheds

pub returns-in-Start : goal.returns-in-Start
returns-in-Start c = search reacheds

pub returns-in-Opened : goal.returns-in-Opened
returns-in-Opened c = search reacheds

pub returns-in-Bang : goal.returns-in-Bang
returns-in-Bang c = search reacheds

pub returns-in-Tag : goal.returns-in-Tag
returns-in-Tag c = search reacheds

pub returns-in-Marked : goal.returns-in-Marked
returns-in-Marked c = search reacheds

pub returns-in-Reference : goal.returns-in-Reference
returns-in-Reference c = search reacheds

pub returns-in-Text : goal.returns-in-Text
returns-in-Text c = search reacheds

pub returns-else-taken-le-LONGEST : goal.returns-else-taken-le-LONGEST
returns-else-taken-le-LONGEST c = search reacheds
