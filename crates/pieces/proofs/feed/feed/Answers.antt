-- `feed` meets its contract. Assumes nothing.
use Rattle.pieces.proofs.Goes.{feeds}
use Rattle.pieces.proofs.feed.feed.Goals as goal

pub enum_known-scan : goal.enum_known-scan
enum_known-scan c = search feeds

pub refused-requires : goal.refused-requires
refused-requires c = search feeds

pub enum_known-scan-in-Open-1 : goal.enum_known-scan-in-Open-1
enum_known-scan-in-Open-1 c = search feeds

pub reached-requires : goal.reached-requires
reached-requires c = search feeds

pub overflow_sub-taken : goal.overflow_sub-taken
overflow_sub-taken c = search feeds

pub refused-requires-then-taken-piece : goal.refused-requires-then-taken-piece
refused-requires-then-taken-piece c = search feeds

pub go_on-requires : goal.go_on-requires
go_on-requires c = search feeds

pub refused-requires-else-reached : goal.refused-requires-else-reached
refused-requires-else-reached c = search feeds

pub returns-then-place-lt-LONGEST : goal.returns-then-place-lt-LONGEST
returns-then-place-lt-LONGEST c = search feeds

pub returns-else-place-lt-LONGEST : goal.returns-else-place-lt-LONGEST
returns-else-place-lt-LONGEST c = search feeds

pub returns-then-taken-piece : goal.returns-then-taken-piece
returns-then-taken-piece c = search feeds

pub returns-else-taken-piece : goal.returns-else-taken-piece
returns-else-taken-piece c = search feeds

pub returns-else-reached : goal.returns-else-reached
returns-else-reached c = search feeds
