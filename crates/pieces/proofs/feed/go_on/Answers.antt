-- `go_on` meets its contract. Assumes nothing.
use Rattle.pieces.proofs.Goes.{goes}
use Rattle.pieces.proofs.feed.go_on.Goals as goal

pub onward-requires : goal.onward-requires
onward-requires c = search goes

pub enum_known-place : goal.enum_known-place
enum_known-place c = search goes

pub overflow_add-result : goal.overflow_add-result
overflow_add-result c = search goes

pub overflow_add-result-in-At : goal.overflow_add-result-in-At
overflow_add-result-in-At c = search goes

pub enum_known-state : goal.enum_known-state
enum_known-state c = search goes

pub overflow_add-result-in-Open : goal.overflow_add-result-in-Open
overflow_add-result-in-Open c = search goes

pub returns-in-At : goal.returns-in-At
returns-in-At c = search goes

pub returns-in-Open : goal.returns-in-Open
returns-in-Open c = search goes
