-- `check_part` meets its contract: the answer for the part, counted in the whole. Assumes nothing.
use Rattle.utf8.proofs.Turns.{span_turns}
use Rattle.utf8.proofs.check_part.Goals as goal

pub part-requires : goal.part-requires
part-requires c = search span_turns

pub check_all-u-requires : goal.check_all-u-requires
check_all-u-requires c = search span_turns

pub enum_known-u : goal.enum_known-u
enum_known-u c = search span_turns

pub enum_told-1 : goal.enum_told-1
enum_told-1 c = search span_turns

pub returns-in_default : goal.returns-in_default
returns-in_default c = search span_turns

pub overflow_add-result : goal.overflow_add-result
overflow_add-result c = search span_turns

pub returns : goal.returns
returns c = search span_turns
