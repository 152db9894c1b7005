-- `in_tag` meets its contract. Assumes nothing.
use Rattle.pieces.proofs.Turns.{found_cases}
use Rattle.pieces.proofs.ahead.in_tag.Goals as goal

pub enum_known-found : goal.enum_known-found
enum_known-found c = search found_cases

pub enum_known-found-in-Open-1 : goal.enum_known-found-in-Open-1
enum_known-found-in-Open-1 c = search found_cases

pub returns-in-At : goal.returns-in-At
returns-in-At c = search found_cases

pub returns-in-Open : goal.returns-in-Open
returns-in-Open c = search found_cases
