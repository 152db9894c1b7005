-- `in_first` meets its contract. Assumes nothing.
use Rattle.pieces.proofs.Turns.{found_cases}
use Rattle.pieces.proofs.ahead.in_first.Goals as goal

pub enum_known-found : goal.enum_known-found
enum_known-found c = search found_cases

pub enum_told-1 : goal.enum_told-1
enum_told-1 c = search found_cases

pub returns-in-At : goal.returns-in-At
returns-in-At c = search found_cases

pub returns-in-End : goal.returns-in-End
returns-in-End c = search found_cases
