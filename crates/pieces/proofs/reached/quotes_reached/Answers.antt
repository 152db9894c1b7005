-- `quotes_reached` meets its contract. Assumes nothing.
use Rattle.pieces.proofs.Tests.{reacheds}
use Rattle.pieces.proofs.reached.quotes_reached.Goals as goal

pub enum_told-1 : goal.enum_told-1
enum_told-1 c = search reacheds

pub enum_told-in-SingleQ : goal.enum_told-in-SingleQ
enum_told-in-SingleQ c = search reacheds

pub enum_told-in-DoubleQ : goal.enum_told-in-DoubleQ
enum_told-in-DoubleQ c = search reacheds

pub returns-in-Outside : goal.returns-in-Outside
returns-in-Outside c = search reacheds

pub returns-in-SingleQ : goal.returns-in-SingleQ
returns-in-SingleQ c = search reacheds

pub returns-in-DoubleQ : goal.returns-in-DoubleQ
returns-in-DoubleQ c = search reacheds
