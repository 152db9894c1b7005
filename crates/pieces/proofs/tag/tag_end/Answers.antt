-- `tag_end` meets its contract. Assumes nothing.
use Rattle.pieces.proofs.Turns.{quote_cases}
use Rattle.pieces.proofs.tag.tag_end.Goals as goal

pub enum_told-1 : goal.enum_told-1
enum_told-1 c = search quote_cases

pub element_end-requires : goal.element_end-requires
element_end-requires c = search quote_cases

pub enum_told-in-SingleQ : goal.enum_told-in-SingleQ
enum_told-in-SingleQ c = search quote_cases

pub quoted_end-requires : goal.quoted_end-requires
quoted_end-requires c = search quote_cases

pub enum_told-in-DoubleQ : goal.enum_told-in-DoubleQ
enum_told-in-DoubleQ c = search quote_cases

pub quoted_end-requires-in-DoubleQ : goal.quoted_end-requires-in-DoubleQ
quoted_end-requires-in-DoubleQ c = search quote_cases

pub returns-in-Outside : goal.returns-in-Outside
returns-in-Outside c = search quote_cases

pub returns-in-SingleQ : goal.returns-in-SingleQ
returns-in-SingleQ c = search quote_cases

pub returns-in-DoubleQ : goal.returns-in-DoubleQ
returns-in-DoubleQ c = search quote_cases
