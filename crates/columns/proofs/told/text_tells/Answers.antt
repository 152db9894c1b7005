-- `text_tells` meets its contract. Assumes nothing.
use borrow.Author.Rules.{rules}
use Rattle.columns.proofs.Answers.{text_tells_lem}
use Rattle.columns.proofs.told.text_tells.Goals as goal

pub read_time-requires : goal.read_time-requires
read_time-requires c = search (rules, text_tells_lem)

pub enum_told-1 : goal.enum_told-1
enum_told-1 c = search (rules, text_tells_lem)

pub enum_known-value : goal.enum_known-value
enum_known-value c = search (rules, text_tells_lem)

pub enum_told-in-Other : goal.enum_told-in-Other
enum_told-in-Other c = search (rules, text_tells_lem)

pub returns-in-Empty : goal.returns-in-Empty
returns-in-Empty c = search (rules, text_tells_lem)

pub returns-in-Time : goal.returns-in-Time
returns-in-Time c = search (rules, text_tells_lem)

pub returns-in-Other : goal.returns-in-Other
returns-in-Other c = search (rules, text_tells_lem)
