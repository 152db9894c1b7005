-- `values` meets its contract. Assumes nothing.
use borrow.Author.Rules.{rules}
use Rattle.ground.proofs.Choices.{by_case}
use Rattle.columns.specs.Outcome.{values_of}
use Rattle.columns.proofs.outcome.Outcome.values.Goals as goal

pub enum_told-1 : goal.enum_told-1
enum_told-1 c = search (rules, by_case values_of)

pub refusal-requires : goal.refusal-requires
refusal-requires c = search (rules, by_case values_of)

pub enum_known-self : goal.enum_known-self
enum_known-self c = search (rules, by_case values_of)

pub values-requires : goal.values-requires
values-requires c = search (rules, by_case values_of)

pub enum_known-self-in-BadTime-1 : goal.enum_known-self-in-BadTime-1
enum_known-self-in-BadTime-1 c = search (rules, by_case values_of)

pub refusal-requires-in-BadTime : goal.refusal-requires-in-BadTime
refusal-requires-in-BadTime c = search (rules, by_case values_of)

pub enum_known-self-in-ColumnFull-1 : goal.enum_known-self-in-ColumnFull-1
enum_known-self-in-ColumnFull-1 c = search (rules, by_case values_of)

pub refusal-requires-in-ColumnFull : goal.refusal-requires-in-ColumnFull
refusal-requires-in-ColumnFull c = search (rules, by_case values_of)

pub returns-in-Whole : goal.returns-in-Whole
returns-in-Whole c = search (rules, by_case values_of)

pub returns-in-ReaderRefused : goal.returns-in-ReaderRefused
returns-in-ReaderRefused c = search (rules, by_case values_of)

pub returns-in-BadTime : goal.returns-in-BadTime
returns-in-BadTime c = search (rules, by_case values_of)

pub returns-in-ColumnFull : goal.returns-in-ColumnFull
returns-in-ColumnFull c = search (rules, by_case values_of)
