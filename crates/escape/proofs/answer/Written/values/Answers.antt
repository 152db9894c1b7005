-- `Written::values` meets its contract. Assumes nothing.
use borrow.Author.Rules.{rules}
use Rattle.ground.proofs.Choices.{by_case}
use Rattle.escape.specs.Answers.{values_of}
use borrow.Author.Rules.{rules}
use Rattle.escape.proofs.answer.Written.values.Goals as goal

pub enum_known-self : goal.enum_known-self
enum_known-self c = search (rules, by_case values_of)

pub enum_known-self-in-Refused-1 : goal.enum_known-self-in-Refused-1
enum_known-self-in-Refused-1 c = search (rules, by_case values_of)

pub values-requires : goal.values-requires
values-requires c = search (rules, by_case values_of)

pub returns-in-Bytes : goal.returns-in-Bytes
returns-in-Bytes c = search (rules, by_case values_of)

pub returns-in-Refused : goal.returns-in-Refused
returns-in-Refused c = search (rules, by_case values_of)
