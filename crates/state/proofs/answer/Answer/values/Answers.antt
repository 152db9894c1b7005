-- `values` meets its contract. Assumes nothing.
use borrow.Author.Rules.{rules}
use Rattle.ground.proofs.Choices.{by_case}
use Rattle.state.specs.Values.{values_of}
use Rattle.state.proofs.answer.Answer.values.Goals as goal

pub enum_known-self : goal.enum_known-self
enum_known-self c = search (rules, by_case values_of)

pub values-requires : goal.values-requires
values-requires c = search (rules, by_case values_of)

pub enum_known-self-in-Refused-1 : goal.enum_known-self-in-Refused-1
enum_known-self-in-Refused-1 c = search (rules, by_case values_of)

pub values-requires-in-Refused : goal.values-requires-in-Refused
values-requires-in-Refused c = search (rules, by_case values_of)

pub returns-in-Event : goal.returns-in-Event
returns-in-Event c = search (rules, by_case values_of)

pub returns-in-Refused : goal.returns-in-Refused
returns-in-Refused c = search (rules, by_case values_of)
