-- `Item::values` meets its contract. Assumes nothing.
use borrow.Author.Rules.{rules}
use Rattle.ground.proofs.Choices.{by_case}
use Rattle.attributes.specs.Answers.{values_of}
use Rattle.attributes.proofs.item.Item.values.Goals as goal

pub enum_known-self : goal.enum_known-self
enum_known-self c = search rules

pub values-requires : goal.values-requires
values-requires c = search rules

pub enum_told-1 : goal.enum_told-1
enum_told-1 c = search rules

pub enum_known-self-in-Refused-1 : goal.enum_known-self-in-Refused-1
enum_known-self-in-Refused-1 c = search rules

pub values-requires-in-Refused : goal.values-requires-in-Refused
values-requires-in-Refused c = search rules

pub returns-in-Attribute : goal.returns-in-Attribute
returns-in-Attribute c = search (rules, by_case values_of)

pub returns-in-Nothing : goal.returns-in-Nothing
returns-in-Nothing c = search (rules, by_case values_of)

pub returns-in-Refused : goal.returns-in-Refused
returns-in-Refused c = search (rules, by_case values_of)
