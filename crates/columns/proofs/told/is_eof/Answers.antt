-- `is_eof` meets its contract. Assumes nothing.
use borrow.Author.Rules.{rules}
use Rattle.columns.proofs.Answers.{eof_is}
use Rattle.columns.proofs.told.is_eof.Goals as goal

pub values-values-requires : goal.values-values-requires
values-values-requires c = search (rules, eof_is)

pub number-requires : goal.number-requires
number-requires c = search (rules, eof_is)

pub returns : goal.returns
returns c = search (rules, eof_is)
