-- `byte_at` meets its contract. Assumes nothing.
use borrow.Author.Rules.{rules}
use Rattle.ground.proofs.Lists.{byte_past}
use Rattle.ground.proofs.byte_at.Goals as goal

pub returns-then-s-i : goal.returns-then-s-i
returns-then-s-i c = search (rules, byte_past)

pub bounds-s-i : goal.bounds-s-i
bounds-s-i c = search (rules, byte_past)

pub returns : goal.returns
returns c = search (rules, byte_past)
