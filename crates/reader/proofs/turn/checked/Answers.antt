-- `checked` meets its contract. Assumes nothing.
use borrow.Author.Rules.{rules}
use Rattle.reader.specs.Step.{checked}
use Rattle.reader.proofs.turn.checked.Goals as goal

pub check-utf8-requires : goal.check-utf8-requires
check-utf8-requires c = search rules

pub enum_known-utf8 : goal.enum_known-utf8
enum_known-utf8 c = search rules

pub enum_told-1 : goal.enum_told-1
enum_told-1 c = search rules

pub emit-requires : goal.emit-requires
emit-requires c = search rules

pub returns-in_default : goal.returns-in_default
unfolding checked
returns-in_default c = simp (c.in_default.is, ← c.check-utf8.ensures) c.emit.ensures

pub stop-requires : goal.stop-requires
stop-requires c = search rules

pub returns : goal.returns
unfolding checked
returns c = simp (c.in-IllFormed.is, ← c.check-utf8.ensures) c.stop.ensures
