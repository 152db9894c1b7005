-- `cut_marked` meets its contract. Assumes nothing.
use Rattle.reader.specs.Cut.{cut_marked}
use native.Mathlib.Omega.{arith}
use borrow.Author.Rules.{rules}
use Rattle.reader.proofs.cut.cut_marked.Goals as goal

pub enum_known-found : goal.enum_known-found
enum_known-found c = search rules

pub enum_told-1 : goal.enum_told-1
enum_told-1 c = search rules

pub stop-requires : goal.stop-requires
stop-requires c = search rules

pub returns-in_default : goal.returns-in_default
unfolding cut_marked
returns-in_default c = simp c.in_default.is c.stop.ensures

pub overflow_add-end : goal.overflow_add-end
overflow_add-end c = let h = c.requires _ c.in-At.is in omega arith

pub whole-requires : goal.whole-requires
whole-requires c = search rules

pub returns : goal.returns
unfolding cut_marked
returns c = simp c.in-At.is c.whole.ensures
