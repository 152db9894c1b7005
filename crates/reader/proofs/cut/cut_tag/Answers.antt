-- `cut_tag` meets its contract. Assumes nothing.
use Rattle.reader.specs.Cut.{cut_tag}
use native.Mathlib.Omega.{arith}
use borrow.Author.Rules.{rules}
use Rattle.ground.proofs.First.{found_has}
use Rattle.parser.specs.declared.element.Found.{Found}
use Rattle.parser.proofs.Words.{element_gives}
use Rattle.reader.proofs.cut.cut_tag.Goals as goal

pub element_end-found-requires : goal.element_end-found-requires
element_end-found-requires c = search rules

pub enum_known-found : goal.enum_known-found
enum_known-found c = search rules

pub enum_told-1 : goal.enum_told-1
enum_told-1 c = search rules

pub unclosed_tag-requires : goal.unclosed_tag-requires
unclosed_tag-requires c = search rules

pub stop-requires : goal.stop-requires
stop-requires c = search rules

pub returns-in_default : goal.returns-in_default
unfolding cut_tag
returns-in_default c =
    simp (← c.element_end-found.ensures, ← c.unclosed_tag.ensures) (rw c.in_default.is c.stop.ensures)

pub overflow_add-end : goal.overflow_add-end
overflow_add-end c =
    let h = found_has Found.At _ _ (element_gives _ _) _ _ c.element_end-found.ensures c.in-At.is in
    omega arith

pub whole-requires : goal.whole-requires
whole-requires c = search rules

pub returns : goal.returns
unfolding cut_tag
returns c = simp (c.in-At.is, ← c.element_end-found.ensures) c.whole.ensures
