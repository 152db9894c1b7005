-- `cut_question` meets its contract. Assumes nothing.
use Rattle.reader.specs.Cut.{cut_question}
use native.Mathlib.Omega.{arith}
use borrow.Author.Rules.{rules}
use Rattle.ground.proofs.First.{found_has}
use Rattle.parser.specs.declared.marks.Found.{Found}
use Rattle.parser.proofs.Words.{pi_gives}
use Rattle.reader.proofs.cut.cut_question.Goals as goal

pub pi_end-requires : goal.pi_end-requires
pi_end-requires c = search rules

pub enum_known-end : goal.enum_known-end
enum_known-end c = search rules

pub enum_told-1 : goal.enum_told-1
enum_told-1 c = search rules

pub unclosed-requires : goal.unclosed-requires
unclosed-requires c = search rules

pub stop-requires : goal.stop-requires
stop-requires c = search rules

pub returns-in_default : goal.returns-in_default
unfolding cut_question
returns-in_default c = simp (← c.unclosed.ensures, c.in_default.is, ← c.pi_end.ensures) c.stop.ensures

pub overflow_add-end : goal.overflow_add-end
overflow_add-end c =
    let h = found_has Found.At _ _ (pi_gives _ _) _ _ c.pi_end.ensures c.in-At.is in
    omega arith

pub whole-requires : goal.whole-requires
whole-requires c = search rules

pub returns : goal.returns
unfolding cut_question
returns c = simp (c.in-At.is, ← c.pi_end.ensures) c.whole.ensures
