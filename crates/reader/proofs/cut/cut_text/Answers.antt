-- `cut_text` meets its contract. Assumes nothing.
use Rattle.reader.specs.Cut.{cut_text}
use borrow.Author.Rules.{rules}
use Rattle.reader.proofs.cut.cut_text.Goals as goal

pub text_end-requires : goal.text_end-requires
text_end-requires c = search rules

pub enum_known-end : goal.enum_known-end
enum_known-end c = search rules

pub enum_told-1 : goal.enum_told-1
enum_told-1 c = search rules

pub whole-requires : goal.whole-requires
whole-requires c = search rules

pub returns-in_default : goal.returns-in_default
unfolding cut_text
returns-in_default c = simp (c.in_default.is, ← c.text_end.ensures) c.whole.ensures

pub phase_at-requires : goal.phase_at-requires
phase_at-requires c = search rules

pub whole-requires-2 : goal.whole-requires-2
whole-requires-2 c = search rules

pub returns : goal.returns
unfolding cut_text
returns c = simp (← c.phase_at.ensures, c.in-At.is, ← c.text_end.ensures) c.whole-2.ensures
