-- `cut_ref` meets its contract. Assumes nothing.
use borrow.Author.Tests.{eq-eqb, ne_eqb}
use Rattle.reader.specs.Cut.{cut_ref}
use native.Mathlib.Omega.{arith}
use borrow.Author.Rules.{rules}
use Rattle.ground.proofs.First.{found_has}
use Rattle.parser.specs.declared.first.Found.{Found}
use Rattle.parser.proofs.Words.{reference_gives}
use Rattle.reader.proofs.cut.cut_ref.Goals as goal

pub reference_end-requires : goal.reference_end-requires
reference_end-requires c = search rules

pub enum_known-end : goal.enum_known-end
enum_known-end c = search rules

pub enum_told-1 : goal.enum_told-1
enum_told-1 c = search rules

pub whole-requires : goal.whole-requires
whole-requires c = search rules

pub returns-in_default : goal.returns-in_default
unfolding cut_ref
returns-in_default c = simp (c.in_default.is, ← c.reference_end.ensures) c.whole.ensures

pub byte_at-requires : goal.byte_at-requires
byte_at-requires c = search rules

pub overflow_add-end : goal.overflow_add-end
overflow_add-end c =
    let h = found_has Found.At _ _ (reference_gives _ _) _ _ c.reference_end.ensures c.in-At.is in
    omega arith

pub whole-requires-then-byte_at-eq59 : goal.whole-requires-then-byte_at-eq59
whole-requires-then-byte_at-eq59 c = search rules

pub phase_at-requires : goal.phase_at-requires
phase_at-requires c = search rules

pub whole-requires-else-byte_at-eq59 : goal.whole-requires-else-byte_at-eq59
whole-requires-else-byte_at-eq59 c = search rules

pub returns-then-byte_at-eq59 : goal.returns-then-byte_at-eq59
unfolding cut_ref
returns-then-byte_at-eq59 c = simp (eq-eqb _ _ c.if-byte_at-eq59.true, ← c.byte_at.ensures, c.in-At.is, ← c.reference_end.ensures) c.whole-then-byte_at-eq59.ensures

pub returns-else-byte_at-eq59 : goal.returns-else-byte_at-eq59
unfolding cut_ref
returns-else-byte_at-eq59 c = simp (← c.phase_at.ensures, ne_eqb _ _ c.if-byte_at-eq59.false, ← c.byte_at.ensures, c.in-At.is, ← c.reference_end.ensures) c.whole-else-byte_at-eq59.ensures
