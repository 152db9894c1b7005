-- `cut_next` meets its contract. Assumes nothing.
use mathlib.Core.Path.{sym, ◌∙◌}
use native.Mathlib.Omega.{arith}
use borrow.Author.Rules.{rules}
use Rattle.ground.specs.Bytes.{lt}
use Rattle.ground.proofs.Choices.{choices}
use Rattle.ground.proofs.Lists.{stands_in}
use Rattle.reader.specs.Cut.{cut_next}
use Rattle.reader.proofs.cut.cut_next.Goals as goal

pub byte_at-b-requires : goal.byte_at-b-requires
byte_at-b-requires c = search rules

pub cut_markup-requires : goal.cut_markup-requires
cut_markup-requires c = stands_in c.args.document.now _ lt (sym c.byte_at-b.ensures ∙ c.in-60.is) (omega arith)

pub cut_ref-requires : goal.cut_ref-requires
cut_ref-requires c = search rules

pub cut_text-requires : goal.cut_text-requires
cut_text-requires c = search rules

pub returns-in-60 : goal.returns-in-60
unfolding cut_next
returns-in-60 c = rw (← c.byte_at-b.ensures) (search choices)

pub returns-in-38 : goal.returns-in-38
unfolding cut_next
returns-in-38 c = rw (← c.byte_at-b.ensures) (search choices)

pub returns-in_default : goal.returns-in_default
unfolding cut_next
returns-in_default c = rw (← c.byte_at-b.ensures) (search choices)
