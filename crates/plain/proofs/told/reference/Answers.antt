-- `reference` meets its contract. Assumes nothing.
use mathlib.Core.Path.{ap}
use borrow.Author.Rules.{rules}
use Rattle.plain.specs.Told.{reference_of}
use Rattle.plain.proofs.Parts.{not_text}
use Rattle.ground.proofs.Choices.{by_true}
use Rattle.plain.specs.Told.{is_text}
use Rattle.plain.proofs.told.reference.Goals as goal

pub enum_told-1 : goal.enum_told-1
enum_told-1 c = search rules

pub inner-requires : goal.inner-requires
inner-requires c = search rules

pub tell-requires : goal.tell-requires
tell-requires c = search rules

pub returns-in-InsideText : goal.returns-in-InsideText
unfolding reference_of
returns-in-InsideText c = by_true _ _ _ _ (ap is_text c.in-InsideText.is) (simp (← c.inner.ensures) c.tell.ensures)

pub tell-requires-then-reader : goal.tell-requires-then-reader
tell-requires-then-reader c = search rules

pub refuse-requires : goal.refuse-requires
refuse-requires c = search rules

pub returns-then-reader : goal.returns-then-reader
unfolding reference_of
returns-then-reader c = simp (not_text c.args.next c.in_default.not-InsideText, c.if-reader.true) c.tell-then-reader.ensures

pub returns : goal.returns
unfolding reference_of
returns c = simp (not_text c.args.next c.in_default.not-InsideText, c.if-reader.false) c.refuse.ensures
