-- `text` meets its contract. Assumes nothing.
use mathlib.Core.Path.{ap}
use mathlib.Core.Logic.{inl, inr}
use borrow.Author.Tests.{le-leb, lt-leb}
use borrow.Author.Rules.{rules}
use Rattle.plain.specs.Told.{text_of}
use Rattle.plain.proofs.Flags.{chosen}
use Rattle.plain.proofs.Parts.{not_done}
use Rattle.plain.specs.Told.{is_done}
use Rattle.plain.proofs.told.text.Goals as goal
use Rattle.plain.proofs.told.text.Goals.{then-reader, else-reader, in-Done+else-to-from, in_default}

pub enum_told-1 : goal.enum_told-1
enum_told-1 c = search rules

pub end-requires : goal.end-requires
end-requires c = search rules

pub tell-requires : goal.tell-requires
tell-requires c = search rules

pub returns-then-to-from : goal.returns-then-to-from
unfolding text_of
returns-then-to-from c = simp (← (chosen _ _ _ _ (elim c.if-reader.branch [ then-reader w ↦ inl (w.if-reader.true, w.to-is) | else-reader w ↦ inr (w.if-reader.false, w.to-is) ])), ap is_done c.in-Done.is, le-leb _ _ c.if-to-from.true) c.end.ensures

pub returns : goal.returns
unfolding text_of
returns c =
    simp (← (chosen _ _ _ _ (elim c.if-reader.branch [ then-reader w ↦ inl (w.if-reader.true, w.to-is) | else-reader w ↦ inr (w.if-reader.false, w.to-is) ])))
    (elim c.match-next.branch [
      | in-Done+else-to-from w ↦ simp (lt-leb _ _ w.if-to-from.false, ap is_done w.in-Done.is) c.tell.ensures
      | in_default w ↦ simp (not_done c.args.next w.in_default.not-Done) c.tell.ensures
    ])
