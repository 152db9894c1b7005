-- `closed` meets its contract. Assumes nothing.
use mathlib.Core.Logic.{inl, inr}
use borrow.Author.Rules.{rules}
use Rattle.plain.specs.Told.{closed_of}
use Rattle.plain.proofs.Flags.{chosen}
use Rattle.plain.proofs.Parts.{ended}
use Rattle.plain.proofs.told.closed.Goals as goal
use Rattle.plain.proofs.told.closed.Goals.{then-b, else-b}

pub overflow_add-to : goal.overflow_add-to
overflow_add-to c = search rules

pub enum_told-1 : goal.enum_told-1
enum_told-1 c = search rules

pub no_markup-requires : goal.no_markup-requires
no_markup-requires c = search rules

pub stop-requires : goal.stop-requires
stop-requires c = search rules

pub behind-requires : goal.behind-requires
behind-requires c = search rules

pub whole-requires : goal.whole-requires
whole-requires c = search rules

pub returns-in-Bang : goal.returns-in-Bang
unfolding closed_of
returns-in-Bang c = simp (c.in-Bang.is, ← c.no_markup.ensures) c.stop.ensures

pub returns-in_default : goal.returns-in_default
unfolding closed_of
returns-in_default c = simp (ended c.args.reader c.args.known c.args.last c.args.room c.args.b c.args.known.part c.in_default.not-Bang, ← (chosen _ _ _ _ (elim c.if-b.branch [ then-b w ↦ inl (w.if-b.true, w.to-is) | else-b w ↦ inr (w.if-b.false, w.to-is) ])), ← c.behind.ensures) c.whole.ensures
