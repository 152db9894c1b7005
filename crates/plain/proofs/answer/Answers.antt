-- `answer` meets its contract. Assumes nothing.
use mathlib.Core.Path.{sym, ◌∙◌}
use borrow.Author.Rules.{rules}
use Rattle.reader.specs.Step.{step}
use Rattle.plain.proofs.Phases.{placed}
use Rattle.reader.proofs.States.{sound_true}
use Rattle.state.proofs.Room.{capacity_slots}
use Rattle.plain.proofs.answer.Goals as goal

pub sound-requires : goal.sound-requires
sound-requires c = search rules

pub latest-last-requires : goal.latest-last-requires
latest-last-requires c = capacity_slots _ _ (sound_true _ _ _ (sym c.sound.ensures ∙ c.if-sound.true)).deep

pub capacity-requires : goal.capacity-requires
capacity-requires c = search rules

pub by_phase-requires : goal.by_phase-requires
by_phase-requires c = placed _ _ _ _ (sym c.sound.ensures ∙ c.if-sound.true) c.latest-last.ensures

pub bad-requires : goal.bad-requires
bad-requires c = search rules

pub returns-then-sound : goal.returns-then-sound
unfolding step
returns-then-sound c = simp (← c.capacity.ensures, ← c.latest-last.ensures, c.if-sound.true, ← c.sound.ensures) c.by_phase.ensures

pub returns-else-sound : goal.returns-else-sound
unfolding step
returns-else-sound c = simp (c.if-sound.false, ← c.sound.ensures) c.bad.ensures
