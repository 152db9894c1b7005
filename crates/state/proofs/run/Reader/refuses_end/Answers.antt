-- `Reader::refuses_end` meets its contract. Assumes nothing.
use mathlib.Core.Path.{refl, sym}
use Rattle.ground.proofs.Choices.{choices, by_true, by_false, pick_lt, pick_bool}
use Rattle.state.specs.Make.{refuses_end}
use Rattle.state.proofs.run.Reader.refuses_end.Goals as goal

pub returns-then-settings : goal.returns-then-settings
unfolding refuses_end
returns-then-settings c = pick_lt _ _ _ _ _ c.if-self-gt0.true (by_true _ _ _ _ c.if-settings.true (sym (pick_bool _)))

pub returns-else-settings : goal.returns-else-settings
unfolding refuses_end
returns-else-settings c = pick_lt _ _ _ _ _ c.if-self-gt0.true (by_false _ _ _ _ c.if-settings.false refl)

pub returns-else-self-gt0 : goal.returns-else-self-gt0
unfolding refuses_end
returns-else-self-gt0 c = search choices
