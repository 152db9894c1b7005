-- `Reader::bad` meets its contract. Assumes nothing.
use mathlib.Core.Path.{refl}
use Rattle.state.specs.Make.{bad_state}
use Rattle.state.proofs.run.Reader.bad.Goals as goal

pub returns : goal.returns
unfolding bad_state
returns c = refl
