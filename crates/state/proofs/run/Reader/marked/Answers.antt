-- `Reader::marked` meets its contract. Assumes nothing.
use mathlib.Core.Path.{refl}
use Rattle.state.specs.Make.{marked}
use Rattle.state.proofs.run.Reader.marked.Goals as goal

pub returns : goal.returns
unfolding marked
returns c = refl
