-- `Reader::moved` meets its contract. Assumes nothing.
use mathlib.Core.Path.{refl}
use Rattle.state.specs.Make.{moved}
use Rattle.state.proofs.run.Reader.moved.Goals as goal

pub returns : goal.returns
unfolding moved
returns c = refl
