-- `Reader::with_depth` meets its contract. Assumes nothing.
use mathlib.Core.Path.{refl}
use Rattle.state.specs.Make.{with_depth}
use Rattle.state.proofs.run.Reader.with_depth.Goals as goal

pub returns : goal.returns
unfolding with_depth
returns c = refl
