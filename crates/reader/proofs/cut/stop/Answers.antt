-- `stop` meets its contract. Assumes nothing.
use mathlib.Core.Path.{refl}
use Rattle.reader.specs.Cut.{stop}
use Rattle.reader.proofs.cut.stop.Goals as goal

pub returns : goal.returns
unfolding stop
returns c = refl
