-- `whole` meets its contract. Assumes nothing.
use mathlib.Core.Path.{refl}
use Rattle.reader.specs.Cut.{whole}
use Rattle.reader.proofs.cut.whole.Goals as goal

pub returns : goal.returns
unfolding whole
returns c = refl
