-- `neither` meets its contract. Assumes nothing.
use Rattle.blocks.proofs.Flags.{tests}
use Rattle.blocks.proofs.neither.Goals as goal

pub fits-requires : goal.fits-requires
fits-requires c = search tests

pub either-requires : goal.either-requires
either-requires c = search tests

pub returns-then-fits : goal.returns-then-fits
returns-then-fits c = search tests

pub returns-else-fits : goal.returns-else-fits
returns-else-fits c = search tests
