-- `fits` meets its contract. Assumes nothing.
use Rattle.blocks.proofs.Flags.{tests}
use Rattle.blocks.proofs.fits.Goals as goal

pub overflow_sub-result : goal.overflow_sub-result
overflow_sub-result c = search tests

pub returns-then-s-at : goal.returns-then-s-at
returns-then-s-at c = search tests

pub returns-else-s-at : goal.returns-else-s-at
returns-else-s-at c = search tests
