-- `clear` meets its contract. Assumes nothing.
use Rattle.blocks.proofs.Places.{befores}
use Rattle.blocks.proofs.clear.Goals as goal

pub fits-requires : goal.fits-requires
fits-requires c = search befores

pub least-requires : goal.least-requires
least-requires c = search befores

pub returns-then-fits : goal.returns-then-fits
returns-then-fits c = search befores

pub returns-else-fits : goal.returns-else-fits
returns-else-fits c = search befores
