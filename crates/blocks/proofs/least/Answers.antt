-- `least` meets its contract: the least place so far. Assumes nothing.
use Rattle.blocks.proofs.Places.{places}
use Rattle.blocks.proofs.least.Goals as goal

pub loop-k-init : goal.loop-k-init
loop-k-init c = (search places, search places)

pub overflow_add-at : goal.overflow_add-at
overflow_add-at c = search places

pub bounds-s-at : goal.bounds-s-at
bounds-s-at c = search places

pub overflow_cast-k : goal.overflow_cast-k
overflow_cast-k c = search places

pub place-requires : goal.place-requires
place-requires c = search places

pub lesser-least-requires : goal.lesser-least-requires
lesser-least-requires c = search places

pub overflow_step-k : goal.overflow_step-k
overflow_step-k c = search places

pub loop-k-smaller : goal.loop-k-smaller
loop-k-smaller c = search places

pub loop-k-preserved : goal.loop-k-preserved
loop-k-preserved c = (search places, search places)

pub overflow_cast-result : goal.overflow_cast-result
overflow_cast-result c = search places

pub returns : goal.returns
returns c = search places
