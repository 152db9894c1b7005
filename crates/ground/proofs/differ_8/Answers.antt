-- `differ_8` meets its contract: the flag tells of the bytes seen so far. Assumes nothing.
use Rattle.ground.proofs.Eights.{alikes}
use Rattle.ground.proofs.differ_8.Goals as goal

pub loop-k-init : goal.loop-k-init
loop-k-init c = (search alikes, search alikes)

pub overflow_add-other : goal.overflow_add-other
overflow_add-other c = search alikes

pub bounds-a-at : goal.bounds-a-at
bounds-a-at c = search alikes

pub overflow_add-other-in-loop-k : goal.overflow_add-other-in-loop-k
overflow_add-other-in-loop-k c = search alikes

pub bounds-b-at : goal.bounds-b-at
bounds-b-at c = search alikes

pub overflow_step-k : goal.overflow_step-k
overflow_step-k c = search alikes

pub loop-k-smaller : goal.loop-k-smaller
loop-k-smaller c = search alikes

pub loop-k-preserved : goal.loop-k-preserved
loop-k-preserved c = (search alikes, search alikes)

pub returns : goal.returns
returns c = search alikes
