-- `copy` meets its contract. The invariant: the first k bytes are copied. Assumes nothing.
use Rattle.ground.proofs.Copies.{copies}
use Rattle.escape.proofs.text.copy.Goals as goal

pub loop-k-init : goal.loop-k-init
loop-k-init c = search copies

pub bounds-bytes-k : goal.bounds-bytes-k
bounds-bytes-k c = search copies

pub bounds-out-k : goal.bounds-out-k
bounds-out-k c = search copies

pub overflow_step-k : goal.overflow_step-k
overflow_step-k c = search copies

pub loop-k-smaller : goal.loop-k-smaller
loop-k-smaller c = search copies

pub loop-k-preserved : goal.loop-k-preserved
loop-k-preserved c = search copies

pub shape_of-out : goal.shape_of-out
shape_of-out c = search copies

pub returns : goal.returns
returns c = search copies
