-- `reaches` meets its contract: the flag tells of the bytes seen so far. Assumes nothing.
use Rattle.blocks.proofs.Flags.{flags}
use Rattle.blocks.proofs.reaches.Goals as goal

pub loop-k-init : goal.loop-k-init
loop-k-init c = (search flags, search flags)

pub overflow_add-high : goal.overflow_add-high
overflow_add-high c = search flags

pub bounds-s-at : goal.bounds-s-at
bounds-s-at c = search flags

pub overflow_step-k : goal.overflow_step-k
overflow_step-k c = search flags

pub loop-k-smaller : goal.loop-k-smaller
loop-k-smaller c = search flags

pub loop-k-preserved : goal.loop-k-preserved
loop-k-preserved c = (search flags, search flags)

pub returns : goal.returns
returns c = search flags
