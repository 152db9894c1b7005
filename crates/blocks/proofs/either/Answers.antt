-- `either` meets its contract: each flag tells of its byte among those seen so far. Assumes nothing.
use Rattle.blocks.proofs.Flags.{flags}
use Rattle.blocks.proofs.either.Goals as goal

pub loop-k-init : goal.loop-k-init
loop-k-init c = (search flags, (search flags, search flags))

pub overflow_add-x : goal.overflow_add-x
overflow_add-x c = search flags

pub bounds-s-at : goal.bounds-s-at
bounds-s-at c = search flags

pub overflow_add-y : goal.overflow_add-y
overflow_add-y c = search flags

pub bounds-s-at-in-loop-k : goal.bounds-s-at-in-loop-k
bounds-s-at-in-loop-k c = search flags

pub overflow_step-k : goal.overflow_step-k
overflow_step-k c = search flags

pub loop-k-smaller : goal.loop-k-smaller
loop-k-smaller c = search flags

pub loop-k-preserved : goal.loop-k-preserved
loop-k-preserved c = (search flags, (search flags, search flags))

pub returns : goal.returns
returns c = search flags
