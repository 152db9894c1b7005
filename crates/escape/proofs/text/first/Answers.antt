-- `first` meets its contract. The invariant: the place is i and as many bytes more as stand before it from there on. Assumes nothing.
use Rattle.escape.proofs.Firsts.{firsts}
use Rattle.escape.proofs.text.first.Goals as goal

pub loop-i-init : goal.loop-i-init
loop-i-init c = search firsts

pub bounds-content-i : goal.bounds-content-i
bounds-content-i c = search firsts

pub returns-then-content-i : goal.returns-then-content-i
returns-then-content-i c = search firsts

pub overflow_add-i : goal.overflow_add-i
overflow_add-i c = search firsts

pub loop-i-smaller : goal.loop-i-smaller
loop-i-smaller c = search firsts

pub loop-i-preserved : goal.loop-i-preserved
loop-i-preserved c = search firsts

pub returns : goal.returns
returns c = search firsts
