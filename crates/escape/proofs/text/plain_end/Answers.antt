-- `plain_end` meets its contract. The invariant: the place is i and as many bytes more as stand before it from there on. Assumes nothing.
use Rattle.escape.proofs.Firsts.{blocks}
use Rattle.escape.proofs.text.plain_end.Goals as goal

pub loop-i-init : goal.loop-i-init
loop-i-init c = search blocks

pub neither-requires : goal.neither-requires
neither-requires c = search blocks

pub overflow_add-i : goal.overflow_add-i
overflow_add-i c = search blocks

pub loop-i-smaller : goal.loop-i-smaller
loop-i-smaller c = search blocks

pub loop-i-preserved : goal.loop-i-preserved
loop-i-preserved c = search blocks

pub first-requires : goal.first-requires
first-requires c = search blocks

pub returns : goal.returns
returns c = search blocks
