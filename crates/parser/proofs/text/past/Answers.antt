-- `past` meets its contract: so far it has passed bytes that are neither. Assumes nothing.
use Rattle.parser.proofs.Passed.{text_passes}
use Rattle.parser.proofs.text.past.Goals as goal

pub loop-i-init : goal.loop-i-init
loop-i-init c = search text_passes

pub neither-requires : goal.neither-requires
neither-requires c = search text_passes

pub overflow_add-i : goal.overflow_add-i
overflow_add-i c = search text_passes

pub loop-i-smaller : goal.loop-i-smaller
loop-i-smaller c = search text_passes

pub loop-i-preserved : goal.loop-i-preserved
loop-i-preserved c = search text_passes

pub returns : goal.returns
returns c = search text_passes
