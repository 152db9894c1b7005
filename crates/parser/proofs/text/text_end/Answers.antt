-- `text_end` meets its contract. The invariant: the scan from the start on is the scan from i on. Assumes nothing.
use Rattle.parser.proofs.Passed.{text_passes}
use Rattle.parser.proofs.text.text_end.Goals as goal

pub loop-i-init : goal.loop-i-init
loop-i-init c = search text_passes

pub ahead-i-requires : goal.ahead-i-requires
ahead-i-requires c = search text_passes

pub bounds-s-i : goal.bounds-s-i
bounds-s-i c = search text_passes

pub overflow_add-i : goal.overflow_add-i
overflow_add-i c = search text_passes

pub loop-i-smaller : goal.loop-i-smaller
loop-i-smaller c = search text_passes

pub loop-i-preserved : goal.loop-i-preserved
loop-i-preserved c = search text_passes

pub returns-then-s-i : goal.returns-then-s-i
returns-then-s-i c = search text_passes

pub returns-in-60 : goal.returns-in-60
returns-in-60 c = search text_passes

pub returns-in-38 : goal.returns-in-38
returns-in-38 c = search text_passes
