-- `ahead` meets its contract. Assumes nothing.
use Rattle.parser.proofs.Passed.{text_passes}
use Rattle.parser.proofs.text.ahead.Goals as goal

pub clear-k-requires : goal.clear-k-requires
clear-k-requires c = search text_passes

pub overflow_add-result : goal.overflow_add-result
overflow_add-result c = search text_passes

pub overflow_add-from : goal.overflow_add-from
overflow_add-from c = search text_passes

pub past-requires : goal.past-requires
past-requires c = search text_passes

pub returns-then-k-lt-BLOCK : goal.returns-then-k-lt-BLOCK
returns-then-k-lt-BLOCK c = search text_passes

pub returns-else-k-lt-BLOCK : goal.returns-else-k-lt-BLOCK
returns-else-k-lt-BLOCK c = search text_passes
