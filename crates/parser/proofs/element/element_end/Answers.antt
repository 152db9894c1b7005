-- `element_end` meets its contract. The invariants: the scan from `from` on is the scan from i on in the state of the loop. Assumes nothing.
use Rattle.parser.proofs.Passed.{tag_passes}
use Rattle.parser.proofs.element.element_end.Goals as goal

pub tag-init : goal.tag-init
tag-init c = search tag_passes

pub clear-i-requires : goal.clear-i-requires
clear-i-requires c = search tag_passes

pub overflow_add-i : goal.overflow_add-i
overflow_add-i c = search tag_passes

pub bounds-s-i : goal.bounds-s-i
bounds-s-i c = search tag_passes

pub overflow_add-i-in-39 : goal.overflow_add-i-in-39
overflow_add-i-in-39 c = search tag_passes

pub near-i-requires : goal.near-i-requires
near-i-requires c = search tag_passes

pub quote-init : goal.quote-init
quote-init c = search tag_passes

pub quote_of-requires : goal.quote_of-requires
quote_of-requires c = search tag_passes

pub bounds-s-i-in-quote : goal.bounds-s-i-in-quote
bounds-s-i-in-quote c = search tag_passes

pub overflow_add-i-in-quote : goal.overflow_add-i-in-quote
overflow_add-i-in-quote c = search tag_passes

pub tag-smaller-then-q-b : goal.tag-smaller-then-q-b
tag-smaller-then-q-b c = search tag_passes

pub tag-preserved-then-q-b : goal.tag-preserved-then-q-b
tag-preserved-then-q-b c = search tag_passes

pub clear-i-requires-in-quote : goal.clear-i-requires-in-quote
clear-i-requires-in-quote c = search tag_passes

pub overflow_add-i-in-quote-2 : goal.overflow_add-i-in-quote-2
overflow_add-i-in-quote-2 c = search tag_passes

pub quote-smaller : goal.quote-smaller
quote-smaller c = search tag_passes

pub quote-preserved : goal.quote-preserved
quote-preserved c = search tag_passes

pub overflow_add-i-in_default : goal.overflow_add-i-in_default
overflow_add-i-in_default c = search tag_passes

pub tag-smaller : goal.tag-smaller
tag-smaller c = search tag_passes

pub tag-preserved : goal.tag-preserved
tag-preserved c = search tag_passes

pub returns-then-s-i : goal.returns-then-s-i
returns-then-s-i c = search tag_passes

pub returns-in-62 : goal.returns-in-62
returns-in-62 c = search tag_passes

pub returns-then-s-i-2 : goal.returns-then-s-i-2
returns-then-s-i-2 c = search tag_passes
