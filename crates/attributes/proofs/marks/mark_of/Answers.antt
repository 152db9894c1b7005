-- `mark_of` meets its contract. The invariant: what is mixed of the whole name is what is mixed from here on. Assumes nothing.
use Rattle.attributes.proofs.Mixed.{mark_turns}
use Rattle.attributes.proofs.marks.mark_of.Goals as goal

pub part-name-requires : goal.part-name-requires
part-name-requires c = search mark_turns

pub loop-i-init : goal.loop-i-init
loop-i-init c = search mark_turns

pub bounds-name-i : goal.bounds-name-i
bounds-name-i c = search mark_turns

pub wide-requires : goal.wide-requires
wide-requires c = search mark_turns

pub overflow_add-mark : goal.overflow_add-mark
overflow_add-mark c = search mark_turns

pub overflow_mul-mark : goal.overflow_mul-mark
overflow_mul-mark c = search mark_turns

pub overflow_add-i : goal.overflow_add-i
overflow_add-i c = search mark_turns

pub loop-i-smaller : goal.loop-i-smaller
loop-i-smaller c = search mark_turns

pub loop-i-preserved : goal.loop-i-preserved
loop-i-preserved c = (search mark_turns, search mark_turns)

pub overflow_mul-result : goal.overflow_mul-result
overflow_mul-result c = search mark_turns

pub returns : goal.returns
returns c = (search mark_turns, search mark_turns)
