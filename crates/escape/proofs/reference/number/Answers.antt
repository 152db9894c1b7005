-- `number` meets its contract. The invariant: the number of all digits is that of those from here on, behind the value so far. Assumes nothing.
use Rattle.escape.proofs.Numbers.{numbers}
use Rattle.escape.proofs.reference.number.Goals as goal

pub returns-then-content-from : goal.returns-then-content-from
returns-then-content-from c = search numbers

pub loop-i-init : goal.loop-i-init
loop-i-init c = search numbers

pub bounds-content-i : goal.bounds-content-i
bounds-content-i c = search numbers

pub digit_of-digit-requires : goal.digit_of-digit-requires
digit_of-digit-requires c = search numbers

pub returns-then-base-digit : goal.returns-then-base-digit
returns-then-base-digit c = search numbers

pub more-value-requires : goal.more-value-requires
more-value-requires c = search numbers

pub overflow_add-i : goal.overflow_add-i
overflow_add-i c = search numbers

pub loop-i-smaller : goal.loop-i-smaller
loop-i-smaller c = search numbers

pub loop-i-preserved : goal.loop-i-preserved
loop-i-preserved c = search numbers

pub character-requires : goal.character-requires
character-requires c = search numbers

pub returns : goal.returns
returns c = search numbers
