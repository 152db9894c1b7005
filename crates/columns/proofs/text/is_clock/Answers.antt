-- `is_clock` meets its contract. Assumes nothing.
use Rattle.columns.proofs.Texts.{clocks}
use Rattle.columns.proofs.text.is_clock.Goals as goal

pub returns-then-s-ne5 : goal.returns-then-s-ne5
returns-then-s-ne5 c = search clocks

pub bounds-s-0 : goal.bounds-s-0
bounds-s-0 c = search clocks

pub is_digit-requires : goal.is_digit-requires
is_digit-requires c = search clocks

pub bounds-s-1 : goal.bounds-s-1
bounds-s-1 c = search clocks

pub is_digit-requires-2 : goal.is_digit-requires-2
is_digit-requires-2 c = search clocks

pub bounds-s-2 : goal.bounds-s-2
bounds-s-2 c = search clocks

pub bounds-s-3 : goal.bounds-s-3
bounds-s-3 c = search clocks

pub is_digit-requires-3 : goal.is_digit-requires-3
is_digit-requires-3 c = search clocks

pub bounds-s-4 : goal.bounds-s-4
bounds-s-4 c = search clocks

pub is_digit-requires-4 : goal.is_digit-requires-4
is_digit-requires-4 c = search clocks

pub returns : goal.returns
returns c = search clocks
