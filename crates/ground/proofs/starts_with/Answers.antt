-- `starts_with` meets its contract. The invariant: the comparison from the start on is the comparison from `at` and i on. Assumes nothing.
use Rattle.ground.proofs.Equal.{compares}
use Rattle.ground.proofs.starts_with.Goals as goal

pub loop-i-init : goal.loop-i-init
loop-i-init c = search compares

pub returns-then-s-at : goal.returns-then-s-at
returns-then-s-at c = search compares

pub bounds-s-at : goal.bounds-s-at
bounds-s-at c = search compares

pub bounds-prefix-i : goal.bounds-prefix-i
bounds-prefix-i c = search compares

pub returns-then-s-at-2 : goal.returns-then-s-at-2
returns-then-s-at-2 c = search compares

pub overflow_add-at : goal.overflow_add-at
overflow_add-at c = search compares

pub overflow_add-i : goal.overflow_add-i
overflow_add-i c = search compares

pub loop-i-smaller : goal.loop-i-smaller
loop-i-smaller c = search compares

pub loop-i-preserved : goal.loop-i-preserved
loop-i-preserved c = search compares

pub returns : goal.returns
returns c = search compares
