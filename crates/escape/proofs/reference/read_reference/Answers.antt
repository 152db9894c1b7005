-- `read_reference` meets its contract. Assumes nothing.
use Rattle.escape.specs.Reference.{reference_of}
use Rattle.escape.proofs.Ranges.{saids}
use Rattle.escape.proofs.reference.read_reference.Goals as goal

pub same-requires : goal.same-requires
unfolding reference_of
same-requires c = search saids depth 12 fits 9000

pub returns-then-same : goal.returns-then-same
unfolding reference_of
returns-then-same c = search saids depth 12 fits 9000

pub same-requires-2 : goal.same-requires-2
unfolding reference_of
same-requires-2 c = search saids depth 12 fits 9000

pub returns-then-same-2 : goal.returns-then-same-2
unfolding reference_of
returns-then-same-2 c = search saids depth 12 fits 9000

pub same-requires-3 : goal.same-requires-3
unfolding reference_of
same-requires-3 c = search saids depth 12 fits 9000

pub returns-then-same-3 : goal.returns-then-same-3
unfolding reference_of
returns-then-same-3 c = search saids depth 12 fits 9000

pub same-requires-4 : goal.same-requires-4
unfolding reference_of
same-requires-4 c = search saids depth 12 fits 9000

pub returns-then-same-4 : goal.returns-then-same-4
unfolding reference_of
returns-then-same-4 c = search saids depth 12 fits 9000

pub same-requires-5 : goal.same-requires-5
unfolding reference_of
same-requires-5 c = search saids depth 12 fits 9000

pub returns-then-same-5 : goal.returns-then-same-5
unfolding reference_of
returns-then-same-5 c = search saids depth 12 fits 9000

pub starts_with-requires : goal.starts_with-requires
unfolding reference_of
starts_with-requires c = search saids depth 12 fits 9000

pub number-requires : goal.number-requires
unfolding reference_of
number-requires c = search saids depth 12 fits 9000

pub returns-then-starts_with : goal.returns-then-starts_with
unfolding reference_of
returns-then-starts_with c = search saids depth 12 fits 9000

pub starts_with-requires-2 : goal.starts_with-requires-2
unfolding reference_of
starts_with-requires-2 c = search saids depth 12 fits 9000

pub number-requires-then-starts_with-2 : goal.number-requires-then-starts_with-2
unfolding reference_of
number-requires-then-starts_with-2 c = search saids depth 12 fits 9000

pub returns-then-starts_with-2 : goal.returns-then-starts_with-2
unfolding reference_of
returns-then-starts_with-2 c = search saids depth 12 fits 9000

pub returns : goal.returns
unfolding reference_of
returns c = search saids depth 12 fits 9000
