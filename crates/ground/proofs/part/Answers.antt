-- `part` meets its contract: each return, by the tests that led there. Assumes nothing.
use Rattle.ground.proofs.Parts.{parts}
use Rattle.ground.proofs.part.Goals as goal

pub slice_bounds-result-count : goal.slice_bounds-result-count
slice_bounds-result-count c = search parts

pub slice_bounds-result-start : goal.slice_bounds-result-start
slice_bounds-result-start c = search parts

pub slice_bounds-result-end : goal.slice_bounds-result-end
slice_bounds-result-end c = search parts

pub returns-then-to-from : goal.returns-then-to-from
returns-then-to-from c = search parts

pub slice_bounds-result-count-then-s-to : goal.slice_bounds-result-count-then-s-to
slice_bounds-result-count-then-s-to c = search parts

pub slice_bounds-result-start-then-s-to : goal.slice_bounds-result-start-then-s-to
slice_bounds-result-start-then-s-to c = search parts

pub slice_bounds-result-end-then-s-to : goal.slice_bounds-result-end-then-s-to
slice_bounds-result-end-then-s-to c = search parts

pub returns-then-s-to : goal.returns-then-s-to
returns-then-s-to c = search parts

pub slice_bounds-result-start-2 : goal.slice_bounds-result-start-2
slice_bounds-result-start-2 c = search parts

pub slice_bounds-result-end-2 : goal.slice_bounds-result-end-2
slice_bounds-result-end-2 c = search parts

pub returns : goal.returns
returns c = search parts
