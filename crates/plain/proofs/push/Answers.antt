-- `push` meets its contract. Assumes nothing.
use mathlib.Core.Path.{refl}
use borrow.Author.Rules.{rules}
use Rattle.reader.specs.Names.{pushed}
use Rattle.plain.proofs.push.Goals as goal

pub overflow_mul-i : goal.overflow_mul-i
overflow_mul-i c = search rules

pub offset_bounds-stack-i : goal.offset_bounds-stack-i
offset_bounds-stack-i c = search rules

pub bounds-stack-i : goal.bounds-stack-i
bounds-stack-i c = search rules

pub overflow_add-stack : goal.overflow_add-stack
overflow_add-stack c = search rules

pub offset_bounds-stack-i-2 : goal.offset_bounds-stack-i-2
offset_bounds-stack-i-2 c = search rules

pub bounds-stack-i-2 : goal.bounds-stack-i-2
bounds-stack-i-2 c = search rules

pub shape_of-stack : goal.shape_of-stack
shape_of-stack c = search rules

pub returns : goal.returns
unfolding pushed
returns c = refl
