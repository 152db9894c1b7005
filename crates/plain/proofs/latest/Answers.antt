-- `latest` meets its contract. Assumes nothing.
use borrow.Author.Tests.{eq-eqb, ne_eqb}
use borrow.Author.Rules.{rules}
use Rattle.reader.specs.Names.{latest}
use Rattle.plain.proofs.latest.Goals as goal

pub returns-then-depth-eq0 : goal.returns-then-depth-eq0
unfolding latest
returns-then-depth-eq0 c = simp (eq-eqb _ _ c.if-depth-eq0.true)

pub overflow_sub-i : goal.overflow_sub-i
overflow_sub-i c = search rules

pub overflow_mul-i : goal.overflow_mul-i
overflow_mul-i c = search rules

pub offset_bounds-stack-i : goal.offset_bounds-stack-i
offset_bounds-stack-i c = search rules

pub bounds-stack-i : goal.bounds-stack-i
bounds-stack-i c = search rules

pub overflow_add-to : goal.overflow_add-to
overflow_add-to c = search rules

pub offset_bounds-stack-i-2 : goal.offset_bounds-stack-i-2
offset_bounds-stack-i-2 c = search rules

pub bounds-stack-i-2 : goal.bounds-stack-i-2
bounds-stack-i-2 c = search rules

pub returns : goal.returns
unfolding latest
returns c = simp (ne_eqb _ _ c.if-depth-eq0.false)
