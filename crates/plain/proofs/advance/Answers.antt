-- `advance` meets its contract. Assumes nothing.
use borrow.Author.Rules.{rules}
use Rattle.plain.proofs.Calls.{name_fits, noted, kept}
use Rattle.plain.proofs.Calls.{slots_there}
use Rattle.plain.proofs.advance.Goals as goal

pub answer-step-requires : goal.answer-step-requires
answer-step-requires c = search rules

pub values-values-requires : goal.values-values-requires
values-values-requires c = search rules

pub overflow_add-to : goal.overflow_add-to
overflow_add-to c = name_fits _ _ _ _ _ c.answer-step.ensures c.values-values.ensures c.if-values-eq1.true

pub push-requires : goal.push-requires
push-requires c = slots_there _ _ _ _ _ c.answer-step.ensures c.values-values.ensures c.if-values-eq1.true

pub shape_of-stack-then-values-eq1 : goal.shape_of-stack-then-values-eq1
shape_of-stack-then-values-eq1 c = search rules

pub returns-then-values-eq1 : goal.returns-then-values-eq1
returns-then-values-eq1 c = noted _ _ _ _ _ c.answer-step.ensures c.values-values.ensures c.if-values-eq1.true _ c.push.ensures

pub shape_of-stack-else-values-eq1 : goal.shape_of-stack-else-values-eq1
shape_of-stack-else-values-eq1 c = search rules

pub returns-else-values-eq1 : goal.returns-else-values-eq1
returns-else-values-eq1 c = kept _ _ _ _ _ c.answer-step.ensures c.values-values.ensures c.if-values-eq1.false
