-- `Span::inner` meets its contract. Assumes nothing.
use Rattle.state.proofs.Spans.{inners}
use Rattle.state.proofs.place.Span.inner.Goals as goal

pub returns-then-self : goal.returns-then-self
returns-then-self c = search inners

pub returns-then-size-front : goal.returns-then-size-front
returns-then-size-front c = search inners

pub returns-then-size-front-2 : goal.returns-then-size-front-2
returns-then-size-front-2 c = search inners

pub overflow_add-result : goal.overflow_add-result
overflow_add-result c = search inners

pub overflow_sub-result : goal.overflow_sub-result
overflow_sub-result c = search inners

pub returns : goal.returns
returns c = search inners
