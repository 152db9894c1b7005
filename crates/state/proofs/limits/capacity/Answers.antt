-- `capacity` meets its contract. Assumes nothing.
use Rattle.state.specs.Limits.{capacity}
use borrow.Author.Tests.{lt-ltb, le-ltb}
use Rattle.state.proofs.limits.capacity.Goals as goal

-- src/limits.rt:16:1
pub returns-then-names-lt-MOST : goal.returns-then-names-lt-MOST
unfolding capacity
returns-then-names-lt-MOST c = simp (lt-ltb _ _ c.if-names-lt-MOST.true)

-- src/limits.rt:16:1
pub returns-else-names-lt-MOST : goal.returns-else-names-lt-MOST
unfolding capacity
returns-else-names-lt-MOST c = simp (le-ltb _ _ c.if-names-lt-MOST.false)
