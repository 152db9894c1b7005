-- `new` meets its contract. Assumes nothing.
use borrow.Author.Tests.{le-ltb, lt-ltb}
use Rattle.state.specs.Make.{made, fresh}
use Rattle.state.proofs.run.Reader.new.Goals as goal

pub returns-then-length-gt-LONGEST : goal.returns-then-length-gt-LONGEST
unfolding made fresh
returns-then-length-gt-LONGEST c = simp (lt-ltb _ _ c.if-length-gt-LONGEST.true)

pub returns : goal.returns
unfolding made fresh
returns c = simp (le-ltb _ _ c.if-length-gt-LONGEST.false)
