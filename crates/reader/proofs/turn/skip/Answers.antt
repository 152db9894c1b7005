-- `skip` meets its contract. Assumes nothing.
use borrow.Author.Rules.{rules}
use Rattle.reader.specs.Step.{skipped}
use Rattle.reader.proofs.turn.skip.Goals as goal

pub trim_start-requires : goal.trim_start-requires
trim_start-requires c = search rules

pub returns-then-settings : goal.returns-then-settings
unfolding skipped
returns-then-settings c = simp c.if-settings.true c.trim_start.ensures

pub returns-else-settings : goal.returns-else-settings
unfolding skipped
returns-else-settings c = simp c.if-settings.false
