-- `stop` meets its contract. Assumes nothing.
use borrow.Author.Rules.{rules}
use Rattle.state.specs.Make.{stopped}
use Rattle.state.proofs.run.Reader.stop.Goals as goal

pub marked-stopped-requires : goal.marked-stopped-requires
marked-stopped-requires c = search rules

pub refuse-requires : goal.refuse-requires
refuse-requires c = search rules

pub returns : goal.returns
unfolding stopped
returns c = simp (← c.marked-stopped.ensures) c.refuse.ensures
