-- `matched` meets its contract. Assumes nothing.
use borrow.Author.Rules.{rules}
use Rattle.emit.specs.End.{matched}
use Rattle.emit.proofs.end.matched.Goals as goal

pub differs-requires : goal.differs-requires
differs-requires c = search rules

pub refuse-requires : goal.refuse-requires
refuse-requires c = search rules

pub end-requires : goal.end-requires
end-requires c = search rules

pub returns-then-differs : goal.returns-then-differs
unfolding matched
returns-then-differs c = simp (c.if-differs.true, ← c.differs.ensures) c.refuse.ensures

pub returns-else-differs : goal.returns-else-differs
unfolding matched
returns-else-differs c = simp (c.if-differs.false, ← c.differs.ensures) c.end.ensures
