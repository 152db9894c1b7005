-- `unmatched` meets its contract. Assumes nothing.
use borrow.Author.Rules.{rules}
use Rattle.emit.specs.End.{unmatched}
use Rattle.emit.proofs.end.unmatched.Goals as goal

pub end-requires : goal.end-requires
end-requires c = search rules

pub refuse-requires : goal.refuse-requires
refuse-requires c = search rules

pub returns-then-reader : goal.returns-then-reader
unfolding unmatched
returns-then-reader c = simp c.if-reader.true c.end.ensures

pub returns-else-reader : goal.returns-else-reader
unfolding unmatched
returns-else-reader c = simp c.if-reader.false c.refuse.ensures
