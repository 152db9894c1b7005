-- `read` meets its contract. Assumes nothing.
use Rattle.plain.proofs.Loop.{goings}
use Rattle.plain.proofs.read.Goals as goal

pub fresh-known-requires : goal.fresh-known-requires
fresh-known-requires c = search goings

pub loop-known-init : goal.loop-known-init
loop-known-init c = search goings

pub bounds-document-at : goal.bounds-document-at
bounds-document-at c = search goings

pub ends-requires : goal.ends-requires
ends-requires c = search goings

pub closed-requires : goal.closed-requires
closed-requires c = search goings

pub returns-then-ends : goal.returns-then-ends
returns-then-ends c = search goings

pub same-requires : goal.same-requires
same-requires c = search goings

pub tick-known-requires : goal.tick-known-requires
tick-known-requires c = search goings

pub loop-known-smaller : goal.loop-known-smaller
loop-known-smaller c = search goings

pub loop-known-preserved : goal.loop-known-preserved
loop-known-preserved c = search goings

pub unclosed-requires : goal.unclosed-requires
unclosed-requires c = search goings

pub returns : goal.returns
returns c = search goings
