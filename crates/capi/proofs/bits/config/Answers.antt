-- `config` meets its contract. Assumes nothing.
use Rattle.capi.proofs.Numbers.{numbers}
use Rattle.capi.proofs.bits.config.Goals as goal

pub odd-requires : goal.odd-requires
odd-requires c = search numbers

pub odd-requires-2 : goal.odd-requires-2
odd-requires-2 c = search numbers

pub odd-requires-3 : goal.odd-requires-3
odd-requires-3 c = search numbers

pub odd-requires-4 : goal.odd-requires-4
odd-requires-4 c = search numbers

pub odd-requires-5 : goal.odd-requires-5
odd-requires-5 c = search numbers

pub odd-requires-6 : goal.odd-requires-6
odd-requires-6 c = search numbers

pub odd-requires-7 : goal.odd-requires-7
odd-requires-7 c = search numbers

pub odd-requires-8 : goal.odd-requires-8
odd-requires-8 c = search numbers

pub odd-requires-9 : goal.odd-requires-9
odd-requires-9 c = search numbers

pub returns : goal.returns
returns c = search numbers
