-- `trim_start` meets its contract. Assumes nothing.
use borrow.Author.Rules.{rules}
use Rattle.white.specs.White.{not_white, leading}
use Rattle.white.proofs.Runs.{until_within, trim_fits, trim_is}
use Rattle.white.proofs.trim_start.Goals as goal

pub part-content-requires : goal.part-content-requires
part-content-requires c = search rules

pub leading_len-requires : goal.leading_len-requires
leading_len-requires c = search rules

pub overflow_add-result : goal.overflow_add-result
overflow_add-result c = search (rules, trim_fits leading (until_within not_white))

pub returns : goal.returns
returns c = search (rules, trim_is leading (until_within not_white))
