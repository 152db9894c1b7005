-- `trim_end` meets its contract. Assumes nothing.
use lib.ListN.{length}
use borrow.Author.Rules.{rules}
use Rattle.white.specs.White.{kept}
use Rattle.white.proofs.Runs.{kept_within, trim_fits, trim_is}
use Rattle.white.proofs.trim_end.Goals as goal

pub part-content-requires : goal.part-content-requires
part-content-requires c = search rules

pub kept_len-requires : goal.kept_len-requires
kept_len-requires c = search rules

pub overflow_add-result : goal.overflow_add-result
overflow_add-result c = search (rules, trim_fits kept (λ bs. kept_within bs (length bs)))

pub returns : goal.returns
returns c = search (rules, trim_is kept (λ bs. kept_within bs (length bs)))
