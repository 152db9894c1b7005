-- `cleared` meets its contract. Assumes nothing.
use Rattle.columns.proofs.Texts.{clears}
use Rattle.columns.proofs.text.cleared.Goals as goal

pub trim_start-from-requires : goal.trim_start-from-requires
trim_start-from-requires c = search clears

pub trim_end-to-requires : goal.trim_end-to-requires
trim_end-to-requires c = search clears

pub part-requires : goal.part-requires
part-requires c = search clears

pub returns : goal.returns
returns c = search clears
