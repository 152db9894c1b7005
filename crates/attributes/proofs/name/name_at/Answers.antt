-- `name_at` meets its contract. Assumes nothing.
use Rattle.attributes.proofs.Stages.{names}
use Rattle.attributes.proofs.name.name_at.Goals as goal

pub trim_start-from-requires : goal.trim_start-from-requires
trim_start-from-requires c = search names

pub returns-then-content-from : goal.returns-then-content-from
returns-then-content-from c = search names

pub returns-then-from-at : goal.returns-then-from-at
returns-then-from-at c = search names

pub name_end-to-requires : goal.name_end-to-requires
name_end-to-requires c = search names

pub returns-then-to-from : goal.returns-then-to-from
returns-then-to-from c = search names

pub returns : goal.returns
returns c = search names
