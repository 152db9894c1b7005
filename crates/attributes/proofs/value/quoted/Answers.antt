-- `quoted` meets its contract. Assumes nothing.
use Rattle.attributes.proofs.Stages.{values}
use Rattle.attributes.proofs.value.quoted.Goals as goal

pub value_end-to-requires : goal.value_end-to-requires
value_end-to-requires c = search values

pub returns-then-content-to : goal.returns-then-content-to
returns-then-content-to c = search values

pub bounds-content-to : goal.bounds-content-to
bounds-content-to c = search values

pub returns-then-content-to-eq60 : goal.returns-then-content-to-eq60
returns-then-content-to-eq60 c = search values

pub returns : goal.returns
returns c = search values
