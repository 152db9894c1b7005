-- `bad` meets its contract. Assumes nothing.
use Rattle.capi_attributes.proofs.Answers.{moves}
use Rattle.capi_attributes.proofs.bad.Goals as goal

pub refused-item-requires : goal.refused-item-requires
refused-item-requires c = search moves

pub values-requires : goal.values-requires
values-requires c = search moves

pub returns : goal.returns
returns c = search moves
