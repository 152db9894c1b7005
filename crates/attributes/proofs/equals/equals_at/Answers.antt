-- `equals_at` meets its contract. Assumes nothing.
use Rattle.attributes.proofs.Stages.{signs}
use Rattle.attributes.proofs.equals.equals_at.Goals as goal

pub trim_start-sign-requires : goal.trim_start-sign-requires
trim_start-sign-requires c = search signs

pub byte_at-requires : goal.byte_at-requires
byte_at-requires c = search signs

pub overflow_add-result : goal.overflow_add-result
overflow_add-result c = search signs

pub returns-then-byte_at-eq61 : goal.returns-then-byte_at-eq61
returns-then-byte_at-eq61 c = search signs

pub returns : goal.returns
returns c = search signs
