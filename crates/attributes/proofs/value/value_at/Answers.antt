-- `value_at` meets its contract. Assumes nothing.
use Rattle.attributes.proofs.Stages.{values}
use Rattle.attributes.proofs.value.value_at.Goals as goal

pub trim_start-opening-requires : goal.trim_start-opening-requires
trim_start-opening-requires c = search values

pub byte_at-quote-requires : goal.byte_at-quote-requires
byte_at-quote-requires c = search values

pub is_quote-requires : goal.is_quote-requires
is_quote-requires c = search values

pub overflow_add-opening : goal.overflow_add-opening
overflow_add-opening c = search values

pub quoted-requires : goal.quoted-requires
quoted-requires c = search values

pub returns-then-is_quote : goal.returns-then-is_quote
returns-then-is_quote c = search values

pub returns : goal.returns
returns c = search values
