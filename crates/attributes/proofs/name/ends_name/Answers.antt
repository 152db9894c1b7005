-- `ends_name` meets its contract. Assumes nothing.
use Rattle.attributes.proofs.Bytes.{bytes}
use Rattle.attributes.proofs.name.ends_name.Goals as goal

pub is_whitespace-requires : goal.is_whitespace-requires
is_whitespace-requires c = search bytes

pub is_quote-requires : goal.is_quote-requires
is_quote-requires c = search bytes

pub returns : goal.returns
returns c = search bytes
