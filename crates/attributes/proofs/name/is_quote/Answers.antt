-- `is_quote` meets its contract. Assumes nothing.
use Rattle.attributes.proofs.Bytes.{bytes}
use Rattle.attributes.proofs.name.is_quote.Goals as goal

pub returns : goal.returns
returns c = search bytes
