-- `is_digit` meets its contract. Assumes nothing.
use Rattle.columns.proofs.Texts.{clocks}
use Rattle.columns.proofs.text.is_digit.Goals as goal

pub returns : goal.returns
returns c = search clocks
