-- `is_scalar` meets its contract. Assumes nothing.
use Rattle.escape.proofs.Ranges.{ranges}
use Rattle.escape.proofs.scalar.is_scalar.Goals as goal

pub returns-in-0-to-55295 : goal.returns-in-0-to-55295
returns-in-0-to-55295 c = search ranges

pub returns-in-57344-to-1114111 : goal.returns-in-57344-to-1114111
returns-in-57344-to-1114111 c = search ranges

pub returns-in_default : goal.returns-in_default
returns-in_default c = search ranges

pub returns-in_default-2 : goal.returns-in_default-2
returns-in_default-2 c = search ranges
