-- `width` meets its contract. Assumes nothing.
use Rattle.escape.proofs.Encodes.{widths}
use Rattle.escape.proofs.scalar.width.Goals as goal

pub returns-in-0-to-127 : goal.returns-in-0-to-127
returns-in-0-to-127 c = search widths

pub returns-in-128-to-2047 : goal.returns-in-128-to-2047
returns-in-128-to-2047 c = search widths

pub returns-in-2048-to-65535 : goal.returns-in-2048-to-65535
returns-in-2048-to-65535 c = search widths

pub returns-in_default : goal.returns-in_default
returns-in_default c = search widths
