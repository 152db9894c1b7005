-- `encode` meets its contract. Assumes nothing.
use Rattle.escape.proofs.Encodes.{encodes}
use Rattle.escape.proofs.scalar.encode.Goals as goal

pub is_scalar-requires : goal.is_scalar-requires
is_scalar-requires c = search encodes

pub width-n-requires : goal.width-n-requires
width-n-requires c = search encodes

pub returns-then-out-n : goal.returns-then-out-n
returns-then-out-n c = search encodes

pub put-requires : goal.put-requires
put-requires c = search encodes

pub shape_of-out-then-is_scalar : goal.shape_of-out-then-is_scalar
shape_of-out-then-is_scalar c = search encodes

pub returns-then-is_scalar : goal.returns-then-is_scalar
returns-then-is_scalar c = search encodes

pub returns : goal.returns
returns c = search encodes
