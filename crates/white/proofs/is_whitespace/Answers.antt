-- `is_whitespace` meets its contract. Assumes nothing.
use Rattle.white.proofs.Runs.{any_of_four}
use Rattle.white.proofs.is_whitespace.Goals as goal

pub returns : goal.returns
returns c = search any_of_four
