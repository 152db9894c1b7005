-- `white_before` meets its contract. Assumes nothing.
use Rattle.white.proofs.Runs.{ends_turns}
use Rattle.white.proofs.white_before.Goals as goal

pub returns-then-end-n : goal.returns-then-end-n
returns-then-end-n c = search ends_turns

pub white_from-requires : goal.white_from-requires
white_from-requires c = search ends_turns

pub returns : goal.returns
returns c = search ends_turns
