-- `text_of_crate` is safe and ends: each turn goes on behind a reference. Assumes nothing.
use Rattle.std.proofs.Common.{◌-◌, length}
use Rattle.replay.proofs.references.text_of_crate.Given as goal

abbrev pub invariant-loop-i : goal.invariant-loop-i
invariant-loop-i g l = Unit {0}

abbrev pub decreases-loop-i : goal.decreases-loop-i
decreases-loop-i g l = length l.content - l.i
