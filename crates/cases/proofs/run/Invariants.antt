-- `run` is safe and ends. Assumes nothing.
use Rattle.std.proofs.Common.{◌-◌, length}
use Rattle.cases.proofs.run.Given as goal

abbrev pub invariant-loop-at : goal.invariant-loop-at
invariant-loop-at g l = Unit {0}

abbrev pub decreases-loop-at : goal.decreases-loop-at
decreases-loop-at g l = length l.s - l.at
