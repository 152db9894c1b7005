-- `name_end` is safe and ends. Assumes nothing.
use Rattle.std.proofs.Common.{◌-◌, length}
use Rattle.replay.proofs.tags.name_end.Given as goal

abbrev pub invariant-loop-i : goal.invariant-loop-i
invariant-loop-i l = Unit {0}

abbrev pub decreases-loop-i : goal.decreases-loop-i
decreases-loop-i l = length l.content - l.i
