-- `number` is safe and ends. Assumes nothing.
use Rattle.std.proofs.Common.{◌-◌, length}
use Rattle.lines.proofs.line.number.Given as goal

abbrev pub invariant-loop-i : goal.invariant-loop-i
invariant-loop-i l = Unit {0}

abbrev pub decreases-loop-i : goal.decreases-loop-i
decreases-loop-i l = length l.s - l.i
