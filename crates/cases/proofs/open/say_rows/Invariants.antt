-- `say_rows` is safe and ends. Assumes nothing.
use Rattle.std.proofs.Common.{◌-◌}
use Rattle.cases.proofs.open.say_rows.Given as goal

abbrev pub invariant-loop-i : goal.invariant-loop-i
invariant-loop-i g l = Unit {0}

abbrev pub decreases-loop-i : goal.decreases-loop-i
decreases-loop-i g l = 8 - l.i
