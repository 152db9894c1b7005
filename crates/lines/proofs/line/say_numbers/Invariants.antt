-- `say_numbers` is safe and ends: fewer numbers are left after each. Assumes nothing.
use Rattle.std.proofs.Common.{◌-◌, length}
use Rattle.lines.proofs.line.say_numbers.Given as goal

abbrev pub invariant-loop-i : goal.invariant-loop-i
invariant-loop-i g l = Unit {0}

abbrev pub decreases-loop-i : goal.decreases-loop-i
decreases-loop-i g l = length l.numbers - l.i
