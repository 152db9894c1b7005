-- `say_spelt` is safe and ends: fewer bytes are left after each. Assumes nothing.
use Rattle.std.proofs.Common.{◌-◌, length}
use Rattle.lines.proofs.words.say_spelt.Given as goal

abbrev pub invariant-loop-i : goal.invariant-loop-i
invariant-loop-i g l = Unit {0}

abbrev pub decreases-loop-i : goal.decreases-loop-i
decreases-loop-i g l = length l.bytes - l.i
