-- `say_times` is safe and ends: fewer times are left after each. The invariant: i is no further than their end. Assumes nothing.
use Rattle.std.proofs.Common.{◌-◌, ◌≤◌, length}
use Rattle.column.proofs.say_times.Given as goal

abbrev pub invariant-loop-i : goal.invariant-loop-i
invariant-loop-i g l = l.i ≤ length l.times

abbrev pub decreases-loop-i : goal.decreases-loop-i
decreases-loop-i g l = length l.times - l.i
