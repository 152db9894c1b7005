-- `values` is safe and ends. The invariant: `out` keeps its length. Assumes nothing.
use Rattle.std.proofs.Common.{◌≡◌, ◌-◌, length}
use Rattle.lines.proofs.line.values.Given as goal

abbrev pub invariant-loop-n : goal.invariant-loop-n
invariant-loop-n l = length l.out ≡ length l.initial.out

abbrev pub decreases-loop-n : goal.decreases-loop-n
decreases-loop-n l = length l.out - l.n
