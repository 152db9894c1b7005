-- `all` is safe and ends: fewer calls are left after each. The invariant: the stack keeps its length. Assumes nothing.
use Rattle.std.proofs.Common.{◌≡◌, length}
use Rattle.cases.proofs.calls.all.Given as goal

abbrev pub invariant-loop-left : goal.invariant-loop-left
invariant-loop-left g l = length l.stack ≡ length l.initial.stack

abbrev pub decreases-loop-left : goal.decreases-loop-left
decreases-loop-left g l = l.left
