-- `attributes_of` is safe and ends: fewer calls are left after each. Assumes nothing.
use Rattle.cases.proofs.calls.attributes_of.Given as goal

abbrev pub invariant-loop-left : goal.invariant-loop-left
invariant-loop-left g l = Unit {0}

abbrev pub decreases-loop-left : goal.decreases-loop-left
decreases-loop-left g l = l.left
