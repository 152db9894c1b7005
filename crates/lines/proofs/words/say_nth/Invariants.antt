-- `say_nth` is safe and ends: fewer words are left after each. Assumes nothing.
use Rattle.lines.proofs.words.say_nth.Given as goal

abbrev pub invariant-loop-left : goal.invariant-loop-left
invariant-loop-left g l = Unit {0}

abbrev pub decreases-loop-left : goal.decreases-loop-left
decreases-loop-left g l = l.left
