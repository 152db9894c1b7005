-- `kept_len` meets its contract. The invariant of both loops: the answer is that of cutting back from e. Assumes nothing.
use Rattle.white.proofs.Runs.{Cut}
use Rattle.white.proofs.kept_len.Given as goal

abbrev pub invariant-loop-end : goal.invariant-loop-end
invariant-loop-end l = Cut l.s l.end

abbrev pub decreases-loop-end : goal.decreases-loop-end
decreases-loop-end l = l.end

abbrev pub invariant-loop-end-then-white_before : goal.invariant-loop-end-then-white_before
invariant-loop-end-then-white_before l = Cut l.s l.end

abbrev pub decreases-loop-end-then-white_before : goal.decreases-loop-end-then-white_before
decreases-loop-end-then-white_before l = l.end
