-- `leading_len` meets its contract. The invariant of both loops: the answer is i and the answer for what is left at i. Assumes nothing.
use Prim.Native.Nat.{◌-◌}
use lib.ListN.{length}
use Rattle.white.proofs.Runs.{Led}
use Rattle.white.proofs.leading_len.Given as goal

abbrev pub invariant-loop-i : goal.invariant-loop-i
invariant-loop-i l = Led l.s l.i

abbrev pub decreases-loop-i : goal.decreases-loop-i
decreases-loop-i l = length l.s - l.i

abbrev pub invariant-loop-i-then-white_from : goal.invariant-loop-i-then-white_from
invariant-loop-i-then-white_from l = Led l.s l.i

abbrev pub decreases-loop-i-then-white_from : goal.decreases-loop-i-then-white_from
decreases-loop-i-then-white_from l = length l.s - l.i
