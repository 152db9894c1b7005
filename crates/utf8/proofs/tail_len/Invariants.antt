-- `tail_len` meets its contract. The invariant: what is asked at `at` is what is now asked at i. Assumes nothing.
use Prim.Native.Nat.{◌≤◌}
use mathlib.Core.Path.{◌≡◌}
use lib.ListN.{drop}
use Rattle.utf8.proofs.Turns.{follow}
use Rattle.utf8.proofs.tail_len.Given as goal

abbrev pub invariant-loop-i : goal.invariant-loop-i
invariant-loop-i l = (l.left ≤ l.more) × (follow l.lo l.hi l.more (drop l.at l.s) ≡ follow l.low l.high l.left (drop l.i l.s))

abbrev pub decreases-loop-i : goal.decreases-loop-i
decreases-loop-i l = l.left
