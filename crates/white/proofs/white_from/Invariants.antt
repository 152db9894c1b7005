-- `white_from` meets its contract. The invariant: the flag tells whether the first k bytes are white space. Assumes nothing.
use Prim.Native.Nat.{◌-◌, ◌≤◌}
use mathlib.Core.Path.{◌≡◌}
use lib.ListN.{length}
use Rattle.white.proofs.Runs.{all_white}
use Rattle.white.proofs.white_from.Given as goal

abbrev pub invariant-loop-k : goal.invariant-loop-k
invariant-loop-k l = (l.k ≤ l.n) × (l.n ≤ length l.s - l.at) × (l.all ≡ all_white l.s l.at l.k)

abbrev pub decreases-loop-k : goal.decreases-loop-k
decreases-loop-k l = l.n - l.k
