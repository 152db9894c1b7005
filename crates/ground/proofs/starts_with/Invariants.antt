-- `starts_with` meets its contract. The invariant: the comparison from the start on is the comparison from `at` and i on. Assumes nothing.
use Prim.Native.Nat.{◌-◌}
use mathlib.Core.Path.{◌≡◌}
use lib.ListN.{length, drop}
use Rattle.ground.specs.Equal.{begins}
use Rattle.ground.proofs.starts_with.Given as goal

abbrev pub invariant-loop-i : goal.invariant-loop-i
invariant-loop-i l = begins (drop l.from l.s) l.prefix ≡ begins (drop l.at l.s) (drop l.i l.prefix)

abbrev pub decreases-loop-i : goal.decreases-loop-i
decreases-loop-i l = length l.prefix - l.i
