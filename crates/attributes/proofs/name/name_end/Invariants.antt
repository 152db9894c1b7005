-- `name_end` meets its contract. The invariant: the answer is i and the answer for what is left at i. Assumes nothing.
use Prim.Native.Nat.{◌+◌, ◌-◌}
use mathlib.Core.Path.{◌≡◌}
use lib.ListN.{length, drop}
use Rattle.white.specs.White.{until}
use Rattle.attributes.specs.Grammar.{ends_name, name_end}
use Rattle.attributes.proofs.name.name_end.Given as goal

abbrev pub invariant-loop-i : goal.invariant-loop-i
invariant-loop-i l = name_end l.content l.from ≡ l.i + until ends_name (drop l.i l.content)

abbrev pub decreases-loop-i : goal.decreases-loop-i
decreases-loop-i l = length l.content - l.i
