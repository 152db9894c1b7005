-- `attribute_by` meets its contract. The invariant: reading comes to this place, the names before it are marked, and no place before it is `at`. Assumes nothing.
use Prim.Native.Nat.{◌-◌}
use mathlib.Core.Path.{◌≡◌}
use lib.ListN.{length}
use Rattle.attributes.specs.Inside.{Marks}
use Rattle.attributes.proofs.Walks.{Elsewhere, Walked}
use Rattle.attributes.proofs.attribute_by.Given as goal

abbrev pub invariant-loop-from : goal.invariant-loop-from
invariant-loop-from l = (length l.seen ≡ length l.initial.seen) × Marks (length l.seen) × Walked l.content l.name (Elsewhere l.content l.at) l.seen l.from

abbrev pub decreases-loop-from : goal.decreases-loop-from
decreases-loop-from l = l.at - l.from
