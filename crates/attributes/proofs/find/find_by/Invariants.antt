-- `find_by` meets its contract. The invariant: reading comes to this place, the names before it are marked, and no answer before it ends the search. Assumes nothing.
use Prim.Native.Nat.{◌-◌}
use mathlib.Core.Path.{◌≡◌}
use lib.ListN.{length}
use Rattle.attributes.specs.Inside.{Marks}
use Rattle.attributes.proofs.Walks.{Onward, Walked}
use Rattle.attributes.proofs.find.find_by.Given as goal

abbrev pub invariant-loop-item : goal.invariant-loop-item
invariant-loop-item l = (length l.seen ≡ length l.initial.seen) × Marks (length l.seen) × Walked l.content l.name (Onward l.content l.wanted) l.seen l.from

abbrev pub decreases-loop-item : goal.decreases-loop-item
decreases-loop-item l = length l.content - l.from
