-- `mark_of` meets its contract. The invariant: what is mixed of the whole name is what is mixed from here on. Assumes nothing.
use Prim.Native.Nat.{◌-◌, ◌<◌}
use mathlib.Core.Path.{◌≡◌}
use lib.ListN.{length, drop}
use Rattle.attributes.specs.Inside.{mixed}
use Rattle.attributes.proofs.marks.mark_of.Given as goal

abbrev pub invariant-loop-i : goal.invariant-loop-i
invariant-loop-i l = (l.mark < 0x100000000) × (mixed 0 l.name ≡ mixed l.mark (drop l.i l.name))

abbrev pub decreases-loop-i : goal.decreases-loop-i
decreases-loop-i l = length l.name - l.i
