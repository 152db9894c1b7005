-- `use_of` meets its contract. The invariant: if reading comes to `at`, it comes to i before, and has not met the name. Assumes nothing.
use Prim.Native.Nat.{◌-◌}
use Rattle.ground.specs.Part.{part}
use Rattle.attributes.proofs.Turns.{Passing}
use Rattle.attributes.proofs.used.use_of.Given as goal

abbrev pub invariant-loop-i : goal.invariant-loop-i
invariant-loop-i l = Passing l.content l.name l.at (part l.content l.from l.to) l.i

abbrev pub decreases-loop-i : goal.decreases-loop-i
decreases-loop-i l = l.at - l.i
