-- `name_len` meets its contract. The invariant: the answer is i and the answer for what is left at i. Assumes nothing.
use Prim.Native.Nat.{◌+◌, ◌-◌}
use mathlib.Core.Path.{◌≡◌}
use lib.ListN.{length, drop}
use Rattle.ground.specs.Part.{part}
use Rattle.white.specs.White.{is_white, until, name_len}
use Rattle.white.proofs.name_len.Given as goal

abbrev pub invariant-loop-i : goal.invariant-loop-i
invariant-loop-i l = name_len (part l.s l.from l.to) ≡ l.i + until is_white (drop l.i l.content)

abbrev pub decreases-loop-i : goal.decreases-loop-i
decreases-loop-i l = length l.content - l.i
