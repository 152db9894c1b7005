-- `put` meets its contract, and ends: fewer numbers are left after each. The invariant: i numbers are written. Assumes nothing.
use Prim.Native.Nat.{◌≤◌, ◌-◌}
use lib.ListN.{length}
use Rattle.ground.proofs.Copies.{Copying}
use Rattle.capi.proofs.slots.put.Given as goal

abbrev pub invariant-loop-i : goal.invariant-loop-i
invariant-loop-i l = (length l.numbers ≤ length l.initial.slots) × Copying l.initial.slots l.numbers l.slots l.i

abbrev pub decreases-loop-i : goal.decreases-loop-i
decreases-loop-i l = length l.numbers - l.i
