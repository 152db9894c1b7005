-- `long_plain` meets its contract: so far the bytes are ASCII. Assumes nothing.
use Prim.Native.Nat.{◌-◌, ◌≤◌}
use Rattle.utf8.specs.Ascii.{Ascii}
use Rattle.utf8.proofs.long_plain.Given as goal

abbrev pub invariant-loop-i : goal.invariant-loop-i
invariant-loop-i l = (l.i ≤ l.to) × Ascii l.s l.from l.i

abbrev pub decreases-loop-i : goal.decreases-loop-i
decreases-loop-i l = l.to - l.i
