-- `number` meets its contract. The invariant: the number of all digits is that of those from here on, behind the value so far. Assumes nothing.
use Prim.Native.Nat.{◌-◌}
use lib.ListN.{length}
use Rattle.escape.proofs.Numbers.{Reads}
use Rattle.escape.proofs.reference.number.Given as goal

abbrev pub invariant-loop-i : goal.invariant-loop-i
invariant-loop-i l = Reads l.content l.base l.from l.i l.value

abbrev pub decreases-loop-i : goal.decreases-loop-i
decreases-loop-i l = length l.content - l.i
