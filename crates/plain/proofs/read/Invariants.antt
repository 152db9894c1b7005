-- `read` meets its contract. Assumes nothing.
use Prim.Native.Nat.{◌-◌}
use lib.ListN.{length}
use Rattle.plain.proofs.Loop.{Going}
use Rattle.plain.proofs.read.Given as goal

abbrev pub invariant-loop-known : goal.invariant-loop-known
invariant-loop-known l = Going l.document l.reader l.last l.mark l.known

abbrev pub decreases-loop-known : goal.decreases-loop-known
decreases-loop-known l = length l.document - l.known.at
