-- `order_of` meets its contract, and ends: fewer times are left after each. The invariant: what is left to look at decides. Assumes nothing.
use Prim.Native.Nat.{◌-◌, ◌≤◌}
use lib.ListN.{length}
use Rattle.columns.proofs.Orders.{Ordered}
use Rattle.columns.proofs.order.order_of.Given as goal

abbrev pub invariant-loop-i : goal.invariant-loop-i
invariant-loop-i l = (1 ≤ l.i) × Ordered l.times l.i

abbrev pub decreases-loop-i : goal.decreases-loop-i
decreases-loop-i l = length l.times - l.i
