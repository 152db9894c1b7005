-- `pair_end` meets its contract. The invariant: the scan from `from` on is the scan from i on in the state `before`. Assumes nothing.
use Prim.Native.Nat.{◌-◌}
use mathlib.Core.Path.{◌≡◌}
use mathlib.Core.Bool.{false}
use lib.ListN.{length}
use Rattle.parser.specs.Machine.{scan_at}
use Rattle.parser.specs.Hyphens.{pair_step}
use Rattle.parser.proofs.hyphens.pair_end.Given as goal

abbrev pub invariant-loop-i : goal.invariant-loop-i
invariant-loop-i l = scan_at pair_step false l.s l.from ≡ scan_at pair_step l.before l.s l.i

abbrev pub decreases-loop-i : goal.decreases-loop-i
decreases-loop-i l = length l.s - l.i
