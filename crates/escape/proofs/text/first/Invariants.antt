-- `first` meets its contract. The invariant: the place is i and as many bytes more as stand before it from there on. Assumes nothing.
use Prim.Native.Nat.{◌+◌, ◌-◌}
use mathlib.Core.Path.{◌≡◌}
use lib.ListN.{length, drop}
use Rattle.white.specs.White.{until}
use Rattle.escape.specs.Text.{is_byte}
use Rattle.escape.proofs.text.first.Given as goal

abbrev pub invariant-loop-i : goal.invariant-loop-i
invariant-loop-i l = l.from + until (is_byte l.byte) (drop l.from l.content) ≡ l.i + until (is_byte l.byte) (drop l.i l.content)

abbrev pub decreases-loop-i : goal.decreases-loop-i
decreases-loop-i l = length l.content - l.i
