-- `measure` meets its contract. The invariant: the answer is that of the text from here on, with the bytes counted so far. Assumes nothing.
use Prim.Native.Nat.{◌-◌}
use lib.ListN.{length}
use Rattle.escape.specs.Text.{whole_text, written_of}
use Rattle.escape.proofs.Measures.{Measured}
use Rattle.escape.proofs.text.measure.Given as goal

abbrev pub invariant-loop-i : goal.invariant-loop-i
invariant-loop-i l = Measured l.content l.size l.at (written_of (whole_text l.content l.size l.at)) l.i l.p

abbrev pub decreases-loop-i : goal.decreases-loop-i
decreases-loop-i l = length l.content - l.i
