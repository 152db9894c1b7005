-- `write` meets its contract. The invariant: what is to be left is what is in the buffer, with the bytes of the text from here on over it. Assumes nothing.
use Prim.Native.Nat.{◌-◌}
use lib.ListN.{length}
use Rattle.escape.specs.Text.{whole_text, left_of}
use Rattle.escape.proofs.Writes.{Writing}
use Rattle.escape.proofs.text.write.Given as goal

abbrev pub invariant-loop-at : goal.invariant-loop-at
invariant-loop-at l = Writing l.content (length l.initial.galley) (left_of l.initial.galley l.at (whole_text l.content (length l.initial.galley) l.at)) l.i l.p l.galley

abbrev pub decreases-loop-at : goal.decreases-loop-at
decreases-loop-at l = length l.content - l.i
