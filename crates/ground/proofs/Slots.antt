-- Slots that are written one after the other: each is still there when others were written. Assumes nothing.
use Prim.Native.Nat.{ℕ, ◌≤◌, ◌<◌}
use mathlib.Core.Path.{◌≡◌}
use mathlib.Core.Bool.{true}
use mathlib.Core.List.{List}
use native.Mathlib.Omega.{arith}
use lib.ListN.{length, set, length-set}
use lib.Dec.{ltb}
use borrow.Author.Tests.{ltb-true}

-- one of the first n
pub slot_in : (n : ℕ) (xs : List ℕ) (i : ℕ) → n ≤ length xs → ltb i n ≡ true → i < length xs
slot_in n xs i l e = omega (arith, ltb-true i n e)

-- behind one that was written, and behind four
pub slot_still : (xs : List ℕ) (k v i : ℕ) → i < length xs → i < length (set xs k v)
slot_still xs k v i l = rw (length-set xs k v) l

pub slot_still_behind_four : (xs : List ℕ) (k v l w m x n y i : ℕ) → i < length xs → i < length (set (set (set (set xs k v) l w) m x) n y)
slot_still_behind_four xs k v l w m x n y i h =
    omega (arith, length-set xs k v, length-set (set xs k v) l w, length-set (set (set xs k v) l w) m x, length-set (set (set (set xs k v) l w) m x) n y)

pub ruleset slots = (slot_still_behind_four, slot_still)
