-- The mark in its slot: any number but 0 is a mark that is on, and stays. Assumes nothing.
use Prim.Native.Nat.{ℕ, zero, suc, ◌≤◌}
use mathlib.Core.Path.{◌≡◌, refl, sym, ap}
use mathlib.Core.Bool.{Bool, true, false, not}
use mathlib.Core.List.{List, [], ◌∷◌}
use native.Mathlib.Omega.{arith}
use lib.ListN.{length, get_or, set}
use lib.Seq.{set_out}
use lib.Dec.{eqb}
use borrow.Author.Rules.{rules}
use borrow.Author.Tests.{ne_eqb}
use Rattle.ground.proofs.Choices.{clash}
use Rattle.capi.specs.Numbers.{mark_number, mark_slot, noted}

-- ---- there and back

-- whether a slot's number is a mark that is on
abbrev pub is_on : ℕ → Bool
is_on n = not (eqb n 0)

-- a number after another is not 0
other : (n : ℕ) → eqb (suc n) 0 ≡ false
other n = ne_eqb (suc n) 0 (λ e. omega arith)

-- a mark is told from its number, where none that is on is turned off
pub mark_told : (was : ℕ) (on : Bool) → (is_on was ≡ true → on ≡ true) → on ≡ is_on (mark_number was on)
mark_told zero true h = refl
mark_told zero false h = refl
mark_told (suc n) true h = rw (other n, other n) refl
mark_told (suc n) false h = clash false (h (rw (other n) refl)) refl

-- the number of the mark that a slot says is the slot's
pub mark_kept : (n : ℕ) → mark_number n (is_on n) ≡ n
mark_kept zero = refl
mark_kept (suc n) = rw (other n) refl

-- ---- written

-- a slot is written with what it holds
set_itself : (xs : List ℕ) (i : ℕ) → set xs i (get_or xs i 0) ≡ xs
set_itself [] i = refl
set_itself (x ∷ xs) zero = refl
set_itself (x ∷ xs) (suc i) = ap (λ (ys : List ℕ). x ∷ ys) (set_itself xs i)

-- a mark that is off is no other number
off_kept : (n : ℕ) → mark_number n false ≡ n
off_kept zero = refl
off_kept (suc n) = rw (other n) refl

module _ (xs : List ℕ) (on : Bool) where
  pub noted_on : on ≡ true → mark_slot xs ≡ 0 → set xs 5 1 ≡ noted xs on
  noted_on e z = rw (e, z) refl

  pub noted_before : (mark_slot xs ≡ 0 → ⊥) → xs ≡ noted xs on
  noted_before n = sym (rw (ne_eqb (mark_slot xs) 0 n) (set_itself xs 5))

  pub noted_nowhere : length xs ≤ 5 → xs ≡ noted xs on
  noted_nowhere l = sym (set_out xs 5 _ l)

  pub noted_off : on ≡ false → xs ≡ noted xs on
  noted_off e = sym (rw (e, off_kept (mark_slot xs)) (set_itself xs 5))

pub ruleset notes = (rules, noted_on, noted_before, noted_nowhere, noted_off)
