-- A choice by a range, from the facts that the code's own tests gave: what `search` answers a definition by ranges with. Assumes nothing.
use Prim.Native.Nat.{ℕ, ◌+◌, ◌≤◌, ◌<◌}
use mathlib.Core.Path.{◌≡◌, refl, sym, ◌∙◌}
use mathlib.Core.Bool.{Bool, true, false}
use native.Mathlib.Omega.{arith}
use native.Mathlib.Decide.{dec_lt}
use lib.Dec.{eqb, leb}
use borrow.Author.Tests.{eqb-true, eq-eqb, leb-true, le-leb}
use Rattle.ground.specs.Choose.{pick}
use Rattle.ground.proofs.Choices.{by_true, by_false, choices}
use Rattle.utf8.specs.Utf8.{in_range}
use Rattle.utf8.proofs.Table.{in_range_lem, under_range, over_range}

-- (the code's tests tell where a range ends by the number behind it)
module _ {A : Type 0} (r x y : A) (v : ℕ) where
  module _ (lo hi : ℕ) where
    pub range_under : (k : ℕ) → leb k lo ≡ true → v < k → r ≡ y → r ≡ pick (in_range (lo, hi) v) x y
    range_under k e h = by_false r x y _ (under_range lo hi v (omega (arith, leb-true k lo e)))

    module _ (to : ℕ) (e : eqb to (hi + 1) ≡ true) where
      pub range_in : lo ≤ v → v < to → r ≡ x → r ≡ pick (in_range (lo, hi) v) x y
      range_in h k = by_true r x y _ (in_range_lem lo hi v h (omega (arith, eqb-true to (hi + 1) e)))

      pub range_over : to ≤ v → r ≡ y → r ≡ pick (in_range (lo, hi) v) x y
      range_over h = by_false r x y _ (over_range lo hi v (omega (arith, eqb-true to (hi + 1) e)))

  -- one that begins at 0
  pub range_low : (hi to : ℕ) → eqb to (hi + 1) ≡ true → v < to → r ≡ x → r ≡ pick (in_range (0, hi) v) x y
  range_low hi to e h = range_in 0 hi to e (omega arith) h

  -- one of a single number
  pub range_other : (k : ℕ) → (v ≡ k → ⊥) → r ≡ y → r ≡ pick (in_range (k, k) v) x y
  range_other k n e =
      elim (dec_lt v k) [
        | yes h ↦ range_under k k k (le-leb k k (omega arith)) h e
        | no h ↦ range_over k k (k + 1) (eq-eqb (k + 1) (k + 1) refl) (elim (dec_lt k v) [
          | yes l ↦ omega arith
          | no l ↦ absurd (n (omega arith))
        ]) e
      ]

pub ruleset ranges = (choices, range_in, range_under, range_over, range_low, range_other)

-- a choice by what a call says
module _ {A : Type 0} (r x y : A) (t said : Bool) (q : said ≡ t) where
  pub said_true : said ≡ true → r ≡ x → r ≡ pick t x y
  said_true e = by_true r x y t (sym q ∙ e)

  pub said_false : said ≡ false → r ≡ y → r ≡ pick t x y
  said_false e = by_false r x y t (sym q ∙ e)

pub ruleset saids = (choices, said_true, said_false)
