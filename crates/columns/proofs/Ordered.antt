-- What the answer on order says: the first index that is lower, and that a column never decreases. Assumes nothing.
use Prim.Native.Nat.{ℕ, zero, suc, ◌+◌, ◌-◌, ◌≤◌, ◌<◌}
use mathlib.Core.Path.{◌≡◌, refl, sym, ◌∙◌, subst}
use mathlib.Core.List.{List}
use mathlib.Core.Logic.{◌↔◌}
use native.Mathlib.Omega.{arith}
use native.Mathlib.Decide.{dec_lt}
use lib.ListN.{length}
use Rattle.ground.specs.Least.{Nowhere, Gives}
use Rattle.ground.proofs.First.{gives_at, gives_none}
use Rattle.columns.specs.declared.order.Order.{Order}
use Rattle.columns.specs.Order.{order_of, lower_number, time}
use Rattle.columns.specs.Words.{Lower}
use Rattle.columns.proofs.Orders.{Ordered, order_starts, order_lower, order_goes_on, order_ends}

kept_tells_none : (p : ℕ) → Order.Kept ≡ Order.LowerAt p → ⊥
kept_tells_none p e = let z : ◌≡◌ {A = ℕ} 0 1 = cc in omega arith

module _ (ts : List ℕ) where
  abbrev FirstLower : Order → Type 0
  FirstLower x = Gives Order.LowerAt x (Lower ts)

  -- at the end, where none before it is lower
  at_end : (i : ℕ) → length ts ≤ i → Ordered ts i → ((j : ℕ) → j < i → Lower ts j → ⊥) → FirstLower (order_of ts)
  at_end i l o none =
      subst FirstLower (order_ends ts i o l) (gives_none Order.LowerAt (λ p q e. cc) (Lower ts) Order.Kept kept_tells_none (λ j h. none j (omega (arith, h.1)) h))

  -- from the index i on
  walk : (k i : ℕ) → 1 ≤ i → length ts ≤ i + k → Ordered ts i → ((j : ℕ) → j < i → Lower ts j → ⊥) → FirstLower (order_of ts)
  walk zero i one l o none = at_end i (omega arith) o none
  walk (suc k) i one l o none =
      elim (dec_lt i (length ts)) [
        | yes in-ts ↦ elim (dec_lt (time ts i) (time ts (i - 1))) [
          | yes low ↦ subst FirstLower (order_lower ts i o in-ts low) (gives_at Order.LowerAt (λ p q e. cc) (Lower ts) i (record { has = (one, in-ts, low); before = none }))
          | no high ↦ walk k (i + 1) (omega arith) (omega arith) (order_goes_on ts i o in-ts (omega arith)) (λ j h low. further j h low high)
        ]
        | no out ↦ at_end i (omega arith) o none
      ]
    where
      further : (j : ℕ) → j < i + 1 → Lower ts j → (time ts i < time ts (i - 1) → ⊥) → ⊥
      further j h low high = elim (dec_lt j i) [
        | yes g ↦ none j g low
        | no g ↦ let e : j ≡ i = omega arith in high (rw e at low.2)
      ]

  -- THEOREM: the index that is answered is the first that is lower than the one before it, and none is answered where there is none
  pub the_index_is_the_first_that_is_lower : Gives Order.LowerAt (order_of ts) (Lower ts)
  the_index_is_the_first_that_is_lower = walk (length ts) 1 (omega arith) (omega arith) (order_starts ts) (λ j h low. omega (arith, low.0))

  -- THEOREM: if 'never decreases' is answered, every two indices i < j have value i ≤ value j
  pub kept_order_never_decreases : order_of ts ≡ Order.Kept → (i j : ℕ) → i < j → j < length ts → time ts i ≤ time ts j
  kept_order_never_decreases e = up (the_index_is_the_first_that_is_lower.none.0 (λ p h. kept_tells_none p (sym e ∙ h)))
    where
      up : Nowhere (Lower ts) → (i j : ℕ) → i < j → j < length ts → time ts i ≤ time ts j
      up n i zero h l = absurd (omega arith)
      up n i (suc j) h l =
          let step : time ts j ≤ time ts (suc j) = elim (dec_lt (time ts (suc j)) (time ts j)) [
            | yes low ↦ absurd (n (suc j) (omega arith, l, below low))
            | no high ↦ omega arith
          ] in
          elim (dec_lt i j) [
            | yes g ↦ omega (arith, up n i j g (omega arith))
            | no g ↦ let e : i ≡ j = omega arith in rw e step
          ]
        where
          below : time ts (suc j) < time ts j → time ts (suc j) < time ts (suc j - 1)
          below low = let e : suc j - 1 ≡ j = omega arith in rw e low

  -- THEOREM: the number of the order is 0 where the column never decreases, and nowhere else
  pub zero_is_never_decreases : (lower_number (order_of ts) ≡ 0) ↔ (order_of ts ≡ Order.Kept)
  zero_is_never_decreases = (by (order_of ts) refl, λ e. rw e refl)
    where
      by : (o : Order) → order_of ts ≡ o → lower_number o ≡ 0 → o ≡ Order.Kept
      by Order.Kept e z = refl
      by (Order.LowerAt i) e z = absurd (omega (arith, ((the_index_is_the_first_that_is_lower.found i).0 e).has.0))
