-- Whether times never decrease: the loop. Assumes nothing.
use Prim.Native.Nat.{ℕ, ◌+◌, ◌-◌, ◌≤◌, ◌<◌}
use mathlib.Core.Path.{◌≡◌, refl, sym, ◌∙◌}
use mathlib.Core.List.{List, [], ◌∷◌}
use native.Mathlib.Omega.{arith}
use lib.ListN.{length, drop}
use borrow.Author.Rules.{rules}
use borrow.Author.Tests.{lt-ltb, le-ltb}
use Rattle.ground.proofs.Lists.{drop_next, drop_done}
use Rattle.columns.specs.declared.order.Order.{Order}
use Rattle.columns.specs.Order.{order_from, order_of, time}

order_first : (ts : List ℕ) → order_of ts ≡ order_from 1 (time ts 0) (drop 1 ts)
unfolding order_from
order_first [] = refl
order_first (t ∷ ts) = refl

module _ (ts : List ℕ) where
  -- what a loop knows that has come to the index i
  pub record Ordered (i : ℕ) : Type 0 where
    pub behind : order_of ts ≡ order_from i (time ts (i - 1)) (drop i ts)

  pub order_starts : Ordered 1
  order_starts = record { behind = order_first ts }

  module _ (i : ℕ) (o : Ordered i) where
    pub order_lower : i < length ts → time ts i < time ts (i - 1) → Order.LowerAt i ≡ order_of ts
    unfolding order_from
    order_lower l h = sym (o.behind ∙ rw (drop_next ts i l, lt-ltb (time ts i) (time ts (i - 1)) h) refl)

    pub order_goes_on : i < length ts → time ts (i - 1) ≤ time ts i → Ordered (i + 1)
    unfolding order_from
    order_goes_on l h =
        let e : i + 1 - 1 ≡ i = omega arith in
        record { behind = o.behind ∙ rw (drop_next ts i l, le-ltb (time ts i) (time ts (i - 1)) h, e) refl }

    pub order_ends : length ts ≤ i → Order.Kept ≡ order_of ts
    unfolding order_from
    order_ends l = sym (o.behind ∙ rw (drop_done ts i l) refl)

pub ruleset order_turns = (rules, order_starts, order_lower, order_goes_on, order_ends)
