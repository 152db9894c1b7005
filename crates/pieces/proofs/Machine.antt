-- The laws of a step machine that is fed in pieces, once for every machine: bytes fed in two are the bytes fed whole, where a stop lies, places counted from
-- another byte on, and a machine within a larger one. Assumes nothing.
use Prim.Native.Nat.{ℕ, ◌+◌, ◌≤◌, ◌<◌}
use mathlib.Core.Path.{◌≡◌, refl, sym, ap, ◌∙◌}
use mathlib.Core.List.{List, [], ◌∷◌, ◌++◌}
use mathlib.Core.Logic.{◌⊎◌, inl, inr, ⊎_elim}
use native.Mathlib.Omega.{arith}
use lib.ListN.{length, get_or, drop}
use Rattle.parser.specs.Machine.{Next, go, halt, Scan as Course, found, going, stand, tick, feed, scan_at}
use Rattle.parser.proofs.Machine.{feed_found, feed_next}
use Rattle.pieces.specs.Kinds.{within}

module _ {S : Type 0} (step : S → ℕ → Next S) where
  -- THE CUTTING LAW
  pub feed_append : (r : Course S) (i : ℕ) (xs ys : List ℕ) → feed step r i (xs ++ ys) ≡ feed step (feed step r i xs) (i + length xs) ys
  unfolding feed
  feed_append r i [] ys = ap (λ (j : ℕ). feed step r j ys) (omega arith)
  feed_append r i (b ∷ bs) ys =
      feed_append (tick step r i b) (i + 1) bs ys
      ∙ ap (λ (j : ℕ). feed step (feed step (tick step r i b) (i + 1) bs) j ys) (omega arith)

  -- ---- where a stop lies

  apart : {A : Type 0} (s : S) (p : ℕ) → going s ≡ found p → A
  apart s p e = let z : ◌≡◌ {A = ℕ} 0 1 = cc in absurd (omega arith)

  stand_found : (i p : ℕ) (n : Next S) → stand i n ≡ found p → i ≡ p
  stand_found i p (go s) e = apart s p e
  stand_found i p halt e = cc

  feed_stop : (r : Course S) (i p : ℕ) (bs : List ℕ) → feed step r i bs ≡ found p → (r ≡ found p) ⊎ ((i ≤ p) × (p < i + length bs))
  unfolding feed
  feed_stop r i p [] e = inl e
  feed_stop (found q) i p (b ∷ bs) e = inl (sym (feed_found step q (i + 1) bs) ∙ e)
  feed_stop (going s) i p (b ∷ bs) e =
      ⊎_elim (λ f. let g = stand_found i p (step s b) f in inr (omega arith)) (λ h. inr (omega arith))
      (feed_stop (stand i (step s b)) (i + 1) p bs e)

  -- among the bytes that were fed
  pub feed_bound : (s : S) (i p : ℕ) (bs : List ℕ) → feed step (going s) i bs ≡ found p → (i ≤ p) × (p < i + length bs)
  feed_bound s i p bs e = ⊎_elim (λ f. apart s p f) (λ h. h) (feed_stop (going s) i p bs e)

  -- ---- a byte that does the same to two states

  pub same_step : (s t : S) (a : List ℕ) (i : ℕ) → i < length a → step s (get_or a i 0) ≡ step t (get_or a i 0) → scan_at step s a i ≡ scan_at step t a i
  same_step s t a i h e =
      feed_next step (going s) a i h
      ∙ ap (λ (n : Next S). feed step (stand i n) (i + 1) (drop (i + 1) a)) e
      ∙ sym (feed_next step (going t) a i h)

-- ---- places counted from k bytes before

module _ {S : Type 0} where
  abbrev pub moved : ℕ → Course S → Course S
  moved k (found p) = found (k + p)
  moved k (going s) = going s

  stand_moved : (k i : ℕ) (n : Next S) → stand (k + i) n ≡ moved k (stand i n)
  stand_moved k i (go s) = refl
  stand_moved k i halt = refl

module _ {S : Type 0} (step : S → ℕ → Next S) where
  tick_moved : (k : ℕ) (r : Course S) (i b : ℕ) → tick step (moved k r) (k + i) b ≡ moved k (tick step r i b)
  tick_moved k (found p) i b = refl
  tick_moved k (going s) i b = stand_moved k i (step s b)

  pub feed_moved : (k : ℕ) (r : Course S) (i : ℕ) (bs : List ℕ) → feed step (moved k r) (k + i) bs ≡ moved k (feed step r i bs)
  unfolding feed
  feed_moved k r i [] = refl
  feed_moved k r i (b ∷ bs) =
      let e : k + i + 1 ≡ k + (i + 1) = omega arith in
      ap (λ (t : Course S). feed step t (k + i + 1) bs) (tick_moved k r i b)
      ∙ ap (λ (j : ℕ). feed step (moved k (tick step r i b)) j bs) e
      ∙ feed_moved k (tick step r i b) (i + 1) bs

-- ---- a machine within a larger one, whose states are those of the smaller one under a name

module _ {S T : Type 0} (name : S → T) where
  abbrev pub named : Course S → Course T
  named (found p) = found p
  named (going s) = going (name s)

  stand_named : (i : ℕ) (n : Next S) → stand i (within name n) ≡ named (stand i n)
  stand_named i (go s) = refl
  stand_named i halt = refl

  module _ (inner : S → ℕ → Next S) (outer : T → ℕ → Next T) (alike : (s : S) (b : ℕ) → outer (name s) b ≡ within name (inner s b)) where
    tick_named : (r : Course S) (i b : ℕ) → tick outer (named r) i b ≡ named (tick inner r i b)
    tick_named (found p) i b = refl
    tick_named (going s) i b = ap (stand i) (alike s b) ∙ stand_named i (inner s b)

    pub feed_named : (r : Course S) (i : ℕ) (bs : List ℕ) → feed outer (named r) i bs ≡ named (feed inner r i bs)
    unfolding feed
    feed_named r i [] = refl
    feed_named r i (b ∷ bs) =
        ap (λ (t : Course T). feed outer t (i + 1) bs) (tick_named r i b) ∙ feed_named (tick inner r i b) (i + 1) bs
