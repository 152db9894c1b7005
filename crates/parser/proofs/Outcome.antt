-- What a scan finds, in words, once for every machine: given what a state means at a position and what each byte then does, the scan stops at the
-- least position with the property, or goes to the end and there is none. Assumes nothing.
use Prim.Native.Nat.{ℕ, zero, suc, ◌+◌, ◌≤◌, ◌<◌}
use mathlib.Core.Path.{◌≡◌, refl, sym, ap, subst}
use mathlib.Core.List.{List}
use mathlib.Core.Logic.{◌↔◌}
use native.Mathlib.Omega.{arith}
use native.Mathlib.Decide.{dec_lt}
use lib.ListN.{length, get_or}
use Rattle.ground.specs.Least.{Least, Nowhere, Gives}
use Rattle.ground.proofs.First.{gives_at, gives_none}
use Rattle.parser.specs.Machine.{Next, go, halt, Scan, found, going, scan_at}
use Rattle.parser.proofs.Machine.{scan_end, scan_more, scan_halt}

module _ {S : Type 0} (step : S → ℕ → Next S) (a : List ℕ) (P : ℕ → Type 0) (Means : S → ℕ → Type 0) where
  -- what a byte at i has to do: stop where the property holds, and else go on in a state that means what it should
  abbrev pub Meets : ℕ → Next S → Type 0
  Meets i (go t) = (P i → ⊥) × Means t (i + 1)
  Meets i halt = P i

  -- what the scan then tells
  abbrev pub Tells : Scan S → Type 0
  Tells (found p) = Least P p
  Tells (going t) = Nowhere P × ((e : ℕ) × (length a ≤ e) × Means t e)

  module _ (inside : (p : ℕ) → P p → p < length a)
      (meets : (s : S) (i : ℕ) → Means s i → i < length a → Meets i (step s (get_or a i 0))) where
    tells_end : (s : S) (i : ℕ) → length a ≤ i → Means s i → ((k : ℕ) → k < i → P k → ⊥) → Tells (scan_at step s a i)
    tells_end s i h m none =
        subst Tells (sym (scan_end step s a i h)) (λ p q. let l = inside p q in none p (omega arith) q, (i, h, m))

    tells_in : (n : ℕ) (s : S) (i : ℕ) → length a ≤ i + n → Means s i → ((k : ℕ) → k < i → P k → ⊥) → Tells (scan_at step s a i)
    tells_in zero s i h m none = tells_end s i (omega arith) m none
    tells_in (suc n) s i h m none =
        elim (dec_lt i (length a)) [
          | yes l ↦ by (step s (get_or a i 0)) refl (meets s i m l) (λ t. tells_in n t (i + 1) (omega arith)) l
          | no l ↦ tells_end s i (omega arith) m none
        ]
      where
        by : (x : Next S) → step s (get_or a i 0) ≡ x → Meets i x
            → ((t : S) → Means t (i + 1) → ((k : ℕ) → k < i + 1 → P k → ⊥) → Tells (scan_at step t a (i + 1)))
            → i < length a → Tells (scan_at step s a i)
        by (go t) e y r l =
            subst Tells (sym (scan_more step s a i t l e))
            (r t y.1 (λ k h q. elim (dec_lt k i) [
              | yes g ↦ none k g q
              | no g ↦ y.0 (subst P (omega arith) q)
            ]))
        by halt e y r l = subst Tells (sym (scan_halt step s a i l e)) (record { has = y; before = none })

    pub tells : (s : S) (i : ℕ) → Means s i → ((k : ℕ) → k < i → P k → ⊥) → Tells (scan_at step s a i)
    tells s i = tells_in (length a) s i (omega arith)

-- as an answer in the form `out`
module _ {S A : Type 0} (step : S → ℕ → Next S) (a : List ℕ) (P : ℕ → Type 0) (Means : S → ℕ → Type 0) (out : Scan S → A)
    (other : (t : S) (p : ℕ) → out (going t) ≡ out (found p) → ⊥) where
  pub tells_gives : ((p q : ℕ) → out (found p) ≡ out (found q) → p ≡ q)
      → (r : Scan S) → Tells step a P Means r → Gives (λ p. out (found p)) (out r) P
  tells_gives one (found p) l = gives_at (λ p. out (found p)) one P p l
  tells_gives one (going t) w = gives_none (λ p. out (found p)) one P (out (going t)) (other t) w.0

  -- that the bytes end with none, where the answer is then the same whatever the state
  pub tells_none : (t : S) → ((u : S) → out (going u) ≡ out (going t))
      → (r : Scan S) → Tells step a P Means r → (out r ≡ out (going t)) ↔ Nowhere P
  tells_none t one (found p) l = (λ e. absurd (other t p (sym e)), λ w. absurd (w p l.has))
  tells_none t one (going u) w = (λ e. w.0, λ n. one u)

  -- the state in which the bytes end, where `Ends` says what it means there and fits one state only
  module _ (one : (t u : S) → out (going t) ≡ out (going u) → t ≡ u) (Ends : S → Type 0)
      (ends : (t : S) (e : ℕ) → length a ≤ e → Means t e → Ends t) (only : (t u : S) → Ends t → Ends u → t ≡ u) where
    pub tells_open : (t : S) (r : Scan S) → Tells step a P Means r → (out r ≡ out (going t)) ↔ (Nowhere P × Ends t)
    tells_open t (found p) l = (λ e. absurd (other t p (sym e)), λ w. absurd (w.0 p l.has))
    tells_open t (going u) w =
        let x = ends u w.1.0 w.1.1 w.1.2 in
        (λ e. (w.0, subst Ends (one u t e) x), λ v. ap (λ (y : S). out (going y)) (only u t x v.1))
