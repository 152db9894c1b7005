-- The least position with a property: there is one at most, and an answer that is right when it is given gives it. Assumes nothing.
use Prim.Native.Nat.{ℕ}
use mathlib.Core.Path.{◌≡◌, refl, sym, ap, ◌∙◌, subst}
use native.Mathlib.Omega.{arith}
use native.Mathlib.Decide.{dec_lt}
use Rattle.ground.specs.Least.{Least, Nowhere, Gives}

pub least_one : (P : ℕ → Type 0) (p q : ℕ) → Least P p → Least P q → p ≡ q
least_one P p q l m =
    elim (dec_lt p q) [
      | yes h ↦ absurd (m.before p h l.has)
      | no h ↦ elim (dec_lt q p) [
        | yes k ↦ absurd (l.before q k m.has)
        | no k ↦ omega arith
      ]
    ]

-- an answer gives the first position where it is "at" the least one, or no "at" and there is none
module _ {A : Type 0} (at : ℕ → A) (apart : (p q : ℕ) → at p ≡ at q → p ≡ q) (P : ℕ → Type 0) where
  pub gives_at : (p : ℕ) → Least P p → Gives at (at p) P
  gives_at p l = record {
    found = λ q. (λ e. subst (Least P) (apart p q e) l, λ m. ap at (least_one P p q l m));
    none = (λ n. absurd (n p refl), λ n. absurd (n p l.has));
  }

  pub gives_none : (x : A) → ((p : ℕ) → x ≡ at p → ⊥) → Nowhere P → Gives at x P
  gives_none x n w = record {
    found = λ q. (λ e. absurd (n q e), λ m. absurd (w q m.has));
    none = (λ _. w, λ _. n);
  }

-- what holds of a position that an answer r gives
pub found_has : {A : Type 0} (at : ℕ → A) (x : A) (P : ℕ → Type 0) → Gives at x P → (r : A) (p : ℕ) → r ≡ x → r ≡ at p → P p
found_has at x P g r p e f = ((g.found p).0 (sym e ∙ f)).has
