-- Bytes that begin with others, and the same bytes: what the tests of specs/Equal say, and the turns and the ends of the loop that compares.
-- Assumes nothing.
use Prim.Native.Nat.{ℕ, ◌+◌, ◌≤◌, ◌<◌}
use mathlib.Core.Path.{◌≡◌, refl, sym, ap, ap₂, ◌∙◌, subst}
use mathlib.Core.List.{List, [], ◌∷◌, ◌++◌, append-nil}
use mathlib.Core.Bool.{Bool, true, false}
use mathlib.Core.Logic.{◌↔◌}
use native.Mathlib.Omega.{arith}
use lib.ListN.{length, get_or, take, drop, length-append, length-drop, take-append-drop}
use lib.Dec.{eqb}
use borrow.Author.Rules.{rules}
use borrow.Author.Tests.{eq-eqb, ne_eqb, eqb-true}
use Rattle.ground.specs.Choose.{pick}
use Rattle.ground.specs.Equal.{begins, same}
use Rattle.ground.proofs.Choices.{pick_cases, clash}
use Rattle.ground.proofs.Lists.{drop_next, drop_done}

-- ---- a byte further, for s from `at` on and k from i on

module _ (s k : List ℕ) (at i : ℕ) where
  begins_end : length k ≤ i → begins (drop at s) (drop i k) ≡ true
  unfolding begins
  begins_end h = rw (drop_done k i h)

  module _ (h : i < length k) where
    begins_past : length s ≤ at → begins (drop at s) (drop i k) ≡ false
    unfolding begins
    begins_past g = rw (drop_done s at g, drop_next k i h)

    module _ (g : at < length s) where
      begins_other : (get_or s at 0 ≡ get_or k i 0 → ⊥) → begins (drop at s) (drop i k) ≡ false
      unfolding begins
      begins_other n = rw (drop_next s at g, drop_next k i h, ne_eqb _ _ n)

      begins_next : get_or s at 0 ≡ get_or k i 0 → begins (drop at s) (drop i k) ≡ begins (drop (at + 1) s) (drop (i + 1) k)
      unfolding begins
      begins_next e = rw (drop_next s at g, drop_next k i h, eq-eqb _ _ e)

-- a loop that compares and stands at `at` and i
module _ (r : Bool) (s k : List ℕ) (at i : ℕ) (v : r ≡ begins (drop at s) (drop i k)) where
  pub compare_end : length k ≤ i → true ≡ r
  compare_end h = sym (v ∙ begins_end s k at i h)

  module _ (h : i < length k) where
    pub compare_past : length s ≤ at → false ≡ r
    compare_past g = sym (v ∙ begins_past s k at i h g)

    pub compare_other : at < length s → (get_or s at 0 ≡ get_or k i 0 → ⊥) → false ≡ r
    compare_other g n = sym (v ∙ begins_other s k at i h g n)

    pub compare_turn : at < length s → get_or s at 0 ≡ get_or k i 0 → r ≡ begins (drop (at + 1) s) (drop (i + 1) k)
    compare_turn g e = v ∙ begins_next s k at i h g e

pub ruleset compares = (rules, compare_end, compare_past, compare_other, compare_turn)

-- ---- the returns of a comparison of two slices

module _ (a b : List ℕ) where
  pub same_uneven : (length a ≡ length b → ⊥) → false ≡ same a b
  unfolding same
  same_uneven n = rw (ne_eqb _ _ n)

  pub same_even : (r : Bool) → length a ≡ length b → r ≡ begins a b → r ≡ same a b
  unfolding same
  same_even r e f = rw (eq-eqb _ _ e) f

-- ---- what the tests say

begins_to : (bs ks : List ℕ) → begins bs ks ≡ true → bs ≡ ks ++ drop (length ks) bs
unfolding begins
begins_to bs [] e = refl
begins_to [] (k ∷ ks) e = clash false e refl
begins_to (b ∷ bs) (k ∷ ks) e = by (eqb b k) refl e (begins_to bs ks)
  where
    by : (x : Bool) → eqb b k ≡ x → pick x (begins bs ks) false ≡ true → (begins bs ks ≡ true → bs ≡ ks ++ drop (length ks) bs)
        → b ∷ bs ≡ k ∷ ks ++ drop (length ks) bs
    by true q e r = ap₂ ◌∷◌ (eqb-true b k q) (r e)
    by false q e r = clash false e refl

pub begins_with : (ks rest : List ℕ) → begins (ks ++ rest) ks ≡ true
unfolding begins
begins_with [] rest = refl
begins_with (k ∷ ks) rest = rw (eq-eqb k k refl) (begins_with ks rest)

-- bytes begin with the first of them and some of the others
pub begins_first : (b n : ℕ) (bs : List ℕ) → begins (b ∷ bs) (b ∷ take n bs) ≡ true
begins_first b n bs = ap (λ (xs : List ℕ). begins (b ∷ xs) (b ∷ take n bs)) (sym (take-append-drop n bs)) ∙ begins_with (b ∷ take n bs) (drop n bs)

-- the first list is the second and a rest
pub begins_is : (bs ks : List ℕ) → (begins bs ks ≡ true) ↔ (bs ≡ ks ++ drop (length ks) bs)
begins_is bs ks =
    (begins_to bs ks, λ e. subst (λ (xs : List ℕ). begins xs ks ≡ true) (sym e) (begins_with ks (drop (length ks) bs)))

-- and so it is as long at least
pub begins_long : (bs ks : List ℕ) → begins bs ks ≡ true → length ks ≤ length bs
begins_long bs ks e = omega (arith, simp length-append at (ap length (begins_to bs ks e)))

-- from a place on, where a prefix with a byte in it stands
pub begins_within : (s ks : List ℕ) (at : ℕ) → 0 < length ks → begins (drop at s) ks ≡ true → at + length ks ≤ length s
begins_within s ks at h e = omega (arith, begins_long (drop at s) ks e, length-drop at s)

same_to : (a b : List ℕ) → same a b ≡ true → a ≡ b
unfolding same
same_to a b e = pick_cases (λ (x : Bool). x ≡ true → a ≡ b) (eqb (length a) (length b)) _ _ (λ x f. whole x f) (λ x f. clash false f refl) e
  where
    whole : eqb (length a) (length b) ≡ true → begins a b ≡ true → a ≡ b
    whole x f =
        let long : length a ≤ length b = omega (arith, eqb-true (length a) (length b) x) in
        begins_to a b f ∙ ap (λ (xs : List ℕ). b ++ xs) (drop_done a (length b) long) ∙ append-nil b

same_self : (a : List ℕ) → same a a ≡ true
unfolding same
same_self a = rw (eq-eqb (length a) (length a) refl) (subst (λ (xs : List ℕ). begins xs a ≡ true) (append-nil a) (begins_with a []))

-- the two lists are one
pub same_is : (a b : List ℕ) → (same a b ≡ true) ↔ (a ≡ b)
same_is a b = (same_to a b, λ e. subst (λ (xs : List ℕ). same a xs ≡ true) e (same_self a))
