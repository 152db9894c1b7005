-- A choice by a test of two numbers, from the fact that the code's own test gave: what `search` answers a definition by cases with.
-- Assumes nothing.
use Prim.Native.Nat.{ℕ, ◌≤◌, ◌<◌}
use mathlib.Core.Path.{◌≡◌, refl, sym, ap, ◌∙◌}
use mathlib.Core.Bool.{Bool, true, false, not, ◌||◌}
use native.Mathlib.Omega.{arith}
use lib.Dec.{leb, ltb, eqb}
use borrow.Author.Rules.{rules}
use borrow.Author.Tests.{eq-eqb, ne_eqb, le-leb, lt-leb, lt-ltb, le-ltb}
use Rattle.ground.specs.Choose.{pick}

module _ {A : Type 0} (r x y : A) where
  pub by_true : (t : Bool) → t ≡ true → r ≡ x → r ≡ pick t x y
  by_true t e f = rw e f

  pub by_false : (t : Bool) → t ≡ false → r ≡ y → r ≡ pick t x y
  by_false t e f = rw e f

  module _ (a b : ℕ) where
    pub pick_eq : a ≡ b → r ≡ x → r ≡ pick (eqb a b) x y
    pick_eq h = by_true (eqb a b) (eq-eqb a b h)

    pub pick_ne : (a ≡ b → ⊥) → r ≡ y → r ≡ pick (eqb a b) x y
    pick_ne h = by_false (eqb a b) (ne_eqb a b h)

    -- where the code's test says that a is another number
    pub pick_other : (k : ℕ) → a ≡ k → eqb k b ≡ false → r ≡ y → r ≡ pick (eqb a b) x y
    pick_other k h e f = rw (h, e) f

    pub pick_le : a ≤ b → r ≡ x → r ≡ pick (leb a b) x y
    pick_le h = by_true (leb a b) (le-leb a b h)

    pub pick_nle : b < a → r ≡ y → r ≡ pick (leb a b) x y
    pick_nle h = by_false (leb a b) (lt-leb a b h)

    pub pick_lt : a < b → r ≡ x → r ≡ pick (ltb a b) x y
    pick_lt h = by_true (ltb a b) (lt-ltb a b h)

    pub pick_nlt : b ≤ a → r ≡ y → r ≡ pick (ltb a b) x y
    pick_nlt h = by_false (ltb a b) (le-ltb a b h)

pub ruleset choices = (rules, pick_eq, pick_ne, pick_other, pick_le, pick_nle, pick_lt, pick_nlt)

-- no test says both
pub clash : {A : Type 0} (t : Bool) → t ≡ true → t ≡ false → A
clash t e f = let z : ◌≡◌ {A = ℕ} 0 1 = cc in absurd (omega arith)

-- a test that must fail, and one turned round
pub must_fail : (t : Bool) → (t ≡ true → ⊥) → t ≡ false
must_fail true n = absurd (n refl)
must_fail false n = refl

pub not_true : (t : Bool) → not t ≡ true → t ≡ false
not_true true e = clash false e refl
not_true false e = refl

pub not_false : (t : Bool) → not t ≡ false → t ≡ true
not_false true e = refl
not_false false e = clash true refl e

-- of two tests neither passes
pub or_left : (t u : Bool) → (t || u) ≡ false → t ≡ false
or_left true u e = e
or_left false u e = refl

pub or_right : (t u : Bool) → (t || u) ≡ false → u ≡ false
or_right true u e = clash true refl e
or_right false u e = e

-- two tests that both pass
pub both : (t u : Bool) → pick t u false ≡ true → (t ≡ true) × (u ≡ true)
both true u e = (refl, e)
both false u e = clash false e refl

-- of two tests one would do: the second passes, or neither does
pub pick_either : (t u : Bool) → u ≡ true → pick t true u ≡ true
pick_either true u e = refl
pick_either false u e = e

pub pick_neither : (t u : Bool) → pick t true u ≡ false → (t ≡ false) × (u ≡ false)
pick_neither true u e = clash true refl e
pick_neither false u e = (refl, e)

-- a choice between two equal things
pub pick_same : {A : Type 0} (t : Bool) (x : A) → pick t x x ≡ x
pick_same true x = refl
pick_same false x = refl

-- the last of tests that all have to pass
pub pick_bool : (t : Bool) → pick t true false ≡ t
pick_bool true = refl
pick_bool false = refl

-- what holds of either choice, with the test's outcome known, holds of the choice
pub pick_cases : {A : Type 0} (M : A → Type 0) (t : Bool) (x y : A) → (t ≡ true → M x) → (t ≡ false → M y) → M (pick t x y)
pick_cases M true x y f g = f refl
pick_cases M false x y f g = g refl

-- a definition by cases where the code's own match has said the case, as `by_case errorNumber`
pub by_case : {A B : Type 0} (g : A → B) (x : B) (a k : A) → a ≡ k → x ≡ g k → x ≡ g a
by_case g x a k h e = e ∙ ap g (sym h)
