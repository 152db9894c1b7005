-- Choices by a flag and tests that are joined, and which character a byte begins: what `search` answers the straight code of this crate with. Assumes nothing.
use Prim.Native.Nat.{ℕ, ◌-◌, ◌≤◌, ◌<◌}
use mathlib.Core.Path.{◌≡◌, refl, sym, ◌∙◌}
use mathlib.Core.List.{List, [], ◌∷◌}
use mathlib.Core.Bool.{Bool, true, false, not, ◌&&◌, ◌||◌}
use mathlib.Core.Logic.{◌⊎◌, inl, inr, ⊎_elim}
use native.Mathlib.Omega.{arith}
use lib.Dec.{leb, ltb}
use native.Mathlib.Decide.{dec_lt}
use borrow.Author.Tests.{lt-ltb, le-ltb, ltb-true, lt-leb, le-leb, leb-true}
use Rattle.ground.specs.Choose.{pick}
use Rattle.ground.proofs.Choices.{by_true, by_false, choices, clash, pick_bool, pick_cases}
use Rattle.utf8.specs.Utf8.{in_range}
use Rattle.utf8.proofs.Table.{in_range_lem, under_range, over_range}
use Rattle.plain.specs.declared.known.Letters.{Letters}
use Rattle.plain.specs.Letters.{owing, ill, lead}

pub ruleset flags = (choices, by_true, by_false)

-- ---- a value that was chosen by a test

pub chosen : {A : Type 0} (t : Bool) (x a b : A) → ((t ≡ true) × (x ≡ a)) ⊎ ((t ≡ false) × (x ≡ b)) → x ≡ pick t a b
chosen t x a b w = ⊎_elim (λ u. rw u.0 u.1) (λ u. rw u.0 u.1) w

pub chosen_less : {A : Type 0} (m n : ℕ) (x a b : A) → ((m < n) × (x ≡ a)) ⊎ ((n ≤ m) × (x ≡ b)) → x ≡ pick (ltb m n) a b
chosen_less m n x a b w = ⊎_elim (λ u. rw (lt-ltb m n u.0) u.1) (λ u. rw (le-ltb m n u.0) u.1) w

-- one less, where there is one
pub one_less : (n x : ℕ) → ((0 < n) × (x ≡ n - 1)) ⊎ ((n ≤ 0) × (x ≡ 0)) → x ≡ n - 1
one_less n x w = ⊎_elim (λ u. u.1) (λ u. omega (arith, u.0, u.1)) w

-- the other value stands for it
pub pick_else : {A : Type 0} (t : Bool) (x y z : A) → (t ≡ false → y ≡ z) → pick t x y ≡ pick t x z
pick_else true x y z f = refl
pick_else false x y z f = f refl

-- ---- two tests joined

-- asked one after the other
pub and_then : {A : Type 0} (t u : Bool) (x y : A) → pick (t && u) x y ≡ pick t (pick u x y) y
and_then true u x y = refl
and_then false u x y = refl

pub or_then : {A : Type 0} (t u : Bool) (x y : A) → pick (t || u) x y ≡ pick t x (pick u x y)
or_then true u x y = refl
or_then false u x y = refl

pub and_pick : (t u : Bool) → (t && u) ≡ pick t (pick u true false) false
and_pick t u = sym (pick_bool (t && u)) ∙ and_then t u true false

-- both hold
pub and_left : (t u : Bool) → (t && u) ≡ true → t ≡ true
and_left true u e = refl
and_left false u e = e

pub and_right : (t u : Bool) → (t && u) ≡ true → u ≡ true
and_right true u e = e
and_right false u e = clash false e refl

pub and_both : (t u : Bool) → t ≡ true → u ≡ true → (t && u) ≡ true
and_both t u e f = rw (e, f)

-- the second fails
pub and_none : (t u : Bool) → u ≡ false → (t && u) ≡ false
and_none true u e = e
and_none false u e = refl

-- one of them holds
pub or_first : (t u : Bool) → t ≡ true → (t || u) ≡ true
or_first t u e = rw e

pub or_second : (t u : Bool) → u ≡ true → (t || u) ≡ true
or_second true u e = refl
or_second false u e = e

pub or_cases : (t u : Bool) → (t || u) ≡ true → (t ≡ true) ⊎ (u ≡ true)
or_cases true u e = inl refl
or_cases false u e = inr e

-- ---- two tests that say the same, or the opposite

pub agree : (t u : Bool) → (u ≡ true → t ≡ true) → (u ≡ false → t ≡ false) → t ≡ u
agree t true f g = f refl
agree t false f g = g refl

pub unless : {A : Type 0} (t u : Bool) (x y : A) → u ≡ t → pick (not t) x y ≡ pick u y x
unless true u x y e = rw e
unless false u x y e = rw e

pub turned : {A : Type 0} (m n : ℕ) (x y : A) → pick (ltb m n) x y ≡ pick (leb n m) y x
turned m n x y =
    elim (dec_lt m n) [
      | yes h ↦ rw (lt-ltb m n h, lt-leb n m h)
      | no h ↦ rw (le-ltb m n (omega arith), le-leb n m (omega arith))
    ]

-- ---- the first byte of a character, by the code's own tests

-- a first byte from .0 to .1; then .2 bytes, the next of them from .3 to .4
abbrev Row : Type 0
Row = ℕ × ℕ × ℕ × ℕ × ℕ

abbrev table : List Row
table =
    (0x00, 0x7F, 0, 0x80, 0xBF)
    ∷ (0xC2, 0xDF, 1, 0x80, 0xBF)
    ∷ (0xE0, 0xE0, 2, 0xA0, 0xBF)
    ∷ (0xE1, 0xEC, 2, 0x80, 0xBF)
    ∷ (0xED, 0xED, 2, 0x80, 0x9F)
    ∷ (0xEE, 0xEF, 2, 0x80, 0xBF)
    ∷ (0xF0, 0xF0, 3, 0x90, 0xBF)
    ∷ (0xF1, 0xF3, 3, 0x80, 0xBF)
    ∷ (0xF4, 0xF4, 3, 0x80, 0x8F)
    ∷ []

-- the rows from the first on that does not end before m
abbrev rows_from_lem : ℕ → List Row → List Row
rows_from_lem m [] = []
rows_from_lem m (x ∷ t) = pick (ltb x.1 m) (rows_from_lem m t) (x ∷ t)

-- all of them begin at m or behind it
abbrev begin_at : ℕ → List Row → Bool
begin_at m [] = true
begin_at m (x ∷ t) = leb m x.0 && begin_at m t

module _ (at b : ℕ) where
  abbrev by_rows : List Row → Letters
  by_rows [] = ill at
  by_rows (x ∷ t) = pick (in_range (x.0, x.1) b) (owing at x.2 x.3 x.4) (by_rows t)

  -- a byte from m on is in no row that ends before m
  past_rows : (m : ℕ) (t : List Row) → m ≤ b → by_rows t ≡ by_rows (rows_from_lem m t)
  past_rows m [] h = refl
  past_rows m (x ∷ t) h =
      pick_cases (λ (u : List Row). by_rows (x ∷ t) ≡ by_rows u) (ltb x.1 m) _ _
      (λ e. rw (over_range x.0 x.1 b (omega (arith, ltb-true x.1 m e))) (past_rows m t h)) (λ e. refl)

  -- and one before m in no row that begins there
  before_rows : (m : ℕ) (t : List Row) → begin_at m t ≡ true → b < m → by_rows t ≡ ill at
  before_rows m [] e h = refl
  before_rows m (x ∷ t) e h =
      rw (under_range x.0 x.1 b (omega (arith, leb-true m x.0 (and_left (leb m x.0) (begin_at m t) e))))
      (before_rows m t (and_right (leb m x.0) (begin_at m t) e) h)

  lead_from : (m : ℕ) → m ≤ b → lead at b ≡ by_rows (rows_from_lem m table)
  unfolding lead
  lead_from m h = past_rows m table h

  pub lead_one : b < 0x80 → lead at b ≡ owing at 0 0x80 0xBF
  lead_one h = lead_from 0x00 (omega arith) ∙ rw (in_range_lem 0x00 0x7F b (omega arith) (omega arith))

  pub lead_low : 0x80 ≤ b → b < 0xC2 → lead at b ≡ ill at
  lead_low h k = lead_from 0x80 h ∙ before_rows 0xC2 (rows_from_lem 0x80 table) refl k

  pub lead_two : 0xC2 ≤ b → b < 0xE0 → lead at b ≡ owing at 1 0x80 0xBF
  lead_two h k = lead_from 0xC2 h ∙ rw (in_range_lem 0xC2 0xDF b h (omega arith))

  pub lead_three : 0xE0 ≤ b → b < 0xED → (b ≡ 0xE0 → ⊥) → lead at b ≡ owing at 2 0x80 0xBF
  lead_three h k n = lead_from 0xE1 (omega arith) ∙ rw (in_range_lem 0xE1 0xEC b (omega arith) (omega arith))

  pub lead_last_three : 0xED ≤ b → b < 0xF0 → (b ≡ 0xED → ⊥) → lead at b ≡ owing at 2 0x80 0xBF
  lead_last_three h k n = lead_from 0xEE (omega arith) ∙ rw (in_range_lem 0xEE 0xEF b (omega arith) (omega arith))

  pub lead_four : 0xF0 ≤ b → b < 0xF4 → (b ≡ 0xF0 → ⊥) → lead at b ≡ owing at 3 0x80 0xBF
  lead_four h k n = lead_from 0xF1 (omega arith) ∙ rw (in_range_lem 0xF1 0xF3 b (omega arith) (omega arith))

  pub lead_high : 0xF4 ≤ b → (b ≡ 0xF4 → ⊥) → lead at b ≡ ill at
  lead_high h n = lead_from 0xF5 (omega arith)
