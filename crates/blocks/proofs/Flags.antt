-- Flags that are carried over the bytes of a block, and what a test says of them. Assumes nothing.
use Prim.Native.Nat.{ℕ, ◌+◌, ◌-◌, ◌^◌, ◌≤◌, ◌<◌}
use mathlib.Core.Path.{◌≡◌, refl, sym, ap, ◌∙◌}
use mathlib.Core.List.{List}
use mathlib.Core.Bool.{Bool, true, false, not, ◌||◌}
use native.Mathlib.Omega.{arith}
use native.Mathlib.Decide.{dec_lt}
use mir.Val.{Fits}
use mir.Syntax.{w64}
use borrow.Author.Count.{below_more}
use borrow.Author.Tests.{le-leb, lt-leb, leb-true, leb-false}
use lib.Dec.{eqb, leb}
use lib.ListN.{length, get_or}
use Rattle.ground.proofs.Choices.{choices, clash, not_true, or_left, or_right}
use Rattle.blocks.specs.Blocks.{either_of, NoneOf, Flag, YesWhere}

-- ---- either of two

or_both : (a b : Bool) → a ≡ false → b ≡ false → (a || b) ≡ false
or_both a b e f = rw (e, f)

-- ---- a byte further

module _ (test : ℕ → Bool) (s : List ℕ) (at : ℕ) where
  none_before : Flag test s at 0 false
  none_before = record { off = λ e j h. absurd (omega arith); only = λ all. refl }

  one_more : (k : ℕ) (flag : Bool) → Flag test s at k flag → Flag test s at (k + 1) (flag || test (get_or s (at + k) 0))
  one_more k flag f = record {
    off = λ e. below_more (λ (j : ℕ). test (get_or s (at + j) 0) ≡ false) k (f.off (or_left flag _ e)) (or_right flag _ e);
    only = λ all. or_both flag _ (f.only (λ j h. all j (omega arith))) (all k (omega arith));
  }

  all_seen : (k n : ℕ) (flag : Bool) → Flag test s at k flag → n ≤ k → k ≤ n → Flag test s at n flag
  all_seen k n flag f h l = record { off = λ e j m. f.off e j (omega arith); only = λ all. f.only (λ j m. all j (omega arith)) }

-- for each of the two tests, since `search` finds no test by itself
module _ (s : List ℕ) (at a : ℕ) where
  pub equal_none : Flag (λ v. eqb v a) s at 0 false
  equal_none = none_before (λ v. eqb v a) s at

  pub equal_more : (k : ℕ) (flag : Bool) → Flag (λ v. eqb v a) s at k flag → Flag (λ v. eqb v a) s at (k + 1) (flag || eqb (get_or s (at + k) 0) a)
  equal_more = one_more (λ v. eqb v a) s at

  pub high_none : Flag (leb a) s at 0 false
  high_none = none_before (leb a) s at

  pub high_more : (k : ℕ) (flag : Bool) → Flag (leb a) s at k flag → Flag (leb a) s at (k + 1) (flag || leb a (get_or s (at + k) 0))
  high_more = one_more (leb a) s at

  pub high_all : (k n : ℕ) (flag : Bool) → Flag (leb a) s at k flag → n ≤ k → k ≤ n → Flag (leb a) s at n flag
  high_all = all_seen (leb a) s at

module _ (s : List ℕ) (at a b k n : ℕ) (x y : Bool) where
  abbrev left : ℕ → Bool
  left j = eqb (get_or s (at + j) 0) a

  abbrev right : ℕ → Bool
  right j = eqb (get_or s (at + j) 0) b

  pub either_all : Flag (λ v. eqb v a) s at k x → Flag (λ v. eqb v b) s at k y → n ≤ k → k ≤ n → Flag (either_of a b) s at n (x || y)
  either_all f g h l =
      all_seen (either_of a b) s at k n (x || y)
      (record {
        off = λ e j m. or_both (left j) (right j) (f.off (or_left x y e) j m) (g.off (or_right x y e) j m);
        only = λ all. or_both x y (f.only (λ j m. or_left (left j) (right j) (all j m))) (g.only (λ j m. or_right (left j) (right j) (all j m)));
      })
      h
      l

pub ruleset flags = (choices, equal_none, equal_more, high_none, high_more, high_all, either_all)

-- ---- what a test says, where `fit` is what `fits` says

pub fit_there : (a b : ℕ) (fit : Bool) → fit ≡ leb a b → fit ≡ true → a ≤ b
fit_there a b fit e f = leb-true a b (sym e ∙ f)

module _ (test : ℕ → Bool) (s : List ℕ) (at n : ℕ) (fit : Bool) (e : fit ≡ leb (at + n) (length s)) where
  pub said_there : fit ≡ true → (q : Bool) → Flag test s at n q → YesWhere (not q) (NoneOf test s at n)
  said_there f q g = record {
    yes = λ h. record { within = leb-true (at + n) (length s) (sym e ∙ f); none = g.off (not_true q h) };
    only = λ all. ap not (g.only all.none);
  }

  pub said_short : fit ≡ false → YesWhere false (NoneOf test s at n)
  said_short f = record {
    yes = λ h. clash false h refl;
    only = λ all. absurd (let l = leb-false (at + n) (length s) (sym e ∙ f) in let m = all.within in omega arith);
  }

-- a block that has none, as told, stands before the end
module _ (test : ℕ → Bool) (s : List ℕ) (at n : ℕ) (q : Bool) (b : YesWhere q (NoneOf test s at n)) (e : q ≡ true) where
  pub block_fits : length s < 2 ^ 64 → Fits w64 (at + n)
  block_fits l = record { fits = omega (arith, (b.yes e).within) }

  pub block_less : 0 < n → length s - (at + n) < length s - at
  block_less h = omega (arith, (b.yes e).within)

-- ---- whether n bytes stand at b, of a bytes

module _ (a b n : ℕ) where
  pub fits_past : a < b → false ≡ leb (b + n) a
  fits_past h = sym (lt-leb (b + n) a (omega arith))

  pub fits_there : b ≤ a → leb n (a - b) ≡ leb (b + n) a
  fits_there h = elim (dec_lt a (b + n)) [
    | yes l ↦ lt-leb n (a - b) (omega arith) ∙ sym (lt-leb (b + n) a (omega arith))
    | no l ↦ le-leb n (a - b) (omega arith) ∙ sym (le-leb (b + n) a (omega arith))
  ]

pub ruleset tests = (choices, fit_there, said_there, said_short, fits_past, fits_there)
