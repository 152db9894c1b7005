-- The least place of a byte in a block, carried over its bytes. Assumes nothing.
use Prim.Native.Nat.{ℕ, ◌+◌, ◌≤◌, ◌<◌}
use mathlib.Core.Path.{◌≡◌, refl, sym, ◌∙◌, subst}
use mathlib.Core.List.{List}
use mathlib.Core.Bool.{Bool, true, false}
use native.Mathlib.Omega.{arith}
use native.Mathlib.Decide.{dec_lt}
use borrow.Author.Tests.{leb-true, leb-false, ltb-true, ltb-false}
use lib.Dec.{leb, ltb}
use lib.ListN.{length, get_or}
use Rattle.ground.specs.Choose.{pick}
use Rattle.ground.proofs.Choices.{choices, clash}
use Rattle.blocks.specs.Blocks.{one_of_three, LeastOf, Clears}
use Rattle.blocks.proofs.Flags.{fit_there}

-- r is the least place of the first k of n bytes; n where none of them passes the test
pub record LeastSoFar (test : ℕ → Bool) (s : List ℕ) (at n k r : ℕ) : Type 0 where
  pub most : r ≤ n
  pub none : (j : ℕ) → j < k → j < r → test (get_or s (at + j) 0) ≡ false
  pub here : r < n → (r < k) × (test (get_or s (at + r) 0) ≡ true)

module _ (test : ℕ → Bool) (s : List ℕ) (at n : ℕ) where
  first : LeastSoFar test s at n 0 n
  first = record { most = omega arith; none = λ j h l. absurd (omega arith); here = λ h. absurd (omega arith) }

  module _ (k r : ℕ) (v : LeastSoFar test s at n k r) where
    -- the byte at k passes
    nearer : k < n → test (get_or s (at + k) 0) ≡ true → k < r → LeastSoFar test s at n (k + 1) k
    nearer h e l = record { most = omega arith; none = λ j m o. v.none j o (omega arith); here = λ m. (omega arith, e) }

    further : (t : Bool) → test (get_or s (at + k) 0) ≡ t → (t ≡ true → r ≤ k) → LeastSoFar test s at n (k + 1) r
    further t e l = record {
      most = v.most;
      none = λ j m o. elim (dec_lt j k) [
        | yes h ↦ v.none j h o
        | no h ↦ last t e l j (omega arith) o
      ];
      here = λ m. let h = v.here m in (omega (arith, h.0), h.1);
    }
      where
        last : (t : Bool) → test (get_or s (at + k) 0) ≡ t → (t ≡ true → r ≤ k) → (j : ℕ) → j ≡ k → j < r → test (get_or s (at + j) 0) ≡ false
        last true e l j m o = absurd (let g = l refl in omega arith)
        last false e l j m o = rw m e

    ends : n ≤ k → LeastOf test s at n r
    ends h = record { most = v.most; none = λ j l. v.none j (let m = v.most in omega arith) l; next = λ l. (v.here l).1 }

-- ---- the loop of `least`, where i is what `place` says of the byte at k

module _ (s : List ℕ) (at a b c : ℕ) where
  pub places_first : LeastSoFar (one_of_three a b c) s at 64 0 64
  places_first = first (one_of_three a b c) s at 64

  module _ (k r : ℕ) (v : LeastSoFar (one_of_three a b c) s at 64 k r) where
    module _ (h : k < 64) where
      pub places_turn : (i l : ℕ) → i ≡ pick (one_of_three a b c (get_or s (at + k) 0)) k 64 → l ≡ pick (ltb i r) i r → LeastSoFar (one_of_three a b c) s at 64 (k + 1) l
      places_turn i l e f = by (one_of_three a b c (get_or s (at + k) 0)) refl e (ltb i r) refl f
        where
          by : (t : Bool) → one_of_three a b c (get_or s (at + k) 0) ≡ t → i ≡ pick t k 64 → (u : Bool) → ltb i r ≡ u → l ≡ pick u i r → LeastSoFar (one_of_three a b c) s at 64 (k + 1) l
          by true x y true z w =
              subst (LeastSoFar (one_of_three a b c) s at 64 (k + 1)) (sym (w ∙ y)) (nearer (one_of_three a b c) s at 64 k r v h x (omega (arith, y, ltb-true i r z)))
          by true x y false z w =
              subst (LeastSoFar (one_of_three a b c) s at 64 (k + 1)) (sym w) (further (one_of_three a b c) s at 64 k r v true x (λ _. omega (arith, y, ltb-false i r z)))
          by false x y true z w = absurd (omega (arith, y, ltb-true i r z, v.most))
          by false x y false z w =
              subst (LeastSoFar (one_of_three a b c) s at 64 (k + 1)) (sym w) (further (one_of_three a b c) s at 64 k r v false x (λ g. clash false g refl))

    pub places_all : 64 ≤ k → LeastOf (one_of_three a b c) s at 64 r
    places_all = ends (one_of_three a b c) s at 64 k r v

pub ruleset places = (choices, places_first, places_turn, places_all)

-- ---- `clear`

module _ (test : ℕ → Bool) (s : List ℕ) (at n r : ℕ) (fit : Bool) (e : fit ≡ leb (at + n) (length s)) where
  pub before_there : fit ≡ true → LeastOf test s at n r → Clears test s at n r
  before_there f l = record { there = λ h. l; short = λ h. absurd (let m = leb-true (at + n) (length s) (sym e ∙ f) in omega arith) }

module _ (test : ℕ → Bool) (s : List ℕ) (at n : ℕ) (fit : Bool) (e : fit ≡ leb (at + n) (length s)) where
  pub before_short : fit ≡ false → Clears test s at n 0
  before_short f = record { there = λ h. absurd (let m = leb-false (at + n) (length s) (sym e ∙ f) in omega arith); short = λ h. refl }

pub ruleset befores = (choices, fit_there, before_there, before_short)
