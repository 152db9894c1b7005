-- Bytes of two slices that are compared 8 at once. Assumes nothing.
use Prim.Native.Nat.{ℕ, zero, suc, ◌+◌, ◌-◌, ◌≤◌, ◌<◌}
use mathlib.Core.Path.{◌≡◌, ap, ◌∙◌}
use mathlib.Core.List.{List}
use mathlib.Core.Bool.{Bool, false, not, ◌||◌}
use native.Mathlib.Omega.{arith}
use borrow.Author.Count.{below_more}
use borrow.Author.Tests.{eqb-true}
use lib.Dec.{eqb}
use lib.ListN.{length, get_or, drop}
use Rattle.ground.specs.Equal.{begins}
use Rattle.ground.specs.Alike.{Alike}
use Rattle.ground.proofs.Choices.{not_false, or_left, or_right}
use Rattle.ground.proofs.Equal.{compares, compare_turn}

module _ (a b : List ℕ) (at : ℕ) where
  pub alike_none : (flag : Bool) → Alike a b at 0 flag
  alike_none flag = record { same = λ e j h. absurd (omega arith) }

  pub alike_more : (flag : Bool) (k : ℕ) → Alike a b at k flag → Alike a b at (k + 1) (flag || not (eqb (get_or a (at + k) 0) (get_or b (at + k) 0)))
  alike_more flag k u = record {
    same = λ e. below_more (λ (j : ℕ). get_or a (at + j) 0 ≡ get_or b (at + j) 0) k (u.same (or_left flag _ e)) (eqb-true _ _ (not_false _ (or_right flag _ e)));
  }

  pub alike_all : (k n : ℕ) (flag : Bool) → Alike a b at k flag → n ≤ k → Alike a b at n flag
  alike_all k n flag u h = record { same = λ e j l. u.same e j (omega arith) }

-- a loop that compares and stands at i in both
module _ (a b : List ℕ) (even : length a ≡ length b) (i : ℕ) where
  run : (r : Bool) (k : ℕ) → r ≡ begins (drop i a) (drop i b) → i + k ≤ length b → ((j : ℕ) → j < k → get_or a (i + j) 0 ≡ get_or b (i + j) 0)
      → r ≡ begins (drop (i + k) a) (drop (i + k) b)
  run r zero v h all =
      let z : i ≡ i + 0 = omega arith in
      v ∙ ap (λ (n : ℕ). begins (drop n a) (drop n b)) z
  run r (suc k) v h all =
      let z : i + k + 1 ≡ i + suc k = omega arith in
      compare_turn r a b (i + k) (i + k) (run r k v (omega arith) (λ j l. all j (omega arith))) (omega arith) (omega arith) (all k (omega arith))
      ∙ ap (λ (n : ℕ). begins (drop n a) (drop n b)) z

  pub compare_block : (r q : Bool) (k : ℕ) → r ≡ begins (drop i a) (drop i b) → Alike a b i k q → q ≡ false → i ≤ length b → k ≤ length b - i
      → r ≡ begins (drop (i + k) a) (drop (i + k) b)
  compare_block r q k v u e h l = run r k v (omega arith) (u.same e)

pub ruleset alikes = (compares, alike_none, alike_more, alike_all, compare_block)
