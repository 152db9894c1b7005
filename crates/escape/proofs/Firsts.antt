-- The loops that look for a byte, one by one and by blocks. Assumes nothing.
use Prim.Native.Nat.{ℕ, zero, suc, ◌+◌, ◌≤◌, ◌<◌}
use mathlib.Core.Path.{◌≡◌, sym, ap, ◌∙◌}
use mathlib.Core.Bool.{Bool, true, false}
use mathlib.Core.List.{List}
use native.Mathlib.Omega.{arith}
use native.Mathlib.Nat.{zero-add, add-zero}
use lib.ListN.{length, get_or, drop}
use borrow.Author.Rules.{rules}
use borrow.Author.Tests.{eq-eqb, ne_eqb}
use Rattle.ground.proofs.Choices.{or_left}
use Rattle.blocks.specs.Blocks.{either_of, NoneOf, YesWhere}
use Rattle.blocks.proofs.Flags.{block_fits, block_less}
use Rattle.white.specs.White.{until}
use Rattle.white.proofs.Runs.{until_end, until_here, until_next}
use Rattle.escape.specs.Text.{is_byte}

-- where n is that place, and the loop stands at i
module _ (s : List ℕ) (k n i : ℕ) (v : n ≡ i + until (is_byte k) (drop i s)) where
  pub first_past : length s ≤ i → i ≡ n
  first_past h = omega (arith, until_end (is_byte k) s i h)

  module _ (h : i < length s) where
    pub first_here : get_or s i 0 ≡ k → i ≡ n
    first_here e = omega (arith, until_here (is_byte k) s i h (eq-eqb _ _ e))

    pub first_turn : (get_or s i 0 ≡ k → ⊥) → n ≡ i + 1 + until (is_byte k) (drop (i + 1) s)
    first_turn e = omega (arith, until_next (is_byte k) s i h (ne_eqb _ _ e))

pub ruleset firsts = (rules, first_past, first_here, first_turn)

-- w bytes at once, none of which is k
none_until : (s : List ℕ) (k i w : ℕ) → i + w ≤ length s → ((j : ℕ) → j < w → either_of k k (get_or s (i + j) 0) ≡ false) → until (is_byte k) (drop i s) ≡ w + until (is_byte k) (drop (i + w) s)
none_until s k i zero h none = sym (zero-add _) ∙ ap (λ (j : ℕ). 0 + until (is_byte k) (drop j s)) (sym (add-zero i))
none_until s k i (suc w) h none =
    let e : i + w + 1 ≡ i + suc w = omega arith in
    let f : until (is_byte k) (drop (i + w + 1) s) ≡ until (is_byte k) (drop (i + suc w) s) = ap (λ (j : ℕ). until (is_byte k) (drop j s)) e in
    omega (arith, none_until s k i w (omega arith) (λ j l. none j (omega arith)), until_next (is_byte k) s (i + w) (omega arith) (or_left _ _ (none w (omega arith))), f)

pub first_block : (s : List ℕ) (k n i w : ℕ) (q : Bool) → n ≡ i + until (is_byte k) (drop i s) → YesWhere q (NoneOf (either_of k k) s i w) → q ≡ true → n ≡ i + w + until (is_byte k) (drop (i + w) s)
first_block s k n i w q v y e = let b = y.yes e in omega (arith, none_until s k i w b.within b.none)

pub ruleset blocks = (rules, block_fits, block_less, first_block)
