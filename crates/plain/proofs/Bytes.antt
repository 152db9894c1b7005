-- A byte of a document by its place, and a fact that holds of each of a few places. Assumes nothing.
use Prim.Native.Nat.{ℕ, ◌+◌, ◌-◌, ◌≤◌, ◌<◌}
use mathlib.Core.Path.{◌≡◌, sym, ap, ◌∙◌, subst}
use mathlib.Core.List.{List}
use native.Mathlib.Omega.{arith}
use native.Mathlib.Decide.{dec_lt}
use lib.ListN.{length, get_or}
use Rattle.ground.specs.Part.{part}
use Rattle.ground.proofs.Lists.{part_byte}

-- one place, written in two ways
pub byte_same : (doc : List ℕ) (i j : ℕ) → i ≡ j → get_or doc i 0 ≡ get_or doc j 0
byte_same doc i j e = ap (λ (n : ℕ). get_or doc n 0) e

-- the place in a part and the place in the document
pub part_same : (doc : List ℕ) (a to n j : ℕ) → to ≤ length doc → n < to - a → j ≡ a + n → get_or (part doc a to) n 0 ≡ get_or doc j 0
part_same doc a to n j h l e = part_byte doc a to n h l ∙ byte_same doc (a + n) j (sym e)

-- one of two places, and of three
pub of_two : (M : ℕ → Type 0) (from j : ℕ) → from ≤ j → j < from + 2 → M from → M (from + 1) → M j
of_two M from j l h a b =
    elim (dec_lt from j) [
      | yes g ↦ subst M (omega arith) b
      | no g ↦ subst M (omega arith) a
    ]

pub of_three : (M : ℕ → Type 0) (from j : ℕ) → from ≤ j → j < from + 3 → M from → M (from + 1) → M (from + 2) → M j
of_three M from j l h a b c =
    elim (dec_lt j (from + 2)) [
      | yes g ↦ of_two M from j l g a b
      | no g ↦ subst M (omega arith) c
    ]
