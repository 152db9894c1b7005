-- The pair of hyphens that a scan has found has a first hyphen. Assumes nothing.
use Prim.Native.Nat.{ℕ, ◌≤◌}
use mathlib.Core.Path.{◌≡◌}
use mathlib.Core.List.{List}
use native.Mathlib.Omega.{arith}
use borrow.Author.Rules.{rules}
use Rattle.ground.proofs.First.{found_has}
use Rattle.parser.specs.Hyphens.{pair_found, PairEnd}
use Rattle.parser.specs.declared.first.Found.{Found}
use Rattle.parser.specs.declared.first.Found.TheVariants.{At}
use Rattle.parser.proofs.Words.{pair_gives}

-- its second hyphen is not the first byte
pub pair_starts : (s : List ℕ) (from p : ℕ) (r : Found) → r ≡ pair_found s from → r ≡ At p → 1 ≤ p
pair_starts s from p r e f =
    let here : PairEnd s from p = found_has At _ _ (pair_gives s from) r p e f in
    omega (arith, here)

pub ruleset pairs = (rules, pair_starts)
