-- The scan for two hyphens in a row, for which `check_comments` refuses a comment (document 01, "Steps").
use Rattle.std.specs.Prelude.{ℕ, ◌+◌, ◌-◌, ◌≤◌, ◌<◌, ◌≡◌, List, Bool, true, false, length, get_or, eqb}
use Rattle.ground.specs.Choose.{pick}
use Rattle.ground.specs.Bytes.{hyphen}
use Rattle.parser.specs.Machine.{Next, go, halt, Scan, found, going, scan_at}
use Rattle.parser.specs.declared.first.Found.{Found}
use Rattle.parser.specs.declared.first.Found.TheVariants.{At, End}

-- the state says whether the byte just before is a hyphen; a hyphen after one stops the scan
abbrev pub pair_step : Bool → ℕ → Next Bool
pair_step before b = pick (eqb b hyphen) (pick before halt (go true)) (go false)

-- the scan as the answer that it gives
abbrev pub pair_answer : Scan Bool → Found
pair_answer (found p) = At p
pair_answer (going before) = End

-- from `from` on, with no hyphen before
abbrev pub pair_found : List ℕ → ℕ → Found
pair_found s from = pair_answer (scan_at pair_step false s from)

-- ---- the same in words

-- at p and just before it stand hyphens, both at `from` or later
pub record PairEnd (s : List ℕ) (from p : ℕ) : Type 0 where
  pub after : from < p
  pub within : p < length s
  pub second : get_or s p 0 ≡ hyphen
  pub first : get_or s (p - 1) 0 ≡ hyphen

-- at k and right after it stand hyphens, and k lies from `from` on and before `to`
pub record HyphensAt (s : List ℕ) (from to k : ℕ) : Type 0 where
  pub after : from ≤ k
  pub before : k < to
  pub first : get_or s k 0 ≡ hyphen
  pub second : get_or s (k + 1) 0 ≡ hyphen
