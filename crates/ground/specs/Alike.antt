-- What a routine inside this crate promises those that call it. No promise of another names what stands here.
use Rattle.std.specs.Prelude.{ℕ, ◌+◌, ◌<◌, ◌≡◌, List, Bool, false, get_or}

-- a flag that is off only where the n bytes at `at` are the same in both
pub record Alike (a b : List ℕ) (at n : ℕ) (flag : Bool) : Type 0 where
  pub same : flag ≡ false → (j : ℕ) → j < n → get_or a (at + j) 0 ≡ get_or b (at + j) 0
