-- What routines inside this crate promise those that call them: bytes that a scan may pass at once. No promise of a scan names what stands here.
use Rattle.std.specs.Prelude.{ℕ, ◌≤◌, ◌<◌, ◌≡◌, List}
use Rattle.blocks.specs.Blocks.{one_of_three, block_len, Clears}
use Rattle.parser.specs.Machine.{Next, scan_at}

-- a scan that stands in state t at `from` comes to what it comes to from `to` on
pub record Passes {S : Type 0} (step : S → ℕ → Next S) (t : S) (s : List ℕ) (from to : ℕ) : Type 0 where
  pub low : from ≤ to
  pub same : scan_at step t s from ≡ scan_at step t s to

-- how many bytes pass where `seen` marks stand just before, of `need`: where there are none, those before the next mark; none where some are, or none is needed
pub record Skips (mark need seen : ℕ) (s : List ℕ) (at r : ℕ) : Type 0 where
  pub unmarked : seen ≡ 0 → 0 < need → Clears (one_of_three mark mark mark) s at block_len r
  pub marked : 0 < seen → r ≡ 0
  pub unneeded : need ≡ 0 → r ≡ 0
