-- What routines inside this crate promise those that call them. No promise of `check` names what stands here.
use Rattle.std.specs.Prelude.{ℕ, ◌≤◌, ◌<◌, ◌≡◌, List, Bool, true, length, get_or, drop}
use Rattle.utf8.specs.Utf8.{char_len, check}

-- the bytes from `from` up to `to` are ASCII, and stand in the slice
pub record Ascii (s : List ℕ) (from to : ℕ) : Type 0 where
  pub low : from ≤ to
  pub within : from < to → to ≤ length s
  pub ascii : (p : ℕ) → from ≤ p → p < to → get_or s p 0 < 0x80

-- an answer that is yes only where that is so
pub record Sure (answer : Bool) (s : List ℕ) (from to : ℕ) : Type 0 where
  pub yes : answer ≡ true → Ascii s from to

-- by characters from `from` on r is reached: the check of the whole comes to what it comes to from there on, and before `end` no character starts there
pub record Reached (s : List ℕ) (from end r : ℕ) : Type 0 where
  pub low : from ≤ r
  pub within : r ≤ length s
  pub same : check 0 s ≡ check r (drop r s)
  pub stuck : r < end → char_len (drop r s) ≡ 0
