-- Blocks of bytes: what is said of n bytes from a place on. No promise of a scan, of the UTF-8 check or of the reader names what stands here.
use Rattle.std.specs.Prelude.{ℕ, ◌+◌, ◌≤◌, ◌<◌, ◌≡◌, List, Bool, true, false, ◌||◌, length, get_or, eqb}

-- ---- tests of a byte

abbrev pub either_of : ℕ → ℕ → ℕ → Bool
either_of a b v = eqb v a || eqb v b

abbrev pub one_of_three : ℕ → ℕ → ℕ → ℕ → Bool
one_of_three a b c v = (eqb v a || eqb v b) || eqb v c

-- how many bytes a search looks at
abbrev pub block_len : ℕ
block_len = 64

-- ---- what is said of bytes

module _ (test : ℕ → Bool) (s : List ℕ) (at n : ℕ) where
  -- n bytes stand at `at`, and none of them passes the test
  pub record NoneOf : Type 0 where
    pub within : at + n ≤ length s
    pub none : (j : ℕ) → j < n → test (get_or s (at + j) 0) ≡ false

  -- r of the n bytes at `at` stand before the first that passes the test
  pub record LeastOf (r : ℕ) : Type 0 where
    pub most : r ≤ n
    pub none : (j : ℕ) → j < r → test (get_or s (at + j) 0) ≡ false
    pub next : r < n → test (get_or s (at + r) 0) ≡ true

  -- so it is, where n bytes stand there; else r is 0
  pub record Clears (r : ℕ) : Type 0 where
    pub there : at + n ≤ length s → LeastOf r
    pub short : length s < at + n → r ≡ 0

  -- a flag is set just where one of the n bytes at `at` passes the test
  pub record Flag (flag : Bool) : Type 0 where
    pub off : flag ≡ false → (j : ℕ) → j < n → test (get_or s (at + j) 0) ≡ false
    pub only : ((j : ℕ) → j < n → test (get_or s (at + j) 0) ≡ false) → flag ≡ false

-- an answer is yes just where a thing is so
pub record YesWhere (answer : Bool) (A : Type 0) : Type 0 where
  pub yes : answer ≡ true → A
  pub only : A → answer ≡ true
