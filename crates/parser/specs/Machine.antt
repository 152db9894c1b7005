-- A scan as a step machine: it takes a byte at a time, and goes on in a state or stops. Every scan is one step function; `feed` folds it
-- over bytes that start at a position, and what it has found stays found.
use Rattle.std.specs.Prelude.{ℕ, ◌+◌, List, [], ◌∷◌, drop}

-- what a byte does to a state
pub data Next (S : Type 0) : Type 0 where
  go : S → Next S
  halt : Next S

-- where a scan stands: it stopped at a position, or goes on in a state
pub data Scan (S : Type 0) : Type 0 where
  found : ℕ → Scan S
  going : S → Scan S

module _ {S : Type 0} where
  -- where a scan stands after a byte at i
  abbrev pub stand : ℕ → Next S → Scan S
  stand i (go s) = going s
  stand i halt = found i

module _ {S : Type 0} (step : S → ℕ → Next S) where
  -- one byte, which stands at i
  abbrev pub tick : Scan S → ℕ → ℕ → Scan S
  tick (found p) i b = found p
  tick (going s) i b = stand i (step s b)

  -- bytes that start at i
  unfoldable pub feed : Scan S → ℕ → List ℕ → Scan S
  feed r i [] = r
  feed r i (b ∷ bs) = feed (tick r i b) (i + 1) bs

  -- a scan that begins in state s at position i of a document
  abbrev pub scan_at : S → List ℕ → ℕ → Scan S
  scan_at s a i = feed (going s) i (drop i a)
