-- A host's state over slots, with the length that it sets when bytes have come.
use Rattle.std.specs.Prelude.{ℕ, List, set}

-- the fourth slot is that of the length
abbrev pub with_length : ℕ → List ℕ → List ℕ
with_length n state = set state 3 n
