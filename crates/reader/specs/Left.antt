-- Where a refusal leaves the reader (document 01, "When a call is refused", "Position left"): by its number and its piece, at whose end it is left.
use Rattle.std.specs.Prelude.{ℕ, ◌+◌, ◌-◌, ◌≤◌, ◌<◌, ◌≡◌, ◌⊎◌, List, length, get_or}
use Rattle.ground.specs.Bytes.{gt, lt}
use Rattle.state.specs.declared.place.Span.{Span}

pub data Left (doc : List ℕ) (number : ℕ) (piece : Span) : Type 0 where
  -- 1 to 7: "length"
  at_length : number ≤ 7 → piece.to ≡ length doc → Left doc number piece
  -- 1: "lone final `<`: kept"
  at_lone_bracket : number ≡ 1 → piece.to ≡ piece.from → get_or doc piece.from 0 ≡ lt → piece.from + 1 ≡ length doc → Left doc number piece
  -- 8, 14 and 15: "kept"
  at_start : (number ≡ 8) ⊎ ((number ≡ 14) ⊎ (number ≡ 15)) → piece.to ≡ piece.from → Left doc number piece
  -- 4, 5 and 6: "after `>`"
  after_bracket : 4 ≤ number → number ≤ 6 → piece.from < piece.to → get_or doc (piece.to - 1) 0 ≡ gt → Left doc number piece
  -- 9 to 13: "after piece"
  after_piece : 9 ≤ number → number ≤ 13 → piece.from < piece.to → Left doc number piece
