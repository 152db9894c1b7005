-- The refusals of the column reader, and their numbers (document 02).
use Rattle.std.specs.Prelude.{ℕ, Bool, true, false}
use Rattle.state.specs.declared.place.Span.{Span}
use Rattle.state.specs.declared.answer.Values.{Values}
use Rattle.state.specs.Place.{span}
use Rattle.state.specs.Values.{refusal_values}
use Rattle.columns.specs.declared.outcome.Outcome.{Outcome}

abbrev pub is_refused : Outcome → Bool
is_refused Outcome.Whole = false
is_refused (Outcome.ReaderRefused x) = true
is_refused (Outcome.BadTime piece) = true
is_refused (Outcome.ColumnFull piece) = true

-- "the place of 30 and 31 is the start of that piece"
abbrev pub refusal_of : ℕ → Span → Values
refusal_of number piece =
    record {
      kind = 0;
      number = number;
      place = piece.from;
      piece = piece;
      content = span 0 0;
      name = 0;
      expected = span 0 0;
      found = span 0 0;
    }

-- "any of the reader's, then 30 for bad time text, 31 when the column is full and one more time stands there"; all 0 where nothing is refused
abbrev pub values_of : Outcome → Values
values_of Outcome.Whole = refusal_of 0 (span 0 0)
values_of (Outcome.ReaderRefused x) = refusal_values x
values_of (Outcome.BadTime piece) = refusal_of 30 piece
values_of (Outcome.ColumnFull piece) = refusal_of 31 piece
