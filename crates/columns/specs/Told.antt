-- What an answer tells of the column (document 02).
use Rattle.std.specs.Prelude.{ℕ, List, [], ◌∷◌, Bool, false, eqb}
use Rattle.ground.specs.Choose.{pick}
use Rattle.ground.specs.Equal.{same}
use Rattle.state.specs.declared.place.Span.{Span}
use Rattle.state.specs.declared.answer.Kind.{Kind}
use Rattle.state.specs.declared.answer.Event.{Event}
use Rattle.state.specs.declared.answer.Answer.{Answer}
use Rattle.state.specs.Values.{kind_number}
use Rattle.reader.specs.Names.{bytes}
use Rattle.columns.specs.declared.text.Text.{Text}
use Rattle.columns.specs.declared.told.Told.{Told}
use Rattle.columns.specs.declared.outcome.Outcome.{Outcome}
use Rattle.columns.specs.Time.{value, read_time}

-- `t`
abbrev pub t_name : List ℕ
t_name = 0x74 ∷ []

-- "A Text is within `t` when the latest open name is `t`": of names with the latest first
abbrev pub within : List ℕ → List Span → Bool
within doc [] = false
within doc (latest ∷ others) = same (bytes doc latest) t_name

abbrev pub is_kind : Kind → Event → Bool
is_kind kind e = eqb (kind_number e.kind) (kind_number kind)

-- the text of a piece: "text left empty by that is passed over", "30 for bad time text"
abbrev pub text_told_as : Span → Text → Told
text_told_as piece Text.Empty = Told.Nothing
text_told_as piece (Text.Time value) = Told.Time value piece
text_told_as piece Text.Other = Told.Refused (Outcome.BadTime piece)

unfoldable pub text_tells : List ℕ → Span → Told
text_tells text piece = text_told_as piece (read_time text)

module _ (doc : List ℕ) (names : List Span) where
  -- Text within `t`; "References inside `t` are 30; other events are passed over"
  unfoldable pub event_tells : Event → Told
  event_tells e =
      pick (is_kind Kind.Text e)
      (pick (within doc names) (text_tells (bytes doc e.content) e.piece) Told.Nothing)
      (pick (is_kind Kind.GeneralRef e)
      (pick (within doc names) (Told.Refused (Outcome.BadTime e.piece)) Told.Nothing)
      Told.Nothing)

  -- an answer, where these names are open: "any of the reader's" refusals is the column's
  abbrev pub tells : Answer → Told
  tells (Answer.Event e) = event_tells e
  tells (Answer.Refused x) = Told.Refused (Outcome.ReaderRefused x)
