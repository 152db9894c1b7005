-- What routines inside this crate ask of their callers, in the crate too, and promise them. No other crate can call them, and no promise of `advance` or
-- `content` names what stands here.
use Rattle.std.specs.Prelude.{ℕ, ◌+◌, ◌*◌, ◌<◌, ◌^◌, ◌≡◌, List, length, eqb}
use Rattle.ground.specs.Choose.{pick}
use Rattle.ground.specs.Bytes.{slash}
use Rattle.parser.specs.declared.marks.Found.{Found as MarksFound}
use Rattle.state.specs.declared.answer.Kind.{Kind}
use Rattle.state.specs.declared.answer.Answer.{Answer}
use Rattle.state.specs.declared.run.Phase.{Phase}
use Rattle.state.specs.declared.run.Reader.{Reader}
use Rattle.state.specs.Limits.{slots}
use Rattle.state.specs.Values.{kind_number, values_of}
use Rattle.reader.specs.declared.piece.Shape.{Shape}
use Rattle.reader.specs.declared.piece.Due.{Due}
use Rattle.reader.specs.Names.{name_of}
use Rattle.reader.specs.Step.{begin, skipped}

-- ---- what they ask

-- an end that was found stands in the document
abbrev pub EndsWithin : List ℕ → MarksFound → Type 0
EndsWithin doc found = (end : ℕ) → found ≡ MarksFound.At end → end < length doc

-- n slots have room for the name, and its end is a number of 64 bits
pub record Room (n d : ℕ) (a : Answer) : Type 0 where
  pub room : (values_of a).kind ≡ kind_number Kind.Start → (d * slots + 1 < n) × ((name_of a).to < 2 ^ 64)

-- ---- what they promise

-- which tag it is, by the byte after `<`
abbrev pub tag_shape : ℕ → Shape
tag_shape b = pick (eqb b slash) Shape.End Shape.Start

-- what is due in a phase
module _ (doc : List ℕ) (r : Reader) where
  abbrev pub due_in : Phase → Due
  due_in Phase.Init = Due.Piece (skipped doc r.settings (begin doc))
  due_in Phase.InsideText = Due.Piece (skipped doc r.settings r.position.0)
  due_in Phase.InsideMarkup = Due.Piece r.position.0
  due_in Phase.InsideRef = Due.Piece r.position.0
  due_in Phase.InsideEmpty = Due.EmptyEnd
  due_in Phase.Done = Due.Nothing

  unfoldable pub due_of : Due
  due_of = due_in r.phase
