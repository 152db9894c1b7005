-- Comments and CDATA (document 01, "Steps"; the place of 9 by document 02).
use Rattle.std.specs.Prelude.{ℕ, ◌-◌, List, [], ◌∷◌, drop, ltb}
use Rattle.ground.specs.Choose.{pick}
use Rattle.ground.specs.Bytes.{bang, hyphen, lt, open_bracket}
use Rattle.ground.specs.Equal.{begins}
use Rattle.ground.specs.Least.{Least}
use Rattle.parser.specs.First.{by_first}
use Rattle.parser.specs.Hyphens.{pair_found, HyphensAt}
use Rattle.state.specs.declared.place.Span.{Span}
use Rattle.state.specs.declared.answer.Kind.{Kind}
use Rattle.state.specs.declared.answer.Error.{Error}
use Rattle.state.specs.declared.run.Phase.{Phase}
use Rattle.state.specs.declared.run.Reader.{Reader}
use Rattle.state.specs.declared.run.Step.{Step}
use Rattle.state.specs.Place.{at, inner}
use Rattle.state.specs.Make.{event, told, refused, stopped}

-- `<!--`
abbrev pub comment_opener : List ℕ
comment_opener = lt ∷ bang ∷ hyphen ∷ hyphen ∷ []

-- `<![CDATA[`
abbrev pub cdata_opener : List ℕ
cdata_opener = lt ∷ bang ∷ open_bracket ∷ 0x43 ∷ 0x44 ∷ 0x41 ∷ 0x54 ∷ 0x41 ∷ open_bracket ∷ []

-- a Comment or a CData
unfoldable pub bang_event : Reader → Kind → Span → Span → Step
bang_event r kind piece content = told r (event kind piece content 0) Phase.InsideText

-- "With `check_comments`, a comment is refused (9) if a content `-` is followed by `-` (the closer's included)": the first two hyphens in a row end at the
-- content's end at the latest, where the closer begins. "refusal 9 has as its place the first hyphen of the first pair": the one before `second`
unfoldable pub checked_comment : List ℕ → Reader → Span → Span → Step
checked_comment doc r piece content =
    by_first (pair_found doc content.from)
    (λ second. pick (ltb content.to second)
    (bang_event r Kind.Comment piece content)
    (refused r Error.DoubleHyphenInComment (at (second - 1)) piece Phase.InsideText))
    (bang_event r Kind.Comment piece content)

-- "Closed but not opening `<!--` or `<![CDATA[`: 4 or 5. Content lies between opener and closer."
unfoldable pub emit_comment : List ℕ → Reader → Span → Step
emit_comment doc r piece =
    pick (begins (drop piece.from doc) comment_opener)
    (pick r.settings.check_comments
    (checked_comment doc r piece (inner piece 4 3))
    (bang_event r Kind.Comment piece (inner piece 4 3)))
    (stopped r Error.UnclosedComment (at piece.from) piece)

unfoldable pub emit_cdata : List ℕ → Reader → Span → Step
emit_cdata doc r piece =
    pick (begins (drop piece.from doc) cdata_opener)
    (bang_event r Kind.CData piece (inner piece 9 3))
    (stopped r Error.UnclosedCData (at piece.from) piece)

-- ---- 9 in words

-- "a content `-` is followed by `-` (the closer's included)"
abbrev pub TwoHyphens : List ℕ → Span → Type 0
TwoHyphens doc content = (k : ℕ) × HyphensAt doc content.from content.to k

-- "the first hyphen of the first pair": the least place of the content with hyphens there and right after it (the closer's included)
abbrev pub FirstPair : List ℕ → Span → ℕ → Type 0
FirstPair doc content = Least (HyphensAt doc content.from content.to)
