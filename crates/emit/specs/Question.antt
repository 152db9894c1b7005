-- Processing instructions and declarations (document 01, "Steps" and "When a call is refused").
use Rattle.std.specs.Prelude.{ℕ, ◌+◌, List, [], ◌∷◌, Bool, true, false, length, get_or, drop, eqb, leb, ltb}
use Rattle.ground.specs.Choose.{pick}
use Rattle.ground.specs.Bytes.{lt, question}
use Rattle.ground.specs.Part.{part}
use Rattle.ground.specs.Equal.{begins}
use Rattle.white.specs.White.{is_white, name_len}
use Rattle.state.specs.declared.place.Position.{Position}
use Rattle.state.specs.declared.place.Span.{Span}
use Rattle.state.specs.declared.answer.Kind.{Kind}
use Rattle.state.specs.declared.answer.Event.{Event}
use Rattle.state.specs.declared.answer.Error.{Error}
use Rattle.state.specs.declared.run.Phase.{Phase}
use Rattle.state.specs.declared.run.Reader.{Reader}
use Rattle.state.specs.declared.run.Step.{Step}
use Rattle.state.specs.Place.{at, size, inner}
use Rattle.state.specs.Make.{event, told, stopped}

-- `xml`
abbrev pub xml : List ℕ
xml = 0x78 ∷ 0x6D ∷ 0x6C ∷ []

-- "If it is `xml`, or begins with `xml` and a byte of white space"
unfoldable pub is_decl : List ℕ → Bool
is_decl bs = pick (begins bs xml) (pick (eqb (length bs) 3) true (is_white (get_or bs 3 0))) false

-- "Decl, name length 3; else PI with its name length"
unfoldable pub question_event : List ℕ → Span → Span → Event
question_event doc piece content =
    pick (is_decl (part doc content.from content.to))
    (event Kind.Decl piece content 3)
    (event Kind.PI piece content (name_len (part doc content.from content.to)))

-- "Piece of 3 bytes: 6. Content lies between", `<?` and `?>`
unfoldable pub emit_question_mark : List ℕ → Reader → Span → Step
emit_question_mark doc r piece =
    pick (ltb (size piece) 4)
    (stopped r Error.UnclosedPI (at piece.from) piece)
    (told r (question_event doc piece (inner piece 2 2)) Phase.InsideText)

-- "7 instead of 6: unclosed, begins `<?xml`, next byte none, white space or `?`"
unfoldable pub unclosed_question : List ℕ → Position → Error
unclosed_question doc from =
    pick (begins (drop from.0 doc) (lt ∷ question ∷ xml))
    (pick (leb (length doc) (from.0 + 5))
    Error.UnclosedXmlDecl
    (pick (eqb (get_or doc (from.0 + 5) 0) question)
    Error.UnclosedXmlDecl
    (pick (is_white (get_or doc (from.0 + 5) 0)) Error.UnclosedXmlDecl Error.UnclosedPI)))
    Error.UnclosedPI
