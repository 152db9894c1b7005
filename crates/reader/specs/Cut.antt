-- How the next piece is cut off the document (document 01, "Steps"): what it is and where it ends, or a refusal: no closer, 8 or 14.
use Rattle.std.specs.Prelude.{ℕ, ◌+◌, List, length, get_or, eqb, leb}
use Rattle.ground.specs.Choose.{pick}
use Rattle.ground.specs.Bytes.{amp, bang, hyphen, lower_d, lt, open_bracket, question, semicolon, slash, upper_d}
use Rattle.parser.specs.Element.{element_found, by_tag}
use Rattle.parser.specs.First.{text_found, reference_found, by_first}
use Rattle.parser.specs.Marks.{pi_found, comment_found, cdata_found, by_marks}
use Rattle.parser.specs.declared.element.Found.{Found as TagFound}
use Rattle.parser.specs.declared.element.ElementState.{ElementState}
use Rattle.parser.specs.declared.marks.Found.{Found as MarksFound}
use Rattle.state.specs.declared.answer.Error.{Error}
use Rattle.state.specs.declared.run.Phase.{Phase}
use Rattle.state.specs.Place.{at, span}
use Rattle.state.specs.Make.{refusal}
use Rattle.emit.specs.Question.{unclosed_question}
use Rattle.reader.specs.declared.piece.Shape.{Shape}
use Rattle.reader.specs.declared.piece.Cut.{Cut}

-- a piece from `from` to `to`
unfoldable pub whole : Shape → ℕ → ℕ → Phase → Cut
whole shape from to next = Cut.Piece (record { shape = shape; span = span from to; next = next })

-- a refusal of the piece that starts at `from`, which leaves the reader at `left`; "Place is the piece's start"
unfoldable pub stop : Error → ℕ → ℕ → Cut
stop error from left = Cut.Stop (refusal error (at from) (span from left))

-- ---- text and references

-- "next phase markup, reference"
unfoldable pub phase_at : List ℕ → ℕ → Phase
phase_at doc end = pick (eqb (get_or doc end 0) lt) Phase.InsideMarkup Phase.InsideRef

-- "the piece runs to the next `<` or `&` or the end; next phase markup, reference or Done"
unfoldable pub cut_text : List ℕ → ℕ → Cut
cut_text doc from =
    by_first (text_found doc from)
    (λ end. whole Shape.Text from end (phase_at doc end))
    (whole Shape.LastText from (length doc) Phase.Done)

-- "from `&` to the first of `;`, `&`, `<` after it. `;` is included: .. phase text. Otherwise the piece stops before that byte or at the end"; "Next
-- phase: reference, markup, or Done at the end."
unfoldable pub cut_ref : List ℕ → ℕ → Cut
cut_ref doc from =
    by_first (reference_found doc from)
    (λ end. pick (eqb (get_or doc end 0) semicolon)
    (whole Shape.GeneralRef from (end + 1) Phase.InsideText)
    (whole Shape.Dangling from end (phase_at doc end)))
    (whole Shape.Dangling from (length doc) Phase.Done)

-- ---- markup; "next phase text"

-- "1, 2, 3: no closing `>`: outside quotes, in `'`, in `\"`"; that an end was found does not come here
unfoldable pub unclosed_tag : TagFound → Error
unclosed_tag (TagFound.At end) = Error.UnclosedTag
unclosed_tag (TagFound.Open ElementState.Outside) = Error.UnclosedTag
unclosed_tag (TagFound.Open ElementState.SingleQ) = Error.UnclosedSingleQuotedAttributeValue
unclosed_tag (TagFound.Open ElementState.DoubleQ) = Error.UnclosedDoubleQuotedAttributeValue

-- "ends at the first `>` outside quotes"; unclosed, position "length"
unfoldable pub cut_tag : List ℕ → ℕ → Shape → Cut
cut_tag doc from shape =
    by_tag (element_found doc from)
    (λ end. whole shape from (end + 1) Phase.InsideText)
    (stop (unclosed_tag (element_found doc from)) from (length doc))

-- a comment or CDATA whose end was looked for; unclosed, position "length"
unfoldable pub cut_marked : List ℕ → ℕ → MarksFound → Shape → Error → Cut
cut_marked doc from found shape error =
    by_marks found
    (λ end. whole shape from (end + 1) Phase.InsideText)
    (stop error from (length doc))

-- "`!`: the third byte chooses: `[` CDATA, `-` comment, `D` or `d` gives 14, any other or none 8"; position "kept". A missing third byte reads as
-- 0, which is none of these.
unfoldable pub cut_bang : List ℕ → ℕ → ℕ → Cut
cut_bang doc from third =
    pick (eqb third open_bracket)
    (cut_marked doc from (cdata_found doc from) Shape.CData Error.UnclosedCData)
    (pick (eqb third hyphen)
    (cut_marked doc from (comment_found doc from) Shape.Comment Error.UnclosedComment)
    (pick (eqb third upper_d)
    (stop Error.DocType from from)
    (pick (eqb third lower_d)
    (stop Error.DocType from from)
    (stop Error.InvalidBangMarkup from from))))

-- "`?`: ends at the first `>` with a `?` just before"; unclosed, position "length"
unfoldable pub cut_question : List ℕ → ℕ → Cut
cut_question doc from =
    by_marks (pi_found doc from)
    (λ end. whole Shape.QuestionMark from (end + 1) Phase.InsideText)
    (stop (unclosed_question doc (at from)) from (length doc))

-- "Markup looks at the byte after `<`. .. No such byte: 1, position kept."
unfoldable pub cut_markup : List ℕ → ℕ → Cut
cut_markup doc from =
    pick (leb (length doc) (from + 1))
    (stop Error.UnclosedTag from from)
    (pick (eqb (get_or doc (from + 1) 0) bang)
    (cut_bang doc from (get_or doc (from + 2) 0))
    (pick (eqb (get_or doc (from + 1) 0) question)
    (cut_question doc from)
    (pick (eqb (get_or doc (from + 1) 0) slash)
    (cut_tag doc from Shape.End)
    (cut_tag doc from Shape.Start))))

-- "At `<` go to markup, at `&` to reference, with no event. Else" text
unfoldable pub cut_next : List ℕ → ℕ → Cut
cut_next doc from =
    pick (eqb (get_or doc from 0) lt)
    (cut_markup doc from)
    (pick (eqb (get_or doc from 0) amp) (cut_ref doc from) (cut_text doc from))
