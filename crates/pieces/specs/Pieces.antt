-- Bytes that are fed in pieces, and the same bytes uncut.
use Rattle.std.specs.Prelude.{ℕ, ◌+◌, ◌≤◌, List, [], ◌∷◌, ◌++◌, ◌≡◌, length, get_or, eqb, leb}
use Rattle.ground.specs.Choose.{pick}
use Rattle.ground.specs.Bytes.{amp, bang, hyphen, lt, open_bracket, question}
use Rattle.parser.specs.Machine.{found, going}
use Rattle.parser.specs.Element.{element_found}
use Rattle.parser.specs.First.{reference_found, text_found}
use Rattle.parser.specs.Marks.{cdata_found, comment_found, pi_found}
use Rattle.parser.specs.declared.element.Found.{Found as TagFound}
use Rattle.parser.specs.declared.first.Found.{Found as FirstFound}
use Rattle.parser.specs.declared.marks.Found.{Found as MarksFound}
use Rattle.state.specs.Limits.{longest}
use Rattle.pieces.specs.declared.scan.Kind.{Kind}
use Rattle.pieces.specs.declared.scan.What.{What}
use Rattle.pieces.specs.declared.scan.State.{State}
use Rattle.pieces.specs.declared.scan.Scan.{Scan}
use Rattle.pieces.specs.declared.scan.Fed.{Fed}
use Rattle.pieces.specs.Kinds.{tag_course, marked_course, first_course}
use Rattle.pieces.specs.Fed.{answer_of, fed, fresh}

-- the uncut bytes
unfoldable pub joined : List (List ℕ) → List ℕ
joined [] = []
joined (piece ∷ pieces) = piece ++ joined pieces

-- what the last call answers, where a piece and then others are fed one after the other
unfoldable pub fed_all : Scan → List ℕ → List (List ℕ) → Fed
fed_all scan piece [] = fed scan piece
fed_all scan piece (next ∷ pieces) = fed_all (fed scan piece).scan next pieces

-- "up to the length limit"
abbrev pub Fits : Scan → List ℕ → Type 0
Fits (Scan.Closed place) bytes = Unit {0}
Fits (Scan.Open taken state) bytes = taken + length bytes ≤ longest

-- ---- what the scans of `parser` say of the uncut bytes, as what is answered when so many bytes were fed

abbrev pub tag_fed : ℕ → TagFound → Fed
tag_fed taken f = answer_of taken (tag_course f)

abbrev pub marked_fed : Kind → ℕ → MarksFound → Fed
marked_fed kind taken f = answer_of taken (marked_course kind f)

abbrev pub first_fed : State → ℕ → FirstFound → Fed
first_fed state taken f = answer_of taken (first_course state f)

-- "`!`: the third byte chooses: `[` CDATA, `-` comment", any other is refused there
abbrev pub bang_fed : List ℕ → Fed
bang_fed bytes =
    pick (leb (length bytes) 2) (answer_of 2 (going State.Bang))
    (pick (eqb (get_or bytes 2 0) open_bracket) (marked_fed Kind.CData (length bytes) (cdata_found bytes 0))
    (pick (eqb (get_or bytes 2 0) hyphen) (marked_fed Kind.Comment (length bytes) (comment_found bytes 0)) (answer_of 2 (found 2))))

-- "Markup looks at the byte after `<`"
abbrev pub markup_fed : List ℕ → Fed
markup_fed bytes =
    pick (leb (length bytes) 1) (answer_of 1 (going State.Opened))
    (pick (eqb (get_or bytes 1 0) bang) (bang_fed bytes)
    (pick (eqb (get_or bytes 1 0) question) (marked_fed Kind.Pi (length bytes) (pi_found bytes 0)) (tag_fed (length bytes) (element_found bytes 0))))

-- "At `<` go to markup, at `&` to reference, with no event. Else" text
abbrev pub piece_fed : List ℕ → Fed
piece_fed bytes =
    pick (leb (length bytes) 0) (answer_of 0 (going State.Start))
    (pick (eqb (get_or bytes 0 0) lt) (markup_fed bytes)
    (pick (eqb (get_or bytes 0 0) amp) (first_fed State.Reference (length bytes) (reference_found bytes 0))
    (first_fed State.Text (length bytes) (text_found bytes 0))))

-- ---- what feeding leads to

-- some pieces, fed to a fresh scan, leave this one
pub record Reaches (scan : Scan) : Type 0 where
  pub what : What
  pub piece : List ℕ
  pub pieces : List (List ℕ)
  pub leaves : (fed_all (fresh what) piece pieces).scan ≡ scan
