-- The scans of tags, processing instructions, comments, CDATA, references and text as one step machine, whose state says in which of them it is.
use Rattle.std.specs.Prelude.{ℕ, eqb}
use Rattle.ground.specs.Choose.{pick}
use Rattle.ground.specs.Bytes.{amp, bang, close_bracket, hyphen, lt, open_bracket, question}
use Rattle.parser.specs.Machine.{Next, go, halt, Scan as Course, found, going}
use Rattle.parser.specs.Element.{element_step}
use Rattle.parser.specs.First.{first_step, one_of, reference_ends, text_ends}
use Rattle.parser.specs.Marks.{marks_step, passing, seeing}
use Rattle.parser.specs.declared.element.ElementState.{ElementState}
use Rattle.parser.specs.declared.element.Found.{Found as TagFound}
use Rattle.parser.specs.declared.first.Found.{Found as FirstFound}
use Rattle.parser.specs.declared.marks.Found.{Found as MarksFound}
use Rattle.pieces.specs.declared.scan.Kind.{Kind}
use Rattle.pieces.specs.declared.scan.State.{State}

-- a comment ends "at offset 6 or more", so that the four bytes of `<!--` are no marks. The `?` of `<?` is one, and `<![CDATA[` has none
abbrev pub opener_of : Kind → ℕ
opener_of Kind.Pi = 0
opener_of Kind.Comment = 4
opener_of Kind.CData = 0

-- `?`, `--`, `]]`: the byte, and how many of them
abbrev pub mark_of : Kind → ℕ
mark_of Kind.Pi = question
mark_of Kind.Comment = hyphen
mark_of Kind.CData = close_bracket

abbrev pub need_of : Kind → ℕ
need_of Kind.Pi = 1
need_of Kind.Comment = 2
need_of Kind.CData = 2

-- what a byte does to a scan, in the state that names the scan too
module _ {S T : Type 0} where
  abbrev pub within : (S → T) → Next S → Next T
  within name (go s) = go (name s)
  within name halt = halt

-- The first byte tells what a piece is: "At `<` go to markup, at `&` to reference, with no event. Else" text. "Markup looks at the byte after `<`": `!`, `?`
-- (a mark already), or a tag. "`!`: the third byte chooses: `[` CDATA, `-` comment", of which one byte of the opener is left; any other is refused there, and stops the scan.
abbrev pub piece_step : State → ℕ → Next State
piece_step State.Start b = pick (eqb b lt) (go State.Opened) (pick (eqb b amp) (go State.Reference) (go State.Text))
piece_step State.Opened b =
    pick (eqb b bang) (go State.Bang)
    (pick (eqb b question) (go (State.Marked Kind.Pi (seeing 1))) (within State.Tag (element_step ElementState.Outside b)))
piece_step State.Bang b =
    pick (eqb b open_bracket) (go (State.Marked Kind.CData (seeing 0)))
    (pick (eqb b hyphen) (go (State.Marked Kind.Comment (passing 1))) halt)
piece_step (State.Tag quotes) b = within State.Tag (element_step quotes b)
piece_step (State.Marked kind marks) b = within (State.Marked kind) (marks_step (mark_of kind) (need_of kind) marks b)
piece_step State.Reference b = within (λ u. State.Reference) (first_step (one_of reference_ends) tt b)
piece_step State.Text b = within (λ u. State.Text) (first_step (one_of text_ends) tt b)

-- ---- what the scans of `parser` answer, as where this machine stands

abbrev pub tag_course : TagFound → Course State
tag_course (TagFound.At place) = found place
tag_course (TagFound.Open quotes) = going (State.Tag quotes)

abbrev pub marked_course : Kind → MarksFound → Course State
marked_course kind (MarksFound.At place) = found place
marked_course kind (MarksFound.Open marks) = going (State.Marked kind marks)

abbrev pub first_course : State → FirstFound → Course State
first_course state (FirstFound.At place) = found place
first_course state FirstFound.End = going state
