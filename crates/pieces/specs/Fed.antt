-- What a call that feeds a scan answers (document 02, "Input in pieces").
use Rattle.std.specs.Prelude.{ℕ, ◌+◌, List, length, ltb}
use Rattle.ground.specs.Choose.{pick}
use Rattle.parser.specs.Machine.{Scan as Course, found, going, feed}
use Rattle.parser.specs.Marks.{passing}
use Rattle.parser.specs.declared.element.ElementState.{ElementState}
use Rattle.state.specs.Limits.{longest}
use Rattle.state.specs.Values.{numbered_of}
use Rattle.state.specs.declared.answer.Error.{Error}
use Rattle.pieces.specs.declared.scan.What.{What}
use Rattle.pieces.specs.declared.scan.State.{State}
use Rattle.pieces.specs.declared.scan.Scan.{Scan}
use Rattle.pieces.specs.declared.scan.Told.{Told}
use Rattle.pieces.specs.declared.scan.Fed.{Fed}
use Rattle.pieces.specs.Kinds.{opener_of, piece_step}
use Rattle.pieces.specs.Reached.{reached}

-- nothing was fed: a piece begins at its first byte, a tag outside quotes, a comment with its whole opener yet to pass
abbrev pub begins : What → State
begins What.Piece = State.Start
begins What.Tag = State.Tag ElementState.Outside
begins (What.Marked kind) = State.Marked kind (passing (opener_of kind))
begins What.Text = State.Text

abbrev pub fresh : What → Scan
fresh what = Scan.Open 0 (begins what)

-- the machine's course after so many bytes, as a scan and as what is told
abbrev pub scan_of : ℕ → Course State → Scan
scan_of taken (found place) = Scan.Closed place
scan_of taken (going state) = Scan.Open taken state

abbrev pub told_of : Course State → Told
told_of (found place) = Told.At place
told_of (going state) = Told.Open

abbrev pub answer_of : ℕ → Course State → Fed
answer_of taken course = record { scan = scan_of taken course; told = told_of course }

-- bytes of which the first stands at `taken`
unfoldable pub fed_on : ℕ → State → List ℕ → Fed
fed_on taken state piece = answer_of (taken + length piece) (feed piece_step (going state) taken piece)

-- "state unchanged"
abbrev pub refused : Scan → Error → Fed
refused scan error = record { scan = scan; told = Told.Refused error }

-- THE DEFINITION. 17 for a scan that no feeding leads to; "after the closer, pieces of any length change nothing and get the same answer"; "a piece that would
-- pass" the length limit "is 16"; else the machine goes on.
unfoldable pub fed : Scan → List ℕ → Fed
fed (Scan.Closed place) piece =
    pick (ltb place longest)
    (record { scan = Scan.Closed place; told = Told.At place })
    (refused (Scan.Closed place) Error.BadState)
fed (Scan.Open taken state) piece =
    pick (reached taken state)
    (pick (ltb longest (taken + length piece))
    (refused (Scan.Open taken state) Error.SliceTooLong)
    (fed_on taken state piece))
    (refused (Scan.Open taken state) Error.BadState)

-- the number of the refusal, or 0
abbrev pub told_number : Told → ℕ
told_number (Told.At place) = 0
told_number Told.Open = 0
told_number (Told.Refused error) = (numbered_of error).number
