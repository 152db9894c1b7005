-- A scan as numbers, and the scan that slots hold.
use Rattle.std.specs.Prelude.{ℕ, List, [], ◌∷◌, length, get_or, eqb, ltb}
use Rattle.ground.specs.Choose.{pick}
use Rattle.parser.specs.declared.element.ElementState.{ElementState}
use Rattle.parser.specs.declared.marks.Marks.{Marks}
use Rattle.parser.specs.Marks.{seeing}
use Rattle.pieces.specs.declared.scan.Kind.{Kind}
use Rattle.pieces.specs.declared.scan.What.{What}
use Rattle.pieces.specs.declared.scan.State.{State}
use Rattle.pieces.specs.declared.scan.Scan.{Scan}
use Rattle.pieces.specs.Fed.{fresh}
use Rattle.capi_pieces.specs.declared.slots.Held.{Held}

abbrev pub scan_slots : ℕ
scan_slots = 4

-- ---- numbers of a scan

abbrev pub quotes_number : ElementState → ℕ
quotes_number ElementState.Outside = 4
quotes_number ElementState.SingleQ = 5
quotes_number ElementState.DoubleQ = 6

abbrev pub kind_number : Kind → ℕ
kind_number Kind.Pi = 7
kind_number Kind.Comment = 8
kind_number Kind.CData = 9

abbrev pub state_number : State → ℕ
state_number State.Start = 1
state_number State.Opened = 2
state_number State.Bang = 3
state_number (State.Tag quotes) = quotes_number quotes
state_number (State.Marked kind marks) = kind_number kind
state_number State.Reference = 10
state_number State.Text = 11

-- none where the state has none
abbrev pub marks_in : State → Marks
marks_in State.Start = seeing 0
marks_in State.Opened = seeing 0
marks_in State.Bang = seeing 0
marks_in (State.Tag quotes) = seeing 0
marks_in (State.Marked kind marks) = marks
marks_in State.Reference = seeing 0
marks_in State.Text = seeing 0

-- the state's number, 0 where the place was found; the count of bytes, or the place; what is left of the opener; the marks
abbrev pub numbers : ℕ → ℕ → Marks → List ℕ
numbers state count marks = state ∷ count ∷ marks.left ∷ marks.seen ∷ []

abbrev pub numbers_of : Scan → List ℕ
numbers_of (Scan.Closed place) = numbers 0 place (seeing 0)
numbers_of (Scan.Open taken state) = numbers (state_number state) taken (marks_in state)

-- ---- the scan with these numbers, if there is one (`proofs/Held`: there is one just where they are a scan's)

abbrev pub still_open : ℕ → State → Held
still_open taken state = Held.Scan (Scan.Open taken state)

-- without marks
unfoldable pub plain_of : ℕ → ℕ → Held
plain_of state count =
    pick (eqb state 0) (Held.Scan (Scan.Closed count))
    (pick (eqb state 1) (still_open count State.Start)
    (pick (eqb state 2) (still_open count State.Opened)
    (pick (eqb state 3) (still_open count State.Bang)
    (pick (eqb state 4) (still_open count (State.Tag ElementState.Outside))
    (pick (eqb state 5) (still_open count (State.Tag ElementState.SingleQ))
    (pick (eqb state 6) (still_open count (State.Tag ElementState.DoubleQ))
    (pick (eqb state 10) (still_open count State.Reference)
    (pick (eqb state 11) (still_open count State.Text) Held.Nothing))))))))

unfoldable pub scan_of : ℕ → ℕ → Marks → Held
scan_of state count marks =
    pick (eqb state 7) (still_open count (State.Marked Kind.Pi marks))
    (pick (eqb state 8) (still_open count (State.Marked Kind.Comment marks))
    (pick (eqb state 9) (still_open count (State.Marked Kind.CData marks))
    (pick (eqb marks.left 0) (pick (eqb marks.seen 0) (plain_of state count) Held.Nothing) Held.Nothing)))

-- the scan whose numbers the slots begin with
unfoldable pub held_of : List ℕ → Held
held_of slots =
    pick (ltb (length slots) scan_slots) Held.Nothing
    (scan_of (get_or slots 0 0) (get_or slots 1 0) (record { left = get_or slots 2 0; seen = get_or slots 3 0 }))

-- ---- a fresh scan of what has this number

unfoldable pub begun_of : ℕ → Held
begun_of state =
    pick (eqb state 1) (Held.Scan (fresh What.Piece))
    (pick (eqb state 4) (Held.Scan (fresh What.Tag))
    (pick (eqb state 7) (Held.Scan (fresh (What.Marked Kind.Pi)))
    (pick (eqb state 8) (Held.Scan (fresh (What.Marked Kind.Comment)))
    (pick (eqb state 9) (Held.Scan (fresh (What.Marked Kind.CData)))
    (pick (eqb state 11) (Held.Scan (fresh What.Text)) Held.Nothing)))))
