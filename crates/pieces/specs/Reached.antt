-- Which scans feeding leads to, as a test. That it passes for just these is a theorem (proofs/Reaching).
use Rattle.std.specs.Prelude.{ℕ, ◌+◌, ◌-◌, Bool, true, false, eqb, leb, ltb}
use Rattle.ground.specs.Choose.{pick}
use Rattle.parser.specs.declared.element.ElementState.{ElementState}
use Rattle.parser.specs.declared.marks.Marks.{Marks}
use Rattle.state.specs.Limits.{longest}
use Rattle.pieces.specs.declared.scan.Kind.{Kind}
use Rattle.pieces.specs.declared.scan.State.{State}
use Rattle.pieces.specs.Kinds.{need_of, opener_of}

-- within a quote there is the quote
abbrev pub quotes_reached : ℕ → ElementState → Bool
quotes_reached taken ElementState.Outside = true
quotes_reached taken ElementState.SingleQ = ltb 0 taken
quotes_reached taken ElementState.DoubleQ = ltb 0 taken

-- behind the opener, no more marks than are needed, and they are there; within it no mark, and what is left of it is what has not come
abbrev pub marks_reached : ℕ → Kind → Marks → Bool
marks_reached taken kind marks =
    pick (eqb marks.left 0)
    (pick (leb marks.seen (need_of kind)) (leb (opener_of kind + marks.seen) taken) false)
    (pick (eqb marks.seen 0) (pick (leb marks.left (opener_of kind)) (eqb taken (opener_of kind - marks.left)) false) false)

-- as many bytes as the state needs, and no more than the longest document has
abbrev pub state_reached : ℕ → State → Bool
state_reached taken State.Start = eqb taken 0
state_reached taken State.Opened = eqb taken 1
state_reached taken State.Bang = eqb taken 2
state_reached taken (State.Tag quotes) = quotes_reached taken quotes
state_reached taken (State.Marked kind marks) = marks_reached taken kind marks
state_reached taken State.Reference = ltb 0 taken
state_reached taken State.Text = true

abbrev pub reached : ℕ → State → Bool
reached taken state = pick (leb taken longest) (state_reached taken state) false
