-- THE PROMISE of the rows that a host links: the number that is answered, and every slot that was lent.
use Rattle.std.specs.Prelude.{ℕ, ◌+◌, ◌*◌, ◌/◌, ◌≡◌, Bool, List, [], ◌∷◌, ◌++◌, length, get_or, take, drop, ltb}
use Rattle.ground.specs.Choose.{pick}
use Rattle.state.specs.declared.place.Position.{Position}
use Rattle.state.specs.declared.place.Depth.{Depth}
use Rattle.state.specs.Place.{at, depth_of}
use Rattle.rows.specs.declared.row.Row.{Row}
use Rattle.rows.specs.declared.row.Given.{Given}
use Rattle.rows.specs.declared.row.Filled.{Filled}
use Rattle.rows.specs.Answers.{bad_number, given_number, filled_number, count_of}
use Rattle.rows.specs.Rows.{row_of, plan_of, rows_from}

-- ---- slots

-- a reader's state, a row, and the answer of a list take so many
abbrev pub state_slots : ℕ
state_slots = 6

abbrev pub row_slots : ℕ
row_slots = 3

abbrev pub filled_slots : ℕ
filled_slots = 1

-- a reader's position and how many names are open
abbrev pub position_in : List ℕ → Position
position_in state = at (get_or state 1 0)

abbrev pub names_in : List ℕ → Depth
names_in state = depth_of (get_or state 2 0)

abbrev pub row_numbers : Row → List ℕ
row_numbers row = row.start.0 ∷ row.end.0 ∷ row.depth.0 ∷ []

-- a row written from a slot on
abbrev pub row_put : List ℕ → ℕ → Row → List ℕ
row_put slots from row = take from slots ++ row_numbers row ++ drop (from + row_slots) slots

unfoldable pub numbers_of : List Row → List ℕ
numbers_of [] = []
numbers_of (row ∷ rows) = row_numbers row ++ numbers_of rows

-- the first n rows are filled, and the other slots stay
unfoldable pub filled_with : List ℕ → ℕ → List ℕ → List ℕ
filled_with stack n slots = numbers_of (rows_from stack 0 n) ++ drop (n * row_slots) slots

-- as many rows have room as have all their slots
pub record Filling (stack : List ℕ) (position : Position) (names : Depth) (slots : List ℕ) (answer : Filled) (slots' : List ℕ) : Type 0 where
  pub said : answer ≡ plan_of stack position names (length slots / row_slots)
  pub rows : slots' ≡ filled_with stack (count_of answer) slots

-- ---- one row

-- 17 where there are too few slots for a row or for a reader's state
unfoldable pub row_in : List ℕ → List ℕ → ℕ → List ℕ → Given
row_in stack state depth slots =
    pick (ltb (length slots) row_slots)
    Given.BadState
    (pick (ltb (length state) state_slots) Given.BadState (row_of stack (position_in state) (names_in state) (depth_of depth)))

-- "17 .. and change no record"
abbrev pub row_left : List ℕ → Given → List ℕ
row_left slots (Given.Row row) = row_put slots 0 row
row_left slots Given.BadState = slots

-- 0 and the row, or 17
pub record RowTold (stack state : List ℕ) (depth : ℕ) (slots : List ℕ) (number : ℕ) (slots' : List ℕ) : Type 0 where
  pub said : number ≡ given_number (row_in stack state depth slots)
  pub row : slots' ≡ row_left slots (row_in stack state depth slots)

-- ---- a list of rows

-- 17 where there are too few slots for a reader's state
unfoldable pub filled_in : List ℕ → List ℕ → ℕ → Filled
filled_in stack state room = pick (ltb (length state) state_slots) Filled.BadState (plan_of stack (position_in state) (names_in state) room)

-- the answer has too few slots
abbrev pub no_room : List ℕ → Bool
no_room answer = ltb (length answer) filled_slots

-- 0 or 17, the rows, and how many were filled; 17 too where the answer has too few slots, and nothing is written then
pub record RowsTold (stack state slots answer : List ℕ) (number : ℕ) (slots' answer' : List ℕ) : Type 0 where
  pub said : number ≡ pick (no_room answer) bad_number (filled_number (filled_in stack state (length slots / row_slots)))
  pub rows : slots' ≡ pick (no_room answer) slots (filled_with stack (count_of (filled_in stack state (length slots / row_slots))) slots)
  pub count : answer' ≡ pick (no_room answer) answer (count_of (filled_in stack state (length slots / row_slots)) ∷ drop filled_slots answer)
