-- THE PROMISE of the column reader that a host links: the number that is answered, and every slot of what was lent.
use Rattle.std.specs.Prelude.{ℕ, ◌≡◌, Bool, List, [], ◌∷◌, length, ltb}
use Rattle.ground.specs.Choose.{pick}
use Rattle.state.specs.declared.answer.Error.{Error}
use Rattle.state.specs.declared.answer.Values.{Values}
use Rattle.state.specs.Values.{numbered_of}
use Rattle.columns.specs.declared.order.Order.{Order}
use Rattle.columns.specs.Order.{order_of, lower_number}
use Rattle.columns.specs.Outcome.{values_of}
use Rattle.columns.specs.Column.{Reading, read_in, stack_left, filled_with}

-- 17, for what is lent
abbrev pub bad_number : ℕ
bad_number = (numbered_of Error.BadState).number

-- the count, the order and the refusal, and how many slots that are
unfoldable pub summary_numbers : ℕ → Order → Values → List ℕ
summary_numbers count order v =
    count
    ∷ lower_number order
    ∷ v.number
    ∷ v.place
    ∷ v.piece.from
    ∷ v.piece.to
    ∷ v.expected.from
    ∷ v.expected.to
    ∷ v.found.from
    ∷ v.found.to
    ∷ []

abbrev pub column_slots : ℕ
column_slots = 10

-- what is read, as these numbers
abbrev pub read_numbers : Reading → List ℕ
read_numbers r = summary_numbers (length r.times) (order_of r.times) (values_of r.outcome)

-- the answer has too few slots
abbrev pub no_room : List ℕ → Bool
no_room answer = ltb (length answer) column_slots

-- the column that the document's times fill; 17 where the answer has too few slots, and nothing is written then
pub record ColumnRead (doc stack column answer : List ℕ) (number : ℕ) (stack' column' answer' : List ℕ) : Type 0 where
  pub said : number ≡ pick (no_room answer) bad_number (values_of (read_in doc stack (length column)).outcome).number
  pub names : stack' ≡ pick (no_room answer) stack (stack_left doc stack (length column))
  pub times : column' ≡ pick (no_room answer) column (filled_with (read_in doc stack (length column)).times column)
  pub slots : answer' ≡ pick (no_room answer) answer (filled_with (read_numbers (read_in doc stack (length column))) answer)
