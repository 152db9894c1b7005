-- What a host is told of the names that are open: by the answers so far, of which it heard every number (`Follows` of capi, specs/Hosts).
use Rattle.std.specs.Prelude.{ℕ, ◌*◌, ◌/◌, min, ◌≡◌, List, ◌∷◌, ◌++◌, length, get_or, take, drop}
use Rattle.state.specs.declared.answer.Answer.{Answer}
use Rattle.demands.specs.Open.{left_open}
use Rattle.rows.specs.declared.row.Row.{Row}
use Rattle.rows.specs.Words.{way_down}
use Rattle.capi_rows.specs.Rows.{row_slots, filled_slots, row_put, numbers_of}

-- how many rows are filled: the lesser of the names that the answers leave open and the rows that have room
abbrev pub filled_for : List Answer → List ℕ → ℕ
filled_for answers slots = min (length (left_open answers)) (length slots / row_slots)

-- 0, the way down in the first rows, three slots to each, the other slots as they were, and how many rows were filled
pub record WayTold (answers : List Answer) (slots answer : List ℕ) (number : ℕ) (slots' answer' : List ℕ) : Type 0 where
  pub said : number ≡ 0
  pub rows : slots' ≡ numbers_of (take (length slots / row_slots) (way_down answers)) ++ drop (filled_for answers slots * row_slots) slots
  pub count : answer' ≡ filled_for answers slots ∷ drop filled_slots answer

-- 0, and the row of the way down with so many before it; the other slots as they were
pub record StepTold (answers : List Answer) (before : ℕ) (slots : List ℕ) (number : ℕ) (slots' : List ℕ) : Type 0 where
  pub said : number ≡ 0
  pub row : (any : Row) → slots' ≡ row_put slots 0 (get_or (way_down answers) before any)
