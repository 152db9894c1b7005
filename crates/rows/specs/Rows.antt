-- The record of an open name, how many records a list takes, and THE PROMISE of a list that is filled (document 02, "Which rows are open").
use Rattle.std.specs.Prelude.{ℕ, zero, suc, ◌+◌, ◌-◌, min, ◌≡◌, Bool, true, List, [], ◌∷◌, ◌++◌, length, drop, leb}
use Rattle.ground.specs.Choose.{pick, all_of}
use Rattle.state.specs.declared.place.Span.{Span}
use Rattle.state.specs.declared.place.Position.{Position}
use Rattle.state.specs.declared.place.Depth.{Depth}
use Rattle.state.specs.Limits.{capacity}
use Rattle.state.specs.Place.{at, depth_of}
use Rattle.reader.specs.Names.{entry}
use Rattle.rows.specs.declared.row.Row.{Row}
use Rattle.rows.specs.declared.row.Given.{Given}
use Rattle.rows.specs.declared.row.Filled.{Filled}
use Rattle.rows.specs.Answers.{count_of}

-- "each with its start, end and depth"
abbrev pub record_of : Span → ℕ → Row
record_of name depth = record { start = at name.from; end = at name.to; depth = depth_of depth }

-- the record of the name with d names around it: its "depth (from 1)" is one more
abbrev pub row_at : List ℕ → ℕ → Row
row_at stack d = record_of (entry stack d) (d + 1)

-- not: "depth is over capacity"
abbrev pub fits : List ℕ → Depth → Bool
fits stack names = leb names.0 (capacity (length stack))

module _ (stack : List ℕ) (position : Position) where
  -- an entry that is "start ≤ end ≤ position"
  abbrev pub in_order : ℕ → Bool
  in_order d = all_of (leb (entry stack d).from (entry stack d).to ∷ leb (entry stack d).to position.0 ∷ [])

  -- of the n outermost names
  unfoldable pub all_in_order : ℕ → Bool
  all_in_order zero = true
  all_in_order (suc n) = all_of (all_in_order n ∷ in_order n ∷ [])

  module _ (names : Depth) where
    -- "one record by its depth (17 for depth 0 or above the names open)"
    unfoldable pub row_of : Depth → Given
    row_of depth =
        pick (all_of (fits stack names ∷ leb 1 depth.0 ∷ leb depth.0 names.0 ∷ in_order (depth.0 - 1) ∷ []))
        (Given.Row (row_at stack (depth.0 - 1)))
        Given.BadState

    -- "answer how many were filled: the lesser of names open and room"; 17 by what stands above, of the entries that are read
    unfoldable pub plan_of : ℕ → Filled
    plan_of room = pick (all_of (fits stack names ∷ all_in_order (min names.0 room) ∷ [])) (Filled.Rows (min names.0 room)) Filled.BadState

-- the records of the n names from the one with d around it, "outermost name first"
unfoldable pub rows_from : List ℕ → ℕ → ℕ → List Row
rows_from stack d zero = []
rows_from stack d (suc n) = row_at stack d ∷ rows_from stack (d + 1) n

-- "records beyond stay as they were"; where nothing is filled, all do
unfoldable pub filled_with : List ℕ → ℕ → List Row → List Row
filled_with stack n list = rows_from stack 0 n ++ drop n list

-- THE PROMISE: how many were filled, or 17, and every record of the list
pub record Listed (stack : List ℕ) (position : Position) (names : Depth) (list : List Row) (answer : Filled) (list' : List Row) : Type 0 where
  pub said : answer ≡ plan_of stack position names (length list)
  pub rows : list' ≡ filled_with stack (count_of answer) list

-- ---- a list by value

-- a record that is none's
abbrev pub no_row : Row
no_row = record { start = at 0; end = at 0; depth = depth_of 0 }

abbrev pub no_rows : List Row
no_rows = no_row ∷ no_row ∷ no_row ∷ no_row ∷ no_row ∷ no_row ∷ no_row ∷ no_row ∷ []

-- a list of eight, filled
unfoldable pub outermost_of : List ℕ → Position → Depth → List Row
outermost_of stack position names = filled_with stack (count_of (plan_of stack position names 8)) no_rows
