-- Worked examples: one record by its depth, and a list that is filled.
use Rattle.std.specs.Prelude.{ℕ, List, [], ◌∷◌, length, replicate}
use Rattle.state.specs.Place.{at, depth_of, span}
use Rattle.rows.specs.declared.row.Row.{Row}
use Rattle.rows.specs.declared.row.Given.{Given}
use Rattle.rows.specs.declared.row.Filled.{Filled}
use Rattle.rows.specs.Answers.{count_of}
use Rattle.rows.specs.Rows.{record_of, row_of, plan_of, filled_with}

abbrev pub row : ℕ → ℕ → ℕ → Row
row start end depth = record_of (span start end) depth

-- ---- one record

pub record One : Type 0 where
  pub stack : List ℕ
  pub position : ℕ
  pub names : ℕ
  pub depth : ℕ
  pub answer : Given

abbrev pub one : List ℕ → ℕ → ℕ → ℕ → Given → One
one stack position names depth answer = record { stack = stack; position = position; names = names; depth = depth; answer = answer }

-- by the definition, and by the table
abbrev pub given_by : One → Given
given_by x = row_of x.stack (at x.position) (depth_of x.names) (depth_of x.depth)

abbrev pub given_in : One → Given
given_in x = x.answer

-- three names: 1..2, 4..6 and 8..11
abbrev pub three : List ℕ
three = 1 ∷ 2 ∷ 4 ∷ 6 ∷ 8 ∷ 11 ∷ []

unfoldable pub ones : List One
ones =
    -- each of three
    one three 20 3 1 (Given.Row (row 1 2 1))
    ∷ one three 20 3 2 (Given.Row (row 4 6 2))
    ∷ one three 20 3 3 (Given.Row (row 8 11 3))
    -- depth 0, and above the names open
    ∷ one three 20 3 0 Given.BadState
    ∷ one three 20 3 4 Given.BadState
    ∷ one three 20 2 3 Given.BadState
    ∷ one three 20 0 1 Given.BadState
    ∷ one [] 0 0 0 Given.BadState
    -- more names than the stack has room for
    ∷ one three 20 4 1 Given.BadState
    -- the third ends at the position, and behind it; the second is not asked for the third
    ∷ one three 11 3 3 (Given.Row (row 8 11 3))
    ∷ one three 10 3 3 Given.BadState
    ∷ one three 10 3 2 (Given.Row (row 4 6 2))
    -- an empty name, and one that ends before it starts
    ∷ one (5 ∷ 5 ∷ []) 5 1 1 (Given.Row (row 5 5 1))
    ∷ one (5 ∷ 4 ∷ []) 9 1 1 Given.BadState
    -- a slot that is no name's
    ∷ one (1 ∷ 2 ∷ 7 ∷ []) 3 1 1 (Given.Row (row 1 2 1))
    ∷ one (1 ∷ 2 ∷ 7 ∷ []) 3 2 2 Given.BadState
    ∷ []

-- ---- a list

pub record Example : Type 0 where
  pub stack : List ℕ
  pub position : ℕ
  pub names : ℕ
  pub list : List Row
  pub answer : Filled
  pub left : List Row

abbrev pub example : List ℕ → ℕ → ℕ → List Row → Filled → List Row → Example
example stack position names list answer left = record { stack = stack; position = position; names = names; list = list; answer = answer; left = left }

pub record Outcome : Type 0 where
  pub answer : Filled
  pub left : List Row

abbrev pub filled_by : Example → Outcome
filled_by x =
    record {
      answer = plan_of x.stack (at x.position) (depth_of x.names) (length x.list);
      left = filled_with x.stack (count_of (plan_of x.stack (at x.position) (depth_of x.names) (length x.list))) x.list;
    }

abbrev pub filled_in : Example → Outcome
filled_in x = record { answer = x.answer; left = x.left }

-- so many records that say nothing
abbrev pub blanks : ℕ → List Row
blanks n = replicate n (row 99 99 99)

unfoldable pub lists : List Example
lists =
    -- room for one record more, for all, for two, for none
    example three 20 3 (blanks 4) (Filled.Rows 3) (row 1 2 1 ∷ row 4 6 2 ∷ row 8 11 3 ∷ blanks 1)
    ∷ example three 20 3 (blanks 3) (Filled.Rows 3) (row 1 2 1 ∷ row 4 6 2 ∷ row 8 11 3 ∷ [])
    ∷ example three 20 3 (blanks 2) (Filled.Rows 2) (row 1 2 1 ∷ row 4 6 2 ∷ [])
    ∷ example three 20 3 [] (Filled.Rows 0) []
    -- two names, and none
    ∷ example three 20 2 (blanks 3) (Filled.Rows 2) (row 1 2 1 ∷ row 4 6 2 ∷ blanks 1)
    ∷ example three 20 0 (blanks 2) (Filled.Rows 0) (blanks 2)
    ∷ example [] 0 0 (blanks 1) (Filled.Rows 0) (blanks 1)
    -- the third is behind the position: read with room for three, and not with room for two
    ∷ example three 10 3 (blanks 3) Filled.BadState (blanks 3)
    ∷ example three 10 3 (blanks 2) (Filled.Rows 2) (row 1 2 1 ∷ row 4 6 2 ∷ [])
    -- the second ends before it starts
    ∷ example (1 ∷ 2 ∷ 6 ∷ 4 ∷ []) 20 2 (blanks 2) Filled.BadState (blanks 2)
    ∷ example (1 ∷ 2 ∷ 6 ∷ 4 ∷ []) 20 2 (blanks 1) (Filled.Rows 1) (row 1 2 1 ∷ [])
    -- more names than the stack has room for, with room for none too
    ∷ example three 20 4 (blanks 4) Filled.BadState (blanks 4)
    ∷ example three 20 4 [] Filled.BadState []
    ∷ []
