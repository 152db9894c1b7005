-- The number of each answer, and how many records it says are filled.
use Rattle.std.specs.Prelude.{ℕ}
use Rattle.state.specs.declared.answer.Error.{Error}
use Rattle.state.specs.Values.{numbered_of}
use Rattle.rows.specs.declared.row.Given.{Given}
use Rattle.rows.specs.declared.row.Filled.{Filled}

-- 17, "bad state"
abbrev pub bad_number : ℕ
bad_number = (numbered_of Error.BadState).number

abbrev pub given_number : Given → ℕ
given_number (Given.Row row) = 0
given_number Given.BadState = bad_number

abbrev pub filled_number : Filled → ℕ
filled_number (Filled.Rows n) = 0
filled_number Filled.BadState = bad_number

abbrev pub count_of : Filled → ℕ
count_of (Filled.Rows n) = n
count_of Filled.BadState = 0
