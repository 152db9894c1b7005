-- What the routines inside this crate promise those that call them. No promise of another crate names what stands here.
use Rattle.std.specs.Prelude.{ℕ, ◌+◌, ◌≡◌, List, length, set, ltb}
use Rattle.ground.specs.Choose.{pick}
use Rattle.state.specs.Settings.{defaults}
use Rattle.demands.specs.Run.{run}
use Rattle.columns.specs.declared.outcome.Outcome.{Outcome}
use Rattle.columns.specs.declared.told.Told.{Told}
use Rattle.columns.specs.declared.told.Filled.{Filled}
use Rattle.columns.specs.Column.{read_of, calls_of, answers_of, filled_with}

-- what one answer does to a column with `count` times
abbrev pub filled_by : ℕ → ℕ → Told → Filled
filled_by room count Told.Nothing = record { count = count; outcome = Outcome.Whole }
filled_by room count (Told.Time value piece) =
    pick (ltb count room) (record { count = count + 1; outcome = Outcome.Whole }) (record { count = count; outcome = Outcome.ColumnFull piece })
filled_by room count (Told.Refused outcome) = record { count = count; outcome = outcome }

abbrev pub slots_by : List ℕ → ℕ → Told → List ℕ
slots_by column count Told.Nothing = column
slots_by column count (Told.Time value piece) = set column count value
slots_by column count (Told.Refused outcome) = column

-- a document within the limit, read to its end or to a refusal
pub record ReadTo (doc stack column : List ℕ) (filled : Filled) (stack' column' : List ℕ) : Type 0 where
  pub count : filled.count ≡ length (read_of doc (length column) (answers_of doc stack)).times
  pub refusal : filled.outcome ≡ (read_of doc (length column) (answers_of doc stack)).outcome
  pub slots : column' ≡ filled_with (read_of doc (length column) (answers_of doc stack)).times column
  pub names : stack' ≡ (run doc stack defaults (calls_of doc (length column) (answers_of doc stack))).stack
