-- The column that the answers of a run tell, and THE PROMISE of `column` (document 02).
use Rattle.std.specs.Prelude.{ℕ, suc, ◌+◌, ◌≡◌, Bool, true, List, [], ◌∷◌, ◌++◌, length, drop, ltb}
use Rattle.ground.specs.Choose.{pick}
use Rattle.state.specs.declared.answer.Answer.{Answer}
use Rattle.state.specs.declared.run.Made.{Made}
use Rattle.state.specs.Make.{made}
use Rattle.state.specs.Settings.{defaults}
use Rattle.demands.specs.Run.{World, said, run}
use Rattle.demands.specs.Answers.{is_eof, one_is}
use Rattle.demands.specs.Open.{left_open}
use Rattle.columns.specs.declared.Summary.{Summary}
use Rattle.columns.specs.declared.outcome.Outcome.{Outcome}
use Rattle.columns.specs.declared.told.Told.{Told}
use Rattle.columns.specs.Order.{order_of}
use Rattle.columns.specs.Outcome.{is_refused}
use Rattle.columns.specs.Told.{tells}

-- what is read: the times, in the order of their answers, and what refused the rest
pub record Reading : Type 0 where
  pub times : List ℕ
  pub outcome : Outcome

abbrev pub reading : List ℕ → Outcome → Reading
reading times outcome = record { times = times; outcome = outcome }

-- in a column of so many slots: a time stands behind those before it, "31 when the column is full and one more time stands there"
abbrev pub onward : ℕ → Reading → Told → Reading
onward room r Told.Nothing = r
onward room r (Told.Time value piece) =
    pick (ltb (length r.times) room) (reading (r.times ++ (value ∷ [])) r.outcome) (reading r.times (Outcome.ColumnFull piece))
onward room r (Told.Refused outcome) = reading r.times outcome

-- what the next call tells
abbrev pub told_in : List ℕ → World → Told
told_in doc w = tells doc (left_open (said doc w ∷ w.answers)) (said doc w)

module _ (doc : List ℕ) (room : ℕ) where
  -- what answers tell, of which the latest stands first: the first refusal from the left ends the reading
  unfoldable pub read_of : List Answer → Reading
  read_of [] = reading [] Outcome.Whole
  read_of (a ∷ before) =
      pick (is_refused (read_of before).outcome) (read_of before) (onward room (read_of before) (tells doc (left_open (a ∷ before)) a))

  -- nothing is read after a refusal, or after Eof
  abbrev pub is_over : List Answer → Bool
  is_over answers = pick (is_refused (read_of answers).outcome) true (one_is is_eof answers)

  -- how many calls are made: up to the one with which it is over
  unfoldable pub calls_of : List Answer → ℕ
  calls_of [] = 0
  calls_of (a ∷ before) = pick (is_over before) (calls_of before) (suc (calls_of before))

-- the answers of a run, to its end
abbrev pub answers_of : List ℕ → List ℕ → List Answer
answers_of doc stack = (run doc stack defaults (length doc + 2)).answers

module _ (doc stack : List ℕ) (room : ℕ) where
  abbrev pub read_as : Made → Reading
  read_as (Made.Fresh r) = read_of doc room (answers_of doc stack)
  read_as (Made.Refused x) = reading [] (Outcome.ReaderRefused x)

  abbrev pub left_as : Made → List ℕ
  left_as (Made.Fresh r) = (run doc stack defaults (calls_of doc room (answers_of doc stack))).stack
  left_as (Made.Refused x) = stack

  -- what is read of a document; 16 where it is too long
  unfoldable pub read_in : Reading
  read_in = read_as (made (length doc) defaults)

  -- the stack, as the calls of the reader leave it
  unfoldable pub stack_left : List ℕ
  stack_left = left_as (made (length doc) defaults)

-- a column whose first slots are times: "later slots are unchanged"
abbrev pub filled_with : List ℕ → List ℕ → List ℕ
filled_with times column = times ++ drop (length times) column

-- THE PROMISE: the count, the refusal, the order, every slot of the column and every slot of the stack
pub record Columned (doc stack column : List ℕ) (answer : Summary) (stack' column' : List ℕ) : Type 0 where
  pub count : answer.count ≡ length (read_in doc stack (length column)).times
  pub refusal : answer.outcome ≡ (read_in doc stack (length column)).outcome
  pub order : answer.order ≡ order_of (read_in doc stack (length column)).times
  pub slots : column' ≡ filled_with (read_in doc stack (length column)).times column
  pub names : stack' ≡ stack_left doc stack (length column)
