-- What the theorems on times and columns say, in words.
use Rattle.std.specs.Prelude.{ℕ, suc, ◌+◌, ◌-◌, ◌≤◌, ◌<◌, ◌≡◌, ◌⊎◌, true, false, List, [], ◌∷◌, ◌++◌, length}
use Rattle.state.specs.declared.place.Span.{Span}
use Rattle.state.specs.declared.answer.Kind.{Kind}
use Rattle.state.specs.declared.answer.Answer.{Answer}
use Rattle.state.specs.Settings.{defaults}
use Rattle.state.specs.Values.{kind_number, values_of}
use Rattle.reader.specs.Names.{bytes}
use Rattle.demands.specs.Run.{said, run}
use Rattle.demands.specs.Answers.{is_eof}
use Rattle.demands.specs.Open.{left_open}
use Rattle.columns.specs.declared.told.Told.{Told}
use Rattle.columns.specs.declared.outcome.Outcome.{Outcome}
use Rattle.columns.specs.Time.{hours, minutes, is_time, value, cleared}
use Rattle.columns.specs.Outcome.{is_refused}
use Rattle.columns.specs.Told.{within, tells}
use Rattle.columns.specs.Order.{time}
use Rattle.columns.specs.Column.{Reading, told_in, calls_of, answers_of}

-- ---- times

-- one time comes before another: by its hours, and in the same hour by its minutes
abbrev pub Before : List ℕ → List ℕ → Type 0
Before a b = (hours a < hours b) ⊎ ((hours a ≡ hours b) × (minutes a < minutes b))

-- ---- their order

-- the time with the index i is lower than the one before it
abbrev pub Lower : List ℕ → ℕ → Type 0
Lower ts i = (1 ≤ i) × (i < length ts) × (time ts i < time ts (i - 1))

-- ---- what an answer tells

-- what a text gives: none, one value, or the refusal
pub data Gave (text : List ℕ) (piece : Span) (t : Told) : Type 0 where
  none : cleared text ≡ [] → t ≡ Told.Nothing → Gave text piece t
  one : is_time (cleared text) ≡ true → t ≡ Told.Time (value (cleared text)) piece → Gave text piece t
  refuses : (cleared text ≡ [] → ⊥) → is_time (cleared text) ≡ false → t ≡ Told.Refused (Outcome.BadTime piece) → Gave text piece t

-- an answer that tells a time: a Text within `t`, and what the time is
pub record Timed (doc : List ℕ) (names : List Span) (a : Answer) (v : ℕ) (piece : Span) : Type 0 where
  pub text : (values_of a).kind ≡ kind_number Kind.Text
  pub inside : within doc names ≡ true
  pub is : is_time (cleared (bytes doc (values_of a).content)) ≡ true
  pub worth : v ≡ value (cleared (bytes doc (values_of a).content))
  pub place : piece ≡ (values_of a).piece

-- ---- what is read

-- the times that answers tell, in their order, whatever the column holds
abbrev pub time_in : Told → List ℕ
time_in Told.Nothing = []
time_in (Told.Time value piece) = value ∷ []
time_in (Told.Refused outcome) = []

unfoldable pub times_told : List ℕ → List Answer → List ℕ
times_told doc [] = []
times_told doc (a ∷ before) = times_told doc before ++ time_in (tells doc (left_open (a ∷ before)) a)

-- an answer stops a reading of these times: it refuses, or tells one more time than there is room for
abbrev pub Stops : ℕ → List ℕ → Told → Outcome → Type 0
Stops room times Told.Nothing outcome = ⊥
Stops room times (Told.Time value piece) outcome = (length times ≡ room) × (outcome ≡ Outcome.ColumnFull piece)
Stops room times (Told.Refused why) outcome = (is_refused why ≡ true) × (outcome ≡ why)

-- the reading comes to its end: call n + 1 answers Eof, within the bound, and no call stops it
pub record EndedBy (doc stack : List ℕ) (room n : ℕ) : Type 0 where
  pub eof : is_eof (said doc (run doc stack defaults n)) ≡ true
  pub in_time : n < length doc + 2
  pub unstopped : (k : ℕ) (outcome : Outcome) → k < length doc + 2 → Stops room (times_told doc (run doc stack defaults k).answers) (told_in doc (run doc stack defaults k)) outcome → ⊥
  pub calls : calls_of doc room (answers_of doc stack) ≡ suc n

-- "the first from the left": call n + 1 stops the reading, and none before it does
pub record StoppedBy (doc stack : List ℕ) (room : ℕ) (r : Reading) (n : ℕ) : Type 0 where
  pub times : r.times ≡ times_told doc (run doc stack defaults n).answers
  pub stops : Stops room r.times (told_in doc (run doc stack defaults n)) r.outcome
  pub before : (k : ℕ) (outcome : Outcome) → k < n → Stops room (times_told doc (run doc stack defaults k).answers) (told_in doc (run doc stack defaults k)) outcome → ⊥
  pub calls : calls_of doc room (answers_of doc stack) ≡ suc n
