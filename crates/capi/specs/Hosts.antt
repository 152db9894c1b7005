-- A host's calls, one after the other: each on the stack and the state that the call before left, over one document.
use Rattle.std.specs.Prelude.{ℕ, zero, suc, ◌≤◌, ◌≡◌, Bool, List, [], ◌∷◌, map, length, get_or, take, eqb}
use Rattle.state.specs.declared.place.Span.{Span}
use Rattle.state.specs.declared.answer.Kind.{Kind}
use Rattle.state.specs.declared.answer.Answer.{Answer}
use Rattle.state.specs.declared.run.Reader.{Reader}
use Rattle.state.specs.Place.{span}
use Rattle.state.specs.Values.{kind_number, values_of, ends_run}
use Rattle.demands.specs.Run.{World}
use Rattle.capi.specs.declared.slots.Held.{Held}
use Rattle.capi.specs.Numbers.{values_numbers, answer_slots, held_of}
use Rattle.capi.specs.Calls.{Opened, Called}

-- what a call tells a host: the number that is answered, and what the answer's slots hold then
pub record Heard : Type 0 where
  pub number : ℕ
  pub slots : List ℕ

-- what a host has between two calls: its stack, its state, and what it was told so far, the latest first
pub record Host : Type 0 where
  pub stack : List ℕ
  pub state : List ℕ
  pub heard : List Heard

-- n calls of `sporebasket_read_event`, each with room for its answer, after one of `sporebasket_new` that answered 0; and what the host has after them
pub data HostCalls (doc stack : List ℕ) (settings : ℕ) : ℕ → Host → Type 0 where
  none : {lent state : List ℕ} → Opened doc settings lent 0 state → HostCalls doc stack settings zero (record { stack = stack; state = state; heard = [] })
  more : {n : ℕ} {h : Host} {answer : List ℕ} {number : ℕ} {stack' state' answer' : List ℕ} → HostCalls doc stack settings n h → answer_slots ≤ length answer
      → Called doc h.stack h.state answer number stack' state' answer'
      → HostCalls doc stack settings (suc n) (record { stack = stack'; state = state'; heard = record { number = number; slots = answer' } ∷ h.heard })

-- all the numbers of a call, as the host has them and as they are told of an answer: the one that is answered, and those that are written
abbrev pub numbers_heard : Heard → List ℕ
numbers_heard x = x.number ∷ take answer_slots x.slots

abbrev pub numbers_told : Answer → List ℕ
numbers_told a = (values_of a).number ∷ values_numbers (values_of a)

-- what a host goes by: the kind of an event in the answer's first slot, the number of a refusal, and how many names are open in the state's third slot
abbrev pub heard_kind : Kind → Heard → Bool
heard_kind kind x = eqb (get_or x.slots 0 0) (kind_number kind)

abbrev pub heard_number : ℕ → Heard → Bool
heard_number number x = eqb x.number number

-- "a refusal that ended the run (1 to 8, 13 to 15)"
abbrev pub heard_ending : Heard → Bool
heard_ending x = ends_run x.number

abbrev pub names_open : Host → ℕ
names_open h = get_or h.state 2 0

-- the piece of an answer in its fourth and fifth slot, and where the reader stands in the state's second slot
abbrev pub heard_piece : Heard → Span
heard_piece x = span (get_or x.slots 3 0) (get_or x.slots 4 0)

abbrev pub stands_at : Host → ℕ
stands_at h = get_or h.state 1 0

-- the slots of a state hold this reader
abbrev pub Holds : List ℕ → Reader → Type 0
Holds state r = held_of state ≡ Held.Reader r

-- a host stands where a run stands: the same stack, a state that holds its reader, and the numbers of its answers
pub record Follows (w : World) (h : Host) : Type 0 where
  pub stack : h.stack ≡ w.stack
  pub state : Holds h.state w.reader
  pub heard : map numbers_heard h.heard ≡ map numbers_told w.answers
