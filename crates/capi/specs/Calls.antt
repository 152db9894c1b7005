-- THE PROMISES of the functions that a host links: the number that is answered, and every slot of what was lent.
use Rattle.std.specs.Prelude.{ℕ, ◌≡◌, List, length, ltb}
use Rattle.ground.specs.Choose.{pick}
use Rattle.state.specs.declared.answer.Answer.{Answer}
use Rattle.state.specs.declared.run.Made.{Made}
use Rattle.state.specs.Make.{made, bad_answer}
use Rattle.state.specs.Place.{span}
use Rattle.state.specs.Values.{numbered_of, values_of}
use Rattle.reader.specs.Names.{written}
use Rattle.reader.specs.Step.{step}
use Rattle.capi.specs.declared.slots.Held.{Held}
use Rattle.capi.specs.Numbers.{config_of, state_numbers, state_slots, mark_slot, values_numbers, answer_slots, held_of}
use Rattle.capi.specs.Slots.{put, placed, part_numbers, part_slots}

-- 17, "bad state"
abbrev pub bad_number : ℕ
bad_number = (values_of bad_answer).number

-- ---- making a reader

abbrev pub made_number : Made → ℕ
made_number (Made.Fresh r) = 0
made_number (Made.Refused x) = (numbered_of x.error).number

abbrev pub made_state : List ℕ → Made → List ℕ
made_state state (Made.Fresh r) = put state (state_numbers 0 r)
made_state state (Made.Refused x) = state

-- a fresh reader in the state; 17 where it has too few slots, 16 where the document is too long
pub record Opened (doc : List ℕ) (settings : ℕ) (state : List ℕ) (number : ℕ) (after : List ℕ) : Type 0 where
  pub said : number ≡ pick (ltb (length state) state_slots) bad_number (made_number (made (length doc) (config_of settings)))
  pub slots : after ≡ made_state state (made (length doc) (config_of settings))

-- ---- reading on

-- the reader that the call moves on: the state's, where there is room for the answer
unfoldable pub lent_to : List ℕ → List ℕ → Held
lent_to state answer = pick (ltb (length answer) answer_slots) Held.Nothing (held_of state)

module _ (doc stack : List ℕ) where
  -- what is answered, and what the slots hold then
  abbrev pub answer_to : Held → Answer
  answer_to (Held.Reader r) = (step doc stack r).answer
  answer_to Held.Nothing = bad_answer

  abbrev pub stack_to : Held → List ℕ
  stack_to (Held.Reader r) = written stack r.depth.0 (step doc stack r).answer
  stack_to Held.Nothing = stack

  abbrev pub state_to : List ℕ → Held → List ℕ
  state_to state (Held.Reader r) = put state (state_numbers (mark_slot state) (step doc stack r).reader)
  state_to state Held.Nothing = state

-- the next answer; 17 where the state is no reader's, which is left alone then, or where the answer has too few slots, and nothing is written then
pub record Called (doc stack state answer : List ℕ) (number : ℕ) (stack' state' answer' : List ℕ) : Type 0 where
  pub said : number ≡ (values_of (answer_to doc stack (lent_to state answer))).number
  pub names : stack' ≡ stack_to doc stack (lent_to state answer)
  pub reader : state' ≡ state_to doc stack state (lent_to state answer)
  pub slots : answer' ≡ put answer (values_numbers (values_of (answer_to doc stack (lent_to state answer))))

-- ---- the content

-- where a span's bytes stand; 17 where the part has too few slots
pub record Parted (doc : List ℕ) (from to : ℕ) (part : List ℕ) (number : ℕ) (after : List ℕ) : Type 0 where
  pub said : number ≡ pick (ltb (length part) part_slots) bad_number 0
  pub slots : after ≡ put part (part_numbers (placed (length doc) (span from to)))
