-- From a host's calls to the theorems of `demands`: a host that lends each call what the call before left has the calls of a run. Assumes nothing.
use Prim.Native.Nat.{ℕ, ◌-◌, ◌≤◌}
use native.Mathlib.Omega.{arith}
use mathlib.Core.Path.{◌≡◌, refl, sym, ap, ◌∙◌}
use mathlib.Core.Bool.{Bool, true, false}
use mathlib.Core.List.{List, []}
use lib.ListN.{length}
use lib.Dec.{ltb}
use borrow.Author.Tests.{eq-eqb, ltb-true, ltb-false}
use Rattle.ground.specs.Choose.{pick}
use Rattle.ground.specs.Part.{part, start_of}
use Rattle.ground.proofs.Choices.{clash, pick_cases, pick_nlt}
use Rattle.ground.proofs.Lists.{part_in, part_crossed, part_past, at_end}
use Rattle.state.specs.declared.config.Config.{Config}
use Rattle.state.specs.declared.place.Span.{Span}
use Rattle.state.specs.declared.run.Reader.{Reader}
use Rattle.state.specs.declared.run.Made.{Made}
use Rattle.state.specs.Limits.{longest}
use Rattle.state.specs.Make.{fresh, made}
use Rattle.state.specs.Values.{values_of}
use Rattle.reader.specs.Step.{step}
use Rattle.demands.specs.Answers.{is_bad_state}
use Rattle.demands.specs.Run.{World, said, call, run}
use Rattle.demands.proofs.Demand1.{bad_state_exactly_when_unsound, unsound_changes_nothing}
use Rattle.demands.proofs.Unclosed.{no_call_turns_the_mark_off}
use Rattle.capi.specs.declared.slots.Held.{Held}
use Rattle.capi.specs.Numbers.{config_of, mark_slot, state_numbers, state_slots, values_numbers, answer_slots, held_of}
use Rattle.capi.specs.Slots.{put, placed}
use Rattle.capi.specs.Calls.{bad_number, made_number, made_state, Opened, lent_to, Called}
use Rattle.capi.specs.Hosts.{Holds}
use Rattle.capi.proofs.Rounds.{holds, holds_mark, what_is_stored_is_held, what_is_held_is_stored}

-- a 0 is no refusal of what is lent
zero_told : (t : Bool) (n : ℕ) → 0 ≡ pick t bad_number n → (t ≡ false) × (0 ≡ n)
zero_told true n e = absurd (omega arith)
zero_told false n e = (refl, e)

-- THEOREM: a host that is told 0 holds the reader of a run before its first call
pub a_host's_reader_is_a_run's : (doc stack state after : List ℕ) (settings : ℕ) → Opened doc settings state 0 after
    → (length doc ≤ longest) × Holds after (run doc stack (config_of settings) 0).reader
unfolding made run
a_host's_reader_is_a_run's doc stack state after settings o =
    let c : Config = config_of settings in
    let told = zero_told (ltb (length state) state_slots) (made_number (made (length doc) c)) o.said in
    pick_cases (λ (m : Made). 0 ≡ made_number m → after ≡ made_state state m → (length doc ≤ longest) × Holds after (fresh (length doc) c))
    (ltb longest (length doc)) _ _
    (λ _ z a. absurd (omega arith))
    (λ e z a.
    (ltb-false longest (length doc) e, ap held_of a ∙ what_is_stored_is_held state 0 (fresh (length doc) c) (ltb-false (length state) state_slots told.0) (λ on. clash false on refl)))
    told.1 o.slots

-- what a call tells a host, and what it leaves, where the call is the next one from w
pub record Tells (doc : List ℕ) (w : World) (answer : List ℕ) (n : ℕ) (stack' state' answer' : List ℕ) : Type 0 where
  pub number : n ≡ (values_of (said doc w)).number
  pub values : answer' ≡ put answer (values_numbers (values_of (said doc w)))
  pub stack : stack' ≡ (call doc w).stack
  pub state : Holds state' (call doc w).reader

-- THEOREM
pub a_host's_call_is_the_run's : (doc : List ℕ) (w : World) (state answer : List ℕ) (number : ℕ) (stack' state' answer' : List ℕ)
    → Holds state w.reader → answer_slots ≤ length answer
    → Called doc w.stack state answer number stack' state' answer' → Tells doc w answer number stack' state' answer'
unfolding lent_to call
a_host's_call_is_the_run's doc w state answer number stack' state' answer' h room c =
    let k : lent_to state answer ≡ Held.Reader w.reader = sym (pick_nlt _ _ _ _ _ room (sym h)) in
    record {
      number = c.said ∙ rw k refl;
      values = c.slots ∙ rw k refl;
      stack = c.names ∙ rw k refl;
      state =
          ap held_of (c.reader ∙ rw k refl)
          ∙ what_is_stored_is_held state (mark_slot state) (call doc w).reader (holds state w.reader h).0
          (λ on. no_call_turns_the_mark_off doc w.stack w.reader (sym (holds_mark state w.reader h) ∙ on));
    }

-- a reader that a call moves on is the state's
pub lent_holds : (state answer : List ℕ) (r : Reader) → lent_to state answer ≡ Held.Reader r → Holds state r
unfolding lent_to
lent_holds state answer r =
    pick_cases (λ (h : Held). h ≡ Held.Reader r → Holds state r) (ltb (length answer) answer_slots) _ _
    (λ _ k. let z : ◌≡◌ {A = ℕ} 0 1 = cc in absurd (omega arith))
    (λ _ k. k)

-- THEOREM: whatever is lent, a call that answers 17 leaves stack and state as they were
pub seventeen_changes_nothing : (doc stack state answer : List ℕ) (number : ℕ) (stack' state' answer' : List ℕ)
    → Called doc stack state answer number stack' state' answer' → number ≡ bad_number → (stack' ≡ stack) × (state' ≡ state)
seventeen_changes_nothing doc stack state answer number stack' state' answer' c e = by (lent_to state answer) refl
  where
    by : (h : Held) → lent_to state answer ≡ h → (stack' ≡ stack) × (state' ≡ state)
    by (Held.Reader r) k =
        let bad : is_bad_state (step doc stack r).answer ≡ true = eq-eqb (values_of (step doc stack r).answer).number 17 (sym (c.said ∙ rw k refl) ∙ e) in
        let same = unsound_changes_nothing doc stack r ((bad_state_exactly_when_unsound doc stack r).0 bad) in (
          c.names ∙ rw k same.1,
          c.reader ∙ rw k (ap (λ (x : Reader). put state (state_numbers (mark_slot state) x)) same.0 ∙ what_is_held_is_stored state r (lent_holds state answer r k)),
        )
    by Held.Nothing k = (c.names ∙ rw k refl, c.reader ∙ rw k refl)

nothing : (doc : List ℕ) → part doc (length doc) (length doc) ≡ []
nothing doc = part_in doc (length doc) (length doc) (omega arith) (omega arith) ∙ at_end doc (length doc - length doc)

-- THEOREM: a span's place begins where the part that `reader::content` hands back begins
pub its_place_is_the_part's : (doc : List ℕ) (s : Span) → (placed (length doc) s).from ≡ start_of doc s.from s.to
unfolding placed
its_place_is_the_part's doc s =
    pick_cases Begins (ltb s.to s.from) _ _
    (λ e. rw e refl)
    (λ e. pick_cases Begins (ltb (length doc) s.to) _ _ (λ f. rw (e, f) refl) (λ f. rw (e, f) refl))
  where
    Begins : Span → Type 0
    Begins t = t.from ≡ start_of doc s.from s.to

-- THEOREM: the bytes of a span are those of its place, which lies in the document
pub content_is_at_its_place : (doc : List ℕ) (s : Span)
    → (part doc s.from s.to ≡ part doc (placed (length doc) s).from (placed (length doc) s).to)
    × ((placed (length doc) s).from ≤ (placed (length doc) s).to)
    × ((placed (length doc) s).to ≤ length doc)
unfolding placed
content_is_at_its_place doc s =
    pick_cases Lies (ltb s.to s.from) _ _
    (λ e. (part_crossed doc s.from s.to (ltb-true s.to s.from e) ∙ sym (nothing doc), omega arith, omega arith))
    (λ e.
    pick_cases Lies (ltb (length doc) s.to) _ _
    (λ f. (part_past doc s.from s.to (ltb-true (length doc) s.to f) ∙ sym (nothing doc), omega arith, omega arith))
    (λ f. (refl, ltb-false s.to s.from e, ltb-false (length doc) s.to f)))
  where
    Lies : Span → Type 0
    Lies t = (part doc s.from s.to ≡ part doc t.from t.to) × (t.from ≤ t.to) × (t.to ≤ length doc)
