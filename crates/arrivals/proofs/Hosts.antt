-- The same of a host's calls over slots: it sets the slot of the length, and every other slot is as over the whole document. Assumes nothing.
use Prim.Native.Nat.{ℕ, ◌≤◌, ◌<◌}
use mathlib.Core.Path.{◌≡◌, refl, sym, ap, ap₂, ◌∙◌, subst}
use mathlib.Core.Bool.{Bool, true, false, not}
use mathlib.Core.List.{List, [], ◌∷◌, ◌++◌}
use native.Mathlib.Omega.{arith}
use lib.ListN.{length, get_or}
use lib.Dec.{eqb, ltb}
use lib.Seq.{get_or-set_other}
use borrow.Author.Tests.{le-ltb}
use Rattle.ground.specs.Choose.{pick}
use Rattle.state.specs.declared.answer.Answer.{Answer}
use Rattle.state.specs.declared.run.Reader.{Reader}
use Rattle.state.specs.declared.run.Step.{Step}
use Rattle.state.specs.Limits.{longest}
use Rattle.state.specs.Values.{values_of}
use Rattle.reader.specs.Names.{written}
use Rattle.reader.specs.Step.{step}
use Rattle.capi.specs.declared.slots.Held.{Held}
use Rattle.state.specs.Place.{at, depth_of}
use Rattle.capi.specs.Numbers.{phase_of, config_of, state_numbers, state_slots, mark_slot, values_numbers, answer_slots, held_of}
use Rattle.capi.specs.Slots.{put}
use Rattle.capi.specs.Calls.{answer_to, lent_to, stack_to, state_to, Called}
use Rattle.capi.specs.Hosts.{Holds}
use Rattle.capi.proofs.Rounds.{holds as slots_hold}
use Rattle.arrivals.specs.Whole.{Stands, Whole, lengthened, lengthened_step}
use Rattle.arrivals.specs.Hosts.{with_length}
use Rattle.arrivals.proofs.Arrivals.{a_call_on_the_bytes_so_far_is_the_call_on_the_whole_document}

-- ---- the reader that slots hold, with another length

-- behind the same tests
tested : (n : ℕ) (t u v : Bool) (x r : Reader) → pick t Held.Nothing (pick u Held.Nothing (pick v Held.Nothing (Held.Reader x))) ≡ Held.Reader r
    → pick t Held.Nothing (pick u Held.Nothing (pick v Held.Nothing (Held.Reader (lengthened n x)))) ≡ Held.Reader (lengthened n r)
tested n true u v x r e = let z : ◌≡◌ {A = ℕ} 0 1 = cc in absurd (omega arith)
tested n false true v x r e = let z : ◌≡◌ {A = ℕ} 0 1 = cc in absurd (omega arith)
tested n false false true x r e = let z : ◌≡◌ {A = ℕ} 0 1 = cc in absurd (omega arith)
tested n false false false x r e = let f : x ≡ r = cc in ap (λ (y : Reader). Held.Reader (lengthened n y)) f

-- fewer slots hold none
short : {A : Type 0} (state : List ℕ) (r : Reader) → length state < state_slots → Holds state r → A
short state r l e = absurd (omega (arith, (slots_hold state r e).0))

-- THEOREM: slots that hold a reader hold it over a document of n bytes, once the slot of the length has that number
pub with_its_length_set_a_state_holds_the_reader_lengthened : (n : ℕ) (state : List ℕ) (r : Reader) → Holds state r → Holds (with_length n state) (lengthened n r)
unfolding held_of
with_its_length_set_a_state_holds_the_reader_lengthened n [] r e = short [] r (omega arith) e
with_its_length_set_a_state_holds_the_reader_lengthened n (a ∷ []) r e = short (a ∷ []) r (omega arith) e
with_its_length_set_a_state_holds_the_reader_lengthened n (a ∷ b ∷ []) r e = short (a ∷ b ∷ []) r (omega arith) e
with_its_length_set_a_state_holds_the_reader_lengthened n (a ∷ b ∷ c ∷ []) r e = short (a ∷ b ∷ c ∷ []) r (omega arith) e
with_its_length_set_a_state_holds_the_reader_lengthened n (a ∷ b ∷ c ∷ d ∷ rest) r e =
    tested n (ltb (length (a ∷ b ∷ c ∷ d ∷ rest)) state_slots) (ltb 5 a) (ltb 511 (get_or rest 0 0))
    (record {
      phase = phase_of a;
      position = at b;
      depth = depth_of c;
      length = d;
      settings = config_of (get_or rest 0 0);
      mark = not (eqb (get_or rest 1 0) 0);
    }) r e

-- ---- what is written

-- a reader's numbers begin with the same three, and go on behind the length
put_length : (n was : ℕ) (state : List ℕ) (r : Reader) → state_slots ≤ length state
    → put (with_length n state) (state_numbers was (lengthened n r)) ≡ with_length n (put state (state_numbers was r))
unfolding put state_numbers
put_length n was [] r l = absurd (omega arith)
put_length n was (a ∷ []) r l = absurd (omega arith)
put_length n was (a ∷ b ∷ []) r l = absurd (omega arith)
put_length n was (a ∷ b ∷ c ∷ []) r l = absurd (omega arith)
put_length n was (a ∷ b ∷ c ∷ d ∷ rest) r l =
    rw (le-ltb (length (a ∷ b ∷ c ∷ d ∷ rest)) state_slots l)

mark_kept : (n : ℕ) (state : List ℕ) → mark_slot (with_length n state) ≡ mark_slot state
mark_kept n state = get_or-set_other state 3 5 n 0 (λ e. omega arith)

-- ---- one call

module _ (doc more stack state answer : List ℕ) (r : Reader) (holds : Holds state r) (at : Stands doc r) (all : length (doc ++ more) ≤ longest) (whole : Whole doc r) where
  abbrev n : ℕ
  n = length (doc ++ more)

  -- the reader that the call moves on
  abbrev Lent : Held → Held → Type 0
  Lent h h' = (answer_to (doc ++ more) stack h' ≡ answer_to doc stack h) × (stack_to (doc ++ more) stack h' ≡ stack_to doc stack h)
      × (state_to (doc ++ more) stack (with_length n state) h' ≡ with_length n (state_to doc stack state h))

  lent_reader : Lent (Held.Reader r) (Held.Reader (lengthened n r))
  unfolding lengthened_step
  lent_reader =
      let e = a_call_on_the_bytes_so_far_is_the_call_on_the_whole_document doc more stack r at all whole in (
        ap (λ (s : Step). s.answer) e,
        ap (λ (s : Step). written stack r.depth.0 s.answer) e,
        ap₂ (λ (was : ℕ) (s : Step). put (with_length n state) (state_numbers was s.reader)) (mark_kept n state) e
            ∙ put_length n (mark_slot state) state (step doc stack r).reader (slots_hold state r holds).0,
      )

  lent_to_lem : Lent (lent_to state answer) (lent_to (with_length n state) answer)
  unfolding lent_to
  lent_to_lem = by (ltb (length answer) answer_slots)
    where
      by : (t : Bool) → Lent (pick t Held.Nothing (held_of state)) (pick t Held.Nothing (held_of (with_length n state)))
      by true = (refl, refl, refl)
      by false =
          subst (λ (h : Held). Lent h (held_of (with_length n state))) (sym holds)
          (subst (Lent (Held.Reader r)) (sym (with_its_length_set_a_state_holds_the_reader_lengthened n state r holds)) lent_reader)

  -- THEOREM: a host's call on the bytes so far, in which its piece is whole, is its call on the whole document: the same number, stack and answer, and the same
  -- state but for the length
  pub a_host's_call_on_the_bytes_so_far_is_its_call_on_the_whole_document : (number : ℕ) (stack' state' answer' : List ℕ)
      → Called doc stack state answer number stack' state' answer'
      → Called (doc ++ more) stack (with_length n state) answer number stack' (with_length n state') answer'
  a_host's_call_on_the_bytes_so_far_is_its_call_on_the_whole_document number stack' state' answer' c = record {
    said = c.said ∙ ap (λ (a : Answer). (values_of a).number) (sym lent_to_lem.0);
    names = c.names ∙ sym lent_to_lem.1;
    reader = ap (with_length n) c.reader ∙ sym lent_to_lem.2;
    slots = c.slots ∙ ap (λ (a : Answer). put answer (values_numbers (values_of a))) (sym lent_to_lem.0);
  }
