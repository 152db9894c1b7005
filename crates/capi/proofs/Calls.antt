-- What a host's call answers and leaves, from the promises of what it calls. Assumes nothing.
use Prim.Native.Nat.{ℕ, ◌≤◌, ◌<◌}
use mathlib.Core.Path.{◌≡◌, refl, sym, ap, ◌∙◌}
use mathlib.Core.Bool.{Bool, true, false}
use mathlib.Core.List.{List}
use lib.ListN.{length, take}
use borrow.Author.Rules.{rules}
use Rattle.ground.proofs.Choices.{pick_lt, pick_nlt}
use Rattle.state.specs.declared.config.Config.{Config}
use Rattle.state.specs.declared.place.Span.{Span}
use Rattle.state.specs.declared.answer.Answer.{Answer}
use Rattle.state.specs.declared.answer.Refusal.{Refusal}
use Rattle.state.specs.declared.answer.Values.{Values}
use Rattle.state.specs.declared.run.Reader.{Reader}
use Rattle.state.specs.declared.run.Step.{Step}
use Rattle.state.specs.declared.run.Made.{Made}
use Rattle.state.specs.Make.{made, bad_answer}
use Rattle.state.specs.Place.{span}
use Rattle.state.specs.Values.{refusal_values, values_of}
use Rattle.reader.specs.Sound.{sound}
use Rattle.reader.specs.Step.{step, Stepped}
use Rattle.reader.proofs.Outside.{step_turn}
use Rattle.demands.proofs.Demand1.{unsound_changes_nothing}
use Rattle.capi.specs.declared.slots.Held.{Held}
use Rattle.capi.specs.Numbers.{config_of, noted, state_numbers, state_slots, values_numbers, answer_slots, held_of}
use Rattle.capi.specs.Slots.{put, placed, part_numbers, part_slots}
use Rattle.capi.specs.Calls.{bad_number, made_state, Opened, lent_to, answer_to, Called, Parted}
use Rattle.capi.proofs.Puts.{put_nothing}
use Rattle.capi.proofs.Rounds.{moved_is_stored}

module _ (doc : List ℕ) where
  -- ---- making a reader

  module _ (settings : ℕ) (state after : List ℕ) where
    kept : length state < state_slots → (m : Made) → state ≡ made_state state m
    unfolding state_numbers
    kept l (Made.Fresh r) = put_nothing state (state_numbers 0 r) state l refl
    kept l (Made.Refused x) = refl

    pub opened_not : (n : ℕ) → length state < state_slots → n ≡ bad_number → Opened doc settings state n state
    opened_not n l e = record { said = pick_lt _ _ _ _ _ l e; slots = kept l (made (length doc) (config_of settings)) }

    module _ (c : Config) (m : Made) (room : state_slots ≤ length state) (given : c ≡ config_of settings) (e : m ≡ made (length doc) c) where
      pub opened_fresh : (r : Reader) → m ≡ Made.Fresh r → after ≡ put state (state_numbers 0 r) → Opened doc settings state 0 after
      opened_fresh r f p = record { said = pick_nlt _ _ _ _ _ room (rw (← given, ← e, f)); slots = rw (← given, ← e, f) p }

      pub opened_refused : (x : Refusal) (v : Values) → m ≡ Made.Refused x → v ≡ refusal_values x → Opened doc settings state v.number state
      opened_refused x v f h = record { said = pick_nlt _ _ _ _ _ room (rw (← given, ← e, f, h)); slots = rw (← given, ← e, f) }

  -- ---- reading on

  -- a call changes neither the length nor the settings
  kept_on : (stack : List ℕ) (r : Reader) → ((step doc stack r).reader.length ≡ r.length) × ((step doc stack r).reader.settings ≡ r.settings)
  kept_on stack r = by (sound doc stack r) refl
    where
      by : (t : Bool) → sound doc stack r ≡ t → ((step doc stack r).reader.length ≡ r.length) × ((step doc stack r).reader.settings ≡ r.settings)
      by true e = let t = step_turn doc stack r e in (t.size, t.settings)
      by false e = let same = (unsound_changes_nothing doc stack r e).0 in (ap (λ (x : Reader). x.length) same, ap (λ (x : Reader). x.settings) same)

  module _ (stack state answer : List ℕ) where
    lent_none : length answer < answer_slots → lent_to state answer ≡ Held.Nothing
    unfolding lent_to
    lent_none l = sym (pick_lt _ _ _ _ _ l refl)

    pub called_not : (n : ℕ) → length answer < answer_slots → n ≡ bad_number → Called doc stack state answer n stack state answer
    unfolding values_numbers
    called_not n l e =
        let none : lent_to state answer ≡ Held.Nothing = lent_none l in
        record { said = rw none e; names = rw none refl; reader = rw none refl; slots = put_nothing answer (values_numbers (values_of (answer_to doc stack (lent_to state answer)))) answer l refl }

    module _ (room : answer_slots ≤ length answer) (h : Held) (loaded : h ≡ held_of state) (v : Values) (answer' : List ℕ) (told : answer' ≡ put answer (values_numbers v)) where
      lent : lent_to state answer ≡ h
      unfolding lent_to
      lent = sym (pick_nlt _ _ _ _ _ room loaded)

      pub called_on : (r : Reader) (s : Step) (stack' state' : List ℕ) → h ≡ Held.Reader r → Stepped doc stack r s stack' → v ≡ values_of s.answer
          → state' ≡ put (noted state s.reader.mark) (take 3 (state_numbers 0 s.reader)) → Called doc stack state answer v.number stack' state' answer'
      called_on r s stack' state' is p w q =
          let k : lent_to state answer ≡ Held.Reader r = lent ∙ is in
          let values : v ≡ values_of (step doc stack r).answer = w ∙ ap (λ (t : Step). values_of t.answer) p.outcome in
          record {
            said = rw k (ap (λ (x : Values). x.number) values);
            names = rw k p.slots;
            reader =
                rw k
                (q ∙ ap (λ (t : Step). put (noted state t.reader.mark) (take 3 (state_numbers 0 t.reader))) p.outcome
                ∙ moved_is_stored state r (step doc stack r).reader (sym loaded ∙ is) (kept_on stack r).0 (kept_on stack r).1);
            slots = rw k (told ∙ ap (λ (x : Values). put answer (values_numbers x)) values);
          }

      pub called_bad : (a : Answer) → h ≡ Held.Nothing → a ≡ bad_answer → v ≡ values_of a → Called doc stack state answer v.number stack state answer'
      called_bad a is b w =
          let k : lent_to state answer ≡ Held.Nothing = lent ∙ is in
          let values : v ≡ values_of bad_answer = w ∙ ap values_of b in
          record {
            said = rw k (ap (λ (x : Values). x.number) values);
            names = rw k refl;
            reader = rw k refl;
            slots = rw k (told ∙ ap (λ (x : Values). put answer (values_numbers x)) values);
          }

  -- ---- the content

  module _ (from to : ℕ) (part : List ℕ) where
    pub parted_not : (n : ℕ) → length part < part_slots → n ≡ bad_number → Parted doc from to part n part
    parted_not n l e = record { said = pick_lt _ _ _ _ _ l e; slots = put_nothing part (part_numbers (placed (length doc) (span from to))) part l refl }

    pub parted_at : (s : Span) (after : List ℕ) → part_slots ≤ length part → s ≡ placed (length doc) (span from to) → after ≡ put part (part_numbers s) → Parted doc from to part 0 after
    parted_at s after l e p = record { said = pick_nlt _ _ _ _ _ l refl; slots = rw (← e) p }

pub ruleset calls = (rules, opened_not, opened_fresh, opened_refused, called_not, called_on, called_bad, parted_not, parted_at)
