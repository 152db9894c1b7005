-- DEMAND 1: every call is answered, a run never meets a bad state, and it comes to its end. Any document within the limit, any settings, any lent stack,
-- any number of calls from a fresh reader. Assumes nothing.
use Prim.Native.Nat.{ℕ, zero, suc, ◌+◌, ◌-◌, ◌≤◌}
use mathlib.Core.Path.{◌≡◌, refl, sym, ap, ◌∙◌, subst}
use mathlib.Core.List.{List}
use mathlib.Core.Bool.{Bool, true, false}
use mathlib.Core.Logic.{◌↔◌, ◌⊎◌, inl, inr}
use native.Mathlib.Omega.{arith}
use native.Mathlib.Nat.{zero-add, suc-add}
use lib.ListN.{length}
use lib.Dec.{ltb}
use borrow.Author.Tests.{ne_eqb, eqb-true, ltb-false}
use Rattle.ground.proofs.Choices.{clash, pick_cases}
use Rattle.state.specs.declared.place.Span.{Span}
use Rattle.state.specs.declared.config.Config.{Config}
use Rattle.state.specs.declared.answer.Kind.{Kind}
use Rattle.state.specs.declared.run.Phase.{Phase}
use Rattle.state.specs.declared.run.Reader.{Reader}
use Rattle.state.specs.declared.run.Step.{Step}
use Rattle.state.specs.declared.run.Made.{Made}
use Rattle.state.specs.Limits.{longest, capacity}
use Rattle.state.specs.Place.{depth_of, span}
use Rattle.state.specs.Values.{kind_number, values_of}
use Rattle.state.specs.Make.{fresh, made, moved, marked, told, ended, refused, stopped, refuses_end, ending, bad_state}
use Rattle.state.proofs.Numbers.{answer_range}
use Rattle.state.proofs.Refused.{nothing_owed, told_before}
use Rattle.reader.specs.Names.{latest, written}
use Rattle.reader.specs.Sound.{sound}
use Rattle.reader.specs.Step.{step_in, step_phase, step}
use Rattle.reader.proofs.Outside.{Turned, rank_at, due, step_turn, call_numbers}
use Rattle.reader.proofs.Rooms.{bad_step, any_state}
use Rattle.demands.specs.Run.{World, said, call, run, AtRest}
use Rattle.demands.specs.Answers.{AnEvent, ARefusal, is_eof, is_bad_state, one_is}
use Rattle.demands.specs.Open.{newest}
use Rattle.demands.proofs.Held.{written_length, held_sound, held_turn, run_held}

-- ---- any state

bad_answer_lem : (r : Reader) → is_bad_state (bad_state r).answer ≡ true
unfolding bad_state
bad_answer_lem r = refl

module _ (doc stack : List ℕ) (r : Reader) where
  sound_numbers : sound doc stack r ≡ true → ((values_of (step doc stack r).answer).number ≡ 16 → ⊥) × ((values_of (step doc stack r).answer).number ≡ 17 → ⊥)
  sound_numbers e = call_numbers doc _ _ r (step doc stack r) (step_turn doc stack r e).names

  -- THEOREM: "17 exactly when" the state is not sound
  pub bad_state_exactly_when_unsound : (is_bad_state (step doc stack r).answer ≡ true) ↔ (sound doc stack r ≡ false)
  bad_state_exactly_when_unsound = (λ b. by (sound doc stack r) refl b, λ e. rw (bad_step doc stack r e) (bad_answer_lem r))
    where
      by : (t : Bool) → sound doc stack r ≡ t → is_bad_state (step doc stack r).answer ≡ true → t ≡ false
      by true e b = absurd ((sound_numbers e).1 (eqb-true (values_of (step doc stack r).answer).number 17 b))
      by false e b = refl

  -- THEOREM: and then "all unchanged"
  pub unsound_changes_nothing : sound doc stack r ≡ false → ((step doc stack r).reader ≡ r) × (written stack r.depth.0 (step doc stack r).answer ≡ stack)
  unfolding bad_state written
  unsound_changes_nothing e = (ap (λ (s : Step). s.reader) (bad_step doc stack r e), ap (λ (s : Step). written stack r.depth.0 s.answer) (bad_step doc stack r e))

  no_16 : (values_of (step doc stack r).answer).number ≡ 16 → ⊥
  unfolding bad_state
  no_16 = any_state doc stack r (λ (s : Step). (values_of s.answer).number ≡ 16 → ⊥) (λ e. (sound_numbers e).0) (λ n. omega arith)

  -- THEOREM: "every call returns an event, end of file or a numbered refusal of document 01"
  pub every_call_is_answered : AnEvent (step doc stack r).answer ⊎ ARefusal (step doc stack r).answer
  every_call_is_answered = by (answer_range (step doc stack r).answer)
    where
      by : AnEvent (step doc stack r).answer
          ⊎ (((values_of (step doc stack r).answer).kind ≡ 0) × (1 ≤ (values_of (step doc stack r).answer).number) × ((values_of (step doc stack r).answer).number ≤ 18))
          → AnEvent (step doc stack r).answer ⊎ ARefusal (step doc stack r).answer
      by (inl x) = inl x
      by (inr x) = inr (x.0, x.1, x.2, no_16)

  -- in a sound state
  phase_step : sound doc stack r ≡ true → step doc stack r ≡ step_in doc r (latest stack r.depth.0) (depth_of (capacity (length stack))) r.phase
  unfolding step step_phase
  phase_step e = rw e

  -- a sound state that is done
  module _ (e : sound doc stack r ≡ true) (done : r.phase ≡ Phase.Done) where
    end_step : step doc stack r ≡ ending r (latest stack r.depth.0) (span r.position.0 r.position.0)
    end_step = phase_step e ∙ ap (step_in doc r (latest stack r.depth.0) (depth_of (capacity (length stack)))) done

    eof_step : refuses_end r ≡ false → step doc stack r ≡ ended r (span r.position.0 r.position.0)
    unfolding ending
    eof_step none = end_step ∙ rw none

-- nothing is changed but the mark
abbrev Marked : List ℕ → Reader → Step → Type 0
Marked stack r s = is_eof s.answer ≡ true → (s.reader ≡ marked r) × (written stack r.depth.0 s.answer ≡ stack)

end_marks : (stack : List ℕ) (r : Reader) (last : Span) → r.phase ≡ Phase.Done → Marked stack r (ending r last (span r.position.0 r.position.0))
unfolding ending stopped refused ended told moved marked written
end_marks stack r last done =
    pick_cases (Marked stack r) (refuses_end r) _ _
    (λ _ e. clash false e refl)
    (λ _ e. (ap (λ (p : Phase). record { phase = p; position = r.position; depth = r.depth; length = r.length; settings = r.settings; mark = true }) (sym done), refl))

-- THEOREM: from any state, "Eof in Done changes nothing but the mark"
pub eof_in_done_changes_nothing_but_the_mark : (doc stack : List ℕ) (r : Reader) → r.phase ≡ Phase.Done → Marked stack r (step doc stack r)
unfolding bad_state
eof_in_done_changes_nothing_but_the_mark doc stack r done =
    any_state doc stack r (Marked stack r)
    (λ e. subst (Marked stack r) (sym (end_step doc stack r e done)) (end_marks stack r (latest stack r.depth.0) done))
    (λ e. clash false e refl)

-- the reader is done, and what is answered is not 13
abbrev Over : Step → Type 0
Over s = (s.reader.phase ≡ Phase.Done) × ((values_of s.answer).number ≡ 13 → ⊥)

end_says : (r : Reader) (last piece : Span) → Over (ending r last piece)
unfolding ending stopped refused ended told moved
end_says r last piece = pick_cases Over (refuses_end r) _ _ (λ _. (refl, λ n. omega arith)) (λ _. (refl, λ n. omega arith))

-- ---- a run

-- THEOREM: where a reader is made, the document is within the limit, and the reader is that of a run before its first call
pub a_reader_made_is_a_run's : (doc stack : List ℕ) (c : Config) (r : Reader) → made (length doc) c ≡ Made.Fresh r
    → (length doc ≤ longest) × (r ≡ (run doc stack c 0).reader)
unfolding made run
a_reader_made_is_a_run's doc stack c r =
    pick_cases (λ (m : Made). m ≡ Made.Fresh r → (length doc ≤ longest) × (r ≡ fresh (length doc) c)) (ltb longest (length doc)) _ _
    (λ _ h. let z : ◌≡◌ {A = ℕ} 0 1 = cc in absurd (omega arith))
    (λ e h. (ltb-false longest (length doc) e, cc))

module _ (doc stack : List ℕ) (c : Config) (short : length doc ≤ longest) where
  abbrev after : ℕ → World
  after n = run doc stack c n

  pub turn : (n : ℕ) → Turned doc (capacity (length (after n).stack)) (newest (after n)) (after n).reader (step doc (after n).stack (after n).reader)
  turn n = held_turn doc c short (after n) (run_held doc c short stack n)

  -- THEOREM: every state of a run is sound
  pub every_state_is_sound : (n : ℕ) → sound doc (after n).stack (after n).reader ≡ true
  every_state_is_sound n = held_sound doc c short (after n) (run_held doc c short stack n)

  -- THEOREM: no call of a run answers 17
  pub no_bad_state : (n : ℕ) → is_bad_state (said doc (after n)) ≡ false
  no_bad_state n = ne_eqb (values_of (said doc (after n))).number 17 (call_numbers doc _ _ _ _ (turn n).names).1

  -- THEOREM: the stack keeps its length, and no more names are open than it has room for
  pub stack_keeps_its_length : (n : ℕ) → length (after n).stack ≡ length stack
  unfolding run call
  stack_keeps_its_length zero = refl
  stack_keeps_its_length (suc n) = written_length (said doc (after n)) (after n).stack (after n).reader.depth.0 ∙ stack_keeps_its_length n

  pub depth_within_capacity : (n : ℕ) → (after n).reader.depth.0 ≤ capacity (length stack)
  depth_within_capacity n = rw (← stack_keeps_its_length n) (run_held doc c short stack n).deep

  -- THEOREM: settings and length stay those of the fresh reader
  pub settings_and_length_stay : (n : ℕ) → ((after n).reader.settings ≡ c) × ((after n).reader.length ≡ length doc)
  settings_and_length_stay n = let h = run_held doc c short stack n in (h.settings, h.size)

  next_position : (n : ℕ) → (after n).reader.position.0 ≤ (after (suc n)).reader.position.0
  unfolding run call
  next_position n = let t = turn n in omega (arith, t.after, t.ordered, t.left)

  -- THEOREM: the position never falls, by however many calls
  pub position_never_falls : (n k : ℕ) → (after n).reader.position.0 ≤ (after (k + n)).reader.position.0
  position_never_falls n zero = rw (zero-add n) (omega arith)
  position_never_falls n (suc k) = rw (suc-add k n) (omega (arith, position_never_falls n k, next_position (k + n)))

  -- ---- the end

  due_falls : (n : ℕ) → due doc (after n).reader ≤ length doc + 1 - n
  unfolding run call fresh refuses_end
  due_falls zero = omega arith
  due_falls (suc n) = omega (arith, (turn n).falls, due_falls n)

  rank_done : (position : ℕ) (p : Phase) → rank_at doc position p ≤ 0 → p ≡ Phase.Done
  rank_done position Phase.Init h = absurd (omega arith)
  rank_done position Phase.InsideText h = absurd (omega arith)
  rank_done position Phase.InsideMarkup h = absurd (omega arith)
  rank_done position Phase.InsideRef h = absurd (omega arith)
  rank_done position Phase.InsideEmpty h = absurd (omega arith)
  rank_done position Phase.Done h = refl

  -- THEOREM: a reader that was called is not in Init
  pub no_init_after_a_call : (n : ℕ) → (after (suc n)).reader.phase ≡ Phase.Init → ⊥
  no_init_after_a_call n e =
      let all : rank_at doc (after (suc n)).reader.position.0 (after (suc n)).reader.phase ≡ length doc + 1 = ap (rank_at doc (after (suc n)).reader.position.0) e in
      omega (arith, due_falls (suc n))

  -- THEOREM: after length + 1 calls the reader is done
  pub done_after_length_and_one : (after (length doc + 1)).reader.phase ≡ Phase.Done
  done_after_length_and_one =
      rank_done (after (length doc + 1)).reader.position.0 (after (length doc + 1)).reader.phase (omega (arith, due_falls (length doc + 1)))

  end_not_refused_after_length_and_one : refuses_end (after (length doc + 1)).reader ≡ false
  end_not_refused_after_length_and_one = nothing_owed (after (length doc + 1)).reader (omega (arith, due_falls (length doc + 1)))

  -- a reader that is done, and whose mark is on, stays as it is
  still : (r : Reader) → r.phase ≡ Phase.Done → r.mark ≡ true → moved (marked r) Phase.Done r.position.0 ≡ r
  unfolding moved marked
  still r e m =
      ap (λ (p : Phase). record { phase = p; position = r.position; depth = r.depth; length = r.length; settings = r.settings; mark = true }) (sym e)
      ∙ ap (λ (b : Bool). record { phase = r.phase; position = r.position; depth = r.depth; length = r.length; settings = r.settings; mark = b }) (sym m)

  module _ (n : ℕ) (done : (after n).reader.phase ≡ Phase.Done) where
    pub done_stays : ((after (suc n)).reader.phase ≡ Phase.Done) × ((values_of (said doc (after n))).number ≡ 13 → ⊥)
    unfolding run call
    done_stays = subst Over (sym (end_step doc (after n).stack (after n).reader (every_state_is_sound n) done)) (end_says (after n).reader _ _)

    module _ (none : refuses_end (after n).reader ≡ false) where
      ends : step doc (after n).stack (after n).reader ≡ ended (after n).reader (span (after n).reader.position.0 (after n).reader.position.0)
      ends = eof_step doc (after n).stack (after n).reader (every_state_is_sound n) done none

      pub done_says : is_eof (said doc (after n)) ≡ true
      unfolding ended told
      done_says = ap (λ (s : Step). is_eof s.answer) ends

    module _ (told-once : (after n).reader.mark ≡ true) where
      rests : step doc (after n).stack (after n).reader ≡ ended (after n).reader (span (after n).reader.position.0 (after n).reader.position.0)
      rests = ends (told_before (after n).reader told-once)

      pub rest_says : is_eof (said doc (after n)) ≡ true
      rest_says = done_says (told_before (after n).reader told-once)

      pub rest_reader : (after (suc n)).reader ≡ (after n).reader
      unfolding run call ended told
      rest_reader = ap (λ (s : Step). s.reader) rests ∙ still (after n).reader done told-once

      pub rest_again : ((after (suc n)).reader.phase ≡ Phase.Done) × ((after (suc n)).reader.mark ≡ true)
      rest_again = (ap (λ (r : Reader). r.phase) rest_reader ∙ done, ap (λ (r : Reader). r.mark) rest_reader ∙ told-once)

      rest_stack : (after (suc n)).stack ≡ (after n).stack
      unfolding run call written ended told
      rest_stack = ap (λ (s : Step). written (after n).stack (after n).reader.depth.0 s.answer) rests

  pub done_and_marked_stays : (n : ℕ) → (after n).reader.phase ≡ Phase.Done → (after n).reader.mark ≡ true → (k : ℕ) → AtRest doc (after n) (after (k + n))
  done_and_marked_stays n done on zero = rw (zero-add n) (record { says = rest_says n done on; reader = refl; stack = refl })
  done_and_marked_stays n done on (suc k) = rw (suc-add k n) (onward (done_and_marked_stays n done on k))
    where
      onward : AtRest doc (after n) (after (k + n)) → AtRest doc (after n) (after (suc (k + n)))
      onward x =
          let d : (after (k + n)).reader.phase ≡ Phase.Done = ap (λ (r : Reader). r.phase) x.reader ∙ done in
          let m : (after (k + n)).reader.mark ≡ true = ap (λ (r : Reader). r.mark) x.reader ∙ on in
          let again = rest_again (k + n) d m in
          record {
            says = rest_says (suc (k + n)) again.0 again.1;
            reader = rest_reader (k + n) d m ∙ x.reader;
            stack = rest_stack (k + n) d m ∙ x.stack;
          }

  -- THEOREM: "end of file comes by call number length + 2", the one after length + 1 calls; 18 comes before it, if it comes
  pub eof_by_length_and_two : is_eof (said doc (after (length doc + 1))) ≡ true
  eof_by_length_and_two = done_says (length doc + 1) done_after_length_and_one end_not_refused_after_length_and_one

  pub eof_done : (n : ℕ) → is_eof (said doc (after n)) ≡ true → ((after (suc n)).reader.phase ≡ Phase.Done) × ((after (suc n)).reader.mark ≡ true)
  unfolding run call
  eof_done n e =
      let f = (turn n).finish in
      ((f.over (eqb-true (values_of (said doc (after n))).kind (kind_number Kind.Eof) e)).0, rw e at f.mark)

  -- THEOREM: from an Eof on every call answers Eof and changes nothing
  pub eof_stays : (n : ℕ) → is_eof (said doc (after n)) ≡ true → (k : ℕ) → AtRest doc (after (suc n)) (after (k + suc n))
  eof_stays n e k = let d = eof_done n e in done_and_marked_stays (suc n) d.0 d.1 k

  -- after an Eof the reader is done, and its mark is on
  pub after_eof : (n : ℕ) → one_is is_eof (after n).answers ≡ true → ((after n).reader.phase ≡ Phase.Done) × ((after n).reader.mark ≡ true)
  unfolding run call one_is
  after_eof zero e = clash false e refl
  after_eof (suc n) e =
      pick_cases (λ (b : Bool). b ≡ true → ((after (suc n)).reader.phase ≡ Phase.Done) × ((after (suc n)).reader.mark ≡ true)) (is_eof (said doc (after n))) true (one_is is_eof (after n).answers)
      (λ e _. eof_done n e)
      (λ _ e. let d = after_eof n e in rest_again n d.0 d.1)
      e
