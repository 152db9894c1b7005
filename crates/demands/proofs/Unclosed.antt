-- 18, "a document that ends with rows still open" (document 02): when it comes in a run, what it tells, and what a run without it is. Any document within the
-- limit, any lent stack, any number of calls from a fresh reader; a theorem that speaks of the setting says so. Assumes nothing.
use Prim.Native.Nat.{ℕ, zero, suc, ◌+◌, ◌≤◌, ◌<◌}
use mathlib.Core.Path.{◌≡◌, refl, sym, ap, ◌∙◌}
use mathlib.Core.List.{List, [], ◌∷◌}
use mathlib.Core.Bool.{Bool, true, false}
use native.Mathlib.Omega.{arith}
use lib.ListN.{length}
use borrow.Author.Tests.{eqb-true, ne_eqb}
use Rattle.ground.specs.Choose.{pick}
use Rattle.ground.proofs.Choices.{pick_cases, pick_either, pick_neither, pick_same, clash, must_fail}
use Rattle.state.specs.declared.config.Config.{Config}
use Rattle.state.specs.declared.answer.Kind.{Kind}
use Rattle.state.specs.declared.answer.Answer.{Answer}
use Rattle.state.specs.declared.run.Phase.{Phase}
use Rattle.state.specs.declared.run.Reader.{Reader}
use Rattle.state.specs.declared.run.Step.{Step}
use Rattle.state.specs.Limits.{longest}
use Rattle.state.specs.Values.{kind_number, values_of, turns_on}
use Rattle.state.specs.Make.{fresh, told, bad_state, refuses_end}
use Rattle.state.proofs.Numbers.{no_number, no_kind}
use Rattle.state.proofs.Refused.{RefusesEnd, refuses_true, true_refuses}
use Rattle.reader.specs.Step.{step}
use Rattle.reader.proofs.Outside.{step_turn}
use Rattle.reader.proofs.Rooms.{any_state}
use Rattle.demands.specs.Run.{World, said, call, run}
use Rattle.demands.specs.Answers.{is_start, is_end, is_eof, is_mismatch, is_unclosed, is_ending, count, one_is}
use Rattle.demands.specs.Open.{entries, opened, newest}
use Rattle.demands.proofs.Held.{entries_length}
use Rattle.demands.proofs.Clauses.{setting}
use Rattle.demands.proofs.Demand1.{turn, done_says, rest_reader, after_eof}
use Rattle.demands.proofs.Demand3.{no_other_takes_a_name, only_a_start_writes, starts_are_ends_mismatches_and_open}

-- ---- any state

-- THEOREM: the mark is "turned on by Eof (setting on or off), by 18 and by those refusals, kept by every other answer"
pub the_mark_after_a_call : (doc stack : List ℕ) (r : Reader) → (step doc stack r).reader.mark ≡ pick (turns_on (step doc stack r).answer) true r.mark
unfolding bad_state
the_mark_after_a_call doc stack r =
    any_state doc stack r (λ (s : Step). s.reader.mark ≡ pick (turns_on s.answer) true r.mark) (λ e. (step_turn doc stack r e).finish.mark) refl

-- THEOREM: so no call turns it off
pub no_call_turns_the_mark_off : (doc stack : List ℕ) (r : Reader) → r.mark ≡ true → (step doc stack r).reader.mark ≡ true
no_call_turns_the_mark_off doc stack r on =
    let told = turns_on (step doc stack r).answer in the_mark_after_a_call doc stack r ∙ ap (λ (b : Bool). pick told true b) on ∙ pick_same told true

-- ---- a run

-- where no answer turned the mark on none was Eof
none_was_eof : (before : List Answer) → one_is turns_on before ≡ false → one_is is_eof before ≡ false
unfolding one_is
none_was_eof [] e = refl
none_was_eof (a ∷ before) e = by (is_eof a) _ (none_was_eof before) e
  where
    by : (eof other : Bool) → (one_is turns_on before ≡ false → one_is is_eof before ≡ false) → pick (pick eof true other) true (one_is turns_on before) ≡ false
        → pick eof true (one_is is_eof before) ≡ false
    by true other further e = e
    by false other further e = further (pick_neither other _ e).1

module _ (doc stack : List ℕ) (c : Config) (short : length doc ≤ longest) where
  abbrev after : ℕ → World
  after n = run doc stack c n

  abbrev answer : ℕ → Answer
  answer n = said doc (after n)

  -- the answers of the first n calls
  abbrev answers : ℕ → List Answer
  answers n = (after n).answers

  -- THEOREM: the mark is on exactly where one of the answers so far was Eof, 18 or a refusal that ended the run
  pub the_mark_is_what_the_answers_say : (n : ℕ) → (after n).reader.mark ≡ one_is turns_on (answers n)
  unfolding run call fresh one_is
  the_mark_is_what_the_answers_say zero = refl
  the_mark_is_what_the_answers_say (suc n) =
      the_mark_after_a_call doc (after n).stack (after n).reader ∙ ap (pick (turns_on (answer n)) true) (the_mark_is_what_the_answers_say n)

  -- an answer that turns the mark on
  pub marks_when_told : (n : ℕ) → turns_on (answer n) ≡ true → (after (suc n)).reader.mark ≡ true
  unfolding run call
  marks_when_told n e = the_mark_after_a_call doc (after n).stack (after n).reader ∙ rw e refl

  module _ (n : ℕ) (eighteen : is_unclosed (answer n) ≡ true) where
    number : (values_of (answer n)).number ≡ 18
    number = eqb-true (values_of (answer n)).number 18 eighteen

    open_then : RefusesEnd (after n).reader
    open_then = refuses_true (after n).reader ((turn doc stack c short n).finish.unclosed number).1

    -- THEOREM: 18 never comes after an Eof, another 18 or a refusal that ended the run
    pub eighteen_comes_after_none_of_these : one_is turns_on (answers n) ≡ false
    eighteen_comes_after_none_of_these = sym (the_mark_is_what_the_answers_say n) ∙ open_then.untold

    -- THEOREM: it comes only where it is asked for and a name is open
    pub eighteen_comes_only_where_it_is_asked_for : c.check_open_names ≡ true
    eighteen_comes_only_where_it_is_asked_for =
        sym (setting doc stack c short n (λ (s : Config). s.check_open_names) c.check_open_names refl) ∙ open_then.asked

    pub eighteen_comes_only_with_a_name_open : 0 < length (opened (after n))
    eighteen_comes_only_with_a_name_open = rw (entries_length (after n).stack (after n).reader.depth.0) open_then.some

    -- THEOREM: "its place is the start of the latest open name"
    pub eighteen_stands_at_the_latest_open_name : (values_of (answer n)).place ≡ (newest (after n)).from
    eighteen_stands_at_the_latest_open_name = ((turn doc stack c short n).finish.unclosed number).2

    no_other : (is_start (answer n) ≡ false) × (is_end (answer n) ≡ false) × (is_mismatch (answer n) ≡ false)
    no_other =
        let k = no_kind (answer n) (omega (arith, number)) in (
          ne_eqb (values_of (answer n)).kind (kind_number Kind.Start) (λ e. omega arith),
          ne_eqb (values_of (answer n)).kind (kind_number Kind.End) (λ e. omega arith),
          ne_eqb (values_of (answer n)).number 10 (λ e. omega (arith, number)),
        )

    -- THEOREM: it takes no name away, and writes nothing on the stack
    pub eighteen_takes_no_name : (opened (after (suc n)) ≡ opened (after n)) × ((after (suc n)).stack ≡ (after n).stack)
    eighteen_takes_no_name =
        let o = no_other in (no_other_takes_a_name doc stack c short n o.0 o.1 o.2, only_a_start_writes doc stack c short n o.0)

    marks_then : (after (suc n)).reader.mark ≡ true
    marks_then = marks_when_told n (pick_either (is_eof (answer n)) _ (rw eighteen refl))

    done_then : (after (suc n)).reader.phase ≡ Phase.Done
    unfolding run call
    done_then = ((turn doc stack c short n).finish.unclosed number).0

    no_eof_so_far : one_is is_eof (answers (suc n)) ≡ false
    unfolding run call one_is
    no_eof_so_far =
        rw (ne_eqb (values_of (answer n)).kind (kind_number Kind.Eof) (λ e. omega (arith, number, no_kind (answer n) (omega (arith, number)))))
        (none_was_eof (answers n) eighteen_comes_after_none_of_these)

    -- THEOREM: the next answer is Eof, and it is the first one
    pub eof_comes_right_after_eighteen : (is_eof (answer (suc n)) ≡ true) × (one_is is_eof (answers (suc n)) ≡ false)
    eof_comes_right_after_eighteen =
        (done_says doc stack c short (suc n) done_then (must_fail _ (λ e. clash _ marks_then (refuses_true (after (suc n)).reader e).untold)), no_eof_so_far)

  mark_stays : (n : ℕ) → (after n).reader.mark ≡ true → (after (suc n)).reader.mark ≡ true
  unfolding run call
  mark_stays n on = no_call_turns_the_mark_off doc (after n).stack (after n).reader on

  -- 1 where the mark is on: 18 came so often, or less
  abbrev marks : ℕ → ℕ
  marks n = pick (after n).reader.mark 1 0

  marks_grow : (n : ℕ) → marks n ≤ marks (suc n)
  marks_grow n = pick_cases (λ (k : ℕ). k ≤ marks (suc n)) (after n).reader.mark 1 0 (λ m. rw (mark_stays n m) (omega arith)) (λ _. omega arith)

  few : (n : ℕ) → count is_unclosed (answers n) ≤ marks n
  unfolding run call count fresh
  few zero = omega arith
  few (suc n) =
      pick_cases (λ (k : ℕ). k + count is_unclosed (answers n) ≤ marks (suc n)) (is_unclosed (answer n)) 1 0
      (λ e. let off : marks n ≡ 0 = rw (open_then n e).untold refl in
      let on : marks (suc n) ≡ 1 = rw (marks_then n e) refl in
      omega (arith, few n))
      (λ _. omega (arith, few n, marks_grow n))

  -- THEOREM: 18 comes once in a run, or not at all
  pub eighteen_comes_once_at_most : (n : ℕ) → count is_unclosed (answers n) ≤ 1
  eighteen_comes_once_at_most n =
      pick_cases (λ (k : ℕ). count is_unclosed (answers n) ≤ k → count is_unclosed (answers n) ≤ 1) (after n).reader.mark 1 0 (λ _ h. h) (λ _ h. omega arith)
      (few n)

  -- THEOREM: it does not come where it is not asked for
  pub no_eighteen_unasked : c.check_open_names ≡ false → (n : ℕ) → is_unclosed (answer n) ≡ false
  no_eighteen_unasked off n = must_fail (is_unclosed (answer n)) (λ e. clash _ (eighteen_comes_only_where_it_is_asked_for n e) off)

  -- ---- a page that is whole

  -- where one turned the mark on, and none was 18 or ended the run, one was Eof
  eof_is_left : (before : List Answer) → one_is turns_on before ≡ true → one_is is_unclosed before ≡ false → one_is is_ending before ≡ false → one_is is_eof before ≡ true
  unfolding one_is
  eof_is_left [] e u s = e
  eof_is_left (a ∷ before) e u s = by (is_eof a) (is_unclosed a) (is_ending a) (eof_is_left before) e u s
    where
      by : (eof unclosed ending : Bool) → (one_is turns_on before ≡ true → one_is is_unclosed before ≡ false → one_is is_ending before ≡ false → one_is is_eof before ≡ true)
          → pick (pick eof true (pick unclosed true ending)) true (one_is turns_on before) ≡ true
          → pick unclosed true (one_is is_unclosed before) ≡ false → pick ending true (one_is is_ending before) ≡ false → pick eof true (one_is is_eof before) ≡ true
      by true unclosed ending further e u s = refl
      by false true ending further e u s = clash true refl u
      by false false true further e u s = clash true refl s
      by false false false further e u s = further e u s

  module _ (asked : c.check_open_names ≡ true) where
    -- what Eof is answered with: nothing open, or the end was told before
    eof_with : (n : ℕ) → is_eof (answer n) ≡ true → (after n).reader.mark ≡ false → (after n).reader.depth.0 ≡ 0
    eof_with n e off = by (after n).reader.depth.0 refl
      where
        by : (d : ℕ) → (after n).reader.depth.0 ≡ d → d ≡ 0
        by zero z = refl
        by (suc d) z =
            clash (refuses_end (after n).reader)
            (true_refuses (after n).reader (record { some = omega arith; asked = setting doc stack c short n (λ (s : Config). s.check_open_names) true asked; untold = off }))
            ((turn doc stack c short n).finish.over (eqb-true (values_of (answer n)).kind (kind_number Kind.Eof) e)).1

    -- an Eof keeps the names
    eof_keeps : (n : ℕ) → is_eof (answer n) ≡ true → (after n).reader.depth.0 ≡ 0 → (after (suc n)).reader.depth.0 ≡ 0
    eof_keeps n e z =
        let k = eqb-true (values_of (answer n)).kind (kind_number Kind.Eof) e in
        let m = no_number (answer n) (omega (arith, k)) in
        let same =
        no_other_takes_a_name doc stack c short n
        (ne_eqb (values_of (answer n)).kind (kind_number Kind.Start) (λ e. omega (arith, k)))
        (ne_eqb (values_of (answer n)).kind (kind_number Kind.End) (λ e. omega (arith, k)))
        (ne_eqb (values_of (answer n)).number 10 (λ e. omega (arith, m))) in
        sym (entries_length (after (suc n)).stack (after (suc n)).reader.depth.0) ∙ ap length same ∙ entries_length (after n).stack (after n).reader.depth.0 ∙ z

    none_open : (n : ℕ) → one_is is_eof (answers n) ≡ true → one_is is_unclosed (answers n) ≡ false → one_is is_ending (answers n) ≡ false → (after n).reader.depth.0 ≡ 0
    unfolding run call one_is
    none_open zero e u s = clash false e refl
    none_open (suc n) e u s =
        let v = (pick_neither (is_unclosed (answer n)) _ u).1 in
        let t = (pick_neither (is_ending (answer n)) _ s).1 in
        pick_cases (λ (b : Bool). b ≡ true → (after (suc n)).reader.depth.0 ≡ 0) (is_eof (answer n)) true (one_is is_eof (answers n))
        (λ f _. eof_keeps n f (at_eof (after n).reader.mark refl f (λ h. none_open n (eof_is_left (answers n) h v t) v t)))
        (λ _ f. let d = after_eof doc stack c short n f in ap (λ (r : Reader). r.depth.0) (rest_reader doc stack c short n d.0 d.1) ∙ none_open n f v t)
        e
      where
        at_eof : (b : Bool) → (after n).reader.mark ≡ b → is_eof (answer n) ≡ true → (one_is turns_on (answers n) ≡ true → (after n).reader.depth.0 ≡ 0)
            → (after n).reader.depth.0 ≡ 0
        at_eof false m f told = eof_with n f m
        at_eof true m f told = told (sym (the_mark_is_what_the_answers_say n) ∙ m)

    -- THEOREM: open names checked: a page that ends with Eof, and with neither 18 nor a refusal that ended the run, is whole: no name is open, and, where unmatched
    -- ends are refused, Starts = Ends + mismatches
    pub a_page_that_ends_with_eof_and_no_refusal_is_whole : (n : ℕ)
        → one_is is_eof (answers n) ≡ true → one_is is_unclosed (answers n) ≡ false → one_is is_ending (answers n) ≡ false
        → (opened (after n) ≡ []) × (c.allow_unmatched_ends ≡ false → count is_start (answers n) ≡ count is_end (answers n) + count is_mismatch (answers n))
    unfolding entries
    a_page_that_ends_with_eof_and_no_refusal_is_whole n e u s =
        let z = none_open n e u s in
        let l : length (opened (after n)) ≡ 0 = entries_length (after n).stack (after n).reader.depth.0 ∙ z in
        (ap (entries (after n).stack) z, λ refused. omega (arith, starts_are_ends_mismatches_and_open doc stack c short refused n))
