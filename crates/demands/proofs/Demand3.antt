-- DEMAND 3: no opening is lost and none is closed twice. Any number of calls from a fresh reader, over any document within the limit, any lent stack and
-- unchanged bytes, stack and settings. A clause that speaks of end checks or of unmatched ends says so; the others hold with any settings.
-- Assumes nothing.
use Prim.Native.Nat.{ℕ, zero, suc, ◌+◌, ◌≤◌}
use mathlib.Core.Path.{◌≡◌, refl, sym, ap, ◌∙◌}
use mathlib.Core.List.{List, [], ◌∷◌}
use mathlib.Core.Bool.{true, false}
use mathlib.Core.Logic.{◌⊎◌, inl, inr}
use native.Mathlib.Omega.{arith}
use lib.ListN.{length, get_or, take}
use borrow.Author.Tests.{ne_eqb, eqb-false}
use Rattle.ground.specs.Bytes.{lt}
use Rattle.ground.specs.Equal.{begins}
use Rattle.ground.specs.Part.{part}
use Rattle.ground.proofs.Choices.{clash, pick_cases}
use Rattle.ground.proofs.Equal.{begins_first}
use Rattle.ground.proofs.Lists.{part_first, part_next}
use Rattle.white.specs.White.{name_len}
use Rattle.state.specs.declared.config.Config.{Config}
use Rattle.state.specs.declared.answer.Kind.{Kind}
use Rattle.state.specs.declared.answer.Answer.{Answer}
use Rattle.state.specs.Limits.{longest}
use Rattle.state.specs.Values.{kind_number, values_of}
use Rattle.state.specs.Make.{fresh}
use Rattle.reader.specs.Names.{name_of, bytes}
use Rattle.reader.specs.Step.{step}
use Rattle.reader.proofs.Outside.{name_fits}
use Rattle.demands.specs.Run.{World, said, call, run}
use Rattle.demands.specs.Answers.{is_start, is_end, is_mismatch, is_unmatched, count}
use Rattle.demands.specs.Open.{entries, opened, newest, left_open, strays}
use Rattle.demands.proofs.Held.{other_writes, entries_length, held_turn, run_held}
use Rattle.demands.proofs.Clauses.{Closing, Straying, tally, does, setting, at_start, tag_at_start, at_no_start, at_end, at_mismatch, at_unmatched, at_others}

module _ (doc stack : List ℕ) (c : Config) (short : length doc ≤ longest) (n : ℕ) where
  -- after n calls, after one more, and what that one answers
  abbrev before : World
  before = run doc stack c n

  abbrev after : World
  after = run doc stack c (suc n)

  abbrev answer : Answer
  answer = said doc before

  in_document : (step doc before.stack before.reader).reader.position.0 ≤ length doc
  in_document = let t = held_turn doc c short before (run_held doc c short stack n) in omega (arith, t.left, t.within)

  -- THEOREM: "each Start adds its own name"
  pub start_adds_its_name : is_start answer ≡ true → opened after ≡ name_of answer ∷ opened before
  unfolding run
  start_adds_its_name e = at_start doc stack c short n e

  -- THEOREM: that is the name of its tag: the bytes of its content before the first white space
  pub the_name_is_its_tag's : is_start answer ≡ true
      → bytes doc (name_of answer) ≡ take (name_len (bytes doc (values_of answer).content)) (bytes doc (values_of answer).content)
  the_name_is_its_tag's e =
      let t = tag_at_start doc stack c short n e in
      rw (← t.named) (part_first doc _ _ _ t.ordered (omega (arith, t.within, in_document)) (name_fits doc _ t))

  -- THEOREM: its tag, the answer's piece, begins with `<`, and the name stands right after it
  pub the_name_stands_right_after_the_lt : is_start answer ≡ true
      → (get_or doc (values_of answer).piece.from 0 ≡ lt) × ((name_of answer).from ≡ (values_of answer).piece.from + 1)
  the_name_stands_right_after_the_lt e = let t = tag_at_start doc stack c short n e in (t.opens, t.starts)

  -- THEOREM: so the bytes of the tag are `<`, the name and a rest
  pub its_tag_begins_with_lt_and_the_name : is_start answer ≡ true
      → begins (bytes doc (values_of answer).piece) (lt ∷ bytes doc (name_of answer)) ≡ true
  its_tag_begins_with_lt_and_the_name e =
      let t = tag_at_start doc stack c short n e in
      let turn = held_turn doc c short before (run_held doc c short stack n) in
      let fits = name_fits doc _ t in
      let from : ℕ = (values_of answer).piece.from in
      let to : ℕ = (values_of answer).piece.to in
      let name : bytes doc (name_of answer) ≡ take (values_of answer).name (part doc (from + 1) to) =
      rw t.starts (part_first doc (from + 1) to (values_of answer).name (omega arith) turn.within (omega arith)) in
      rw (part_next doc from to (omega arith) turn.within, t.opens, name) (begins_first lt (values_of answer).name (part doc (from + 1) to))

  -- THEOREM: "and nothing else adds one": what is open after it was open before
  pub nothing_else_adds : is_start answer ≡ false → (opened after ≡ opened before) ⊎ (opened before ≡ newest before ∷ opened after)
  unfolding run
  nothing_else_adds e = at_no_start doc stack c short n e

  module _ (unmatched-refused : c.allow_unmatched_ends ≡ false) where
    closing : is_end answer ≡ true → Closing doc before
    closing e = by (at_end doc stack c short n e)
      where
        by : Closing doc before ⊎ Straying doc before → Closing doc before
        by (inl x) = x
        by (inr x) = clash _ x.allowed (setting doc stack c short n (λ (s : Config). s.allow_unmatched_ends) false unmatched-refused)

    -- THEOREM: "each End takes away the latest name still open"
    pub end_takes_the_latest : is_end answer ≡ true → opened before ≡ newest before ∷ opened after
    unfolding run
    end_takes_the_latest e = (closing e).takes

    -- THEOREM: "and carries its bytes"
    pub end_carries_its_bytes : c.check_end_names ≡ true → is_end answer ≡ true → bytes doc (values_of answer).content ≡ bytes doc (newest before)
    end_carries_its_bytes on e = (closing e).carries (setting doc stack c short n (λ (s : Config). s.check_end_names) true on)

  -- THEOREM: "a mismatch takes it away and gives no End"
  pub mismatch_takes_the_latest : is_mismatch answer ≡ true → (opened before ≡ newest before ∷ opened after) × (is_end answer ≡ false)
  unfolding run
  mismatch_takes_the_latest e = ((at_mismatch doc stack c short n e).takes, (at_mismatch doc stack c short n e).no_end)

  -- THEOREM: it tells the two names, whose bytes differ
  pub mismatch_tells_both : is_mismatch answer ≡ true
      → ((values_of answer).expected ≡ newest before) × (bytes doc (values_of answer).found ≡ bytes doc (newest before) → ⊥)
  mismatch_tells_both e = ((at_mismatch doc stack c short n e).expects, (at_mismatch doc stack c short n e).differs)

  -- THEOREM: "an unmatched end is refused only with nothing open"
  pub unmatched_with_nothing_open : is_unmatched answer ≡ true → opened before ≡ []
  unmatched_with_nothing_open e = (at_unmatched doc stack c short n e).0

  -- THEOREM: "no other answer takes a name away"
  pub no_other_takes_a_name : is_start answer ≡ false → is_end answer ≡ false → is_mismatch answer ≡ false → opened after ≡ opened before
  unfolding run
  no_other_takes_a_name s e m = at_others doc stack c short n s e m

  -- THEOREM: only a Start writes on the stack
  pub only_a_start_writes : is_start answer ≡ false → after.stack ≡ before.stack
  unfolding run call
  only_a_start_writes e =
      other_writes answer before.stack before.reader.depth.0 (eqb-false (values_of answer).kind (kind_number Kind.Start) e)

  -- THEOREM: "the open names in order are those that the answers given so far say"
  pub open_names_are_those_told : opened before ≡ left_open before.answers
  open_names_are_those_told = (run_held doc c short stack n).names

  -- THEOREM: there are as many as the reader's depth
  pub as_many_as_the_depth : length (opened before) ≡ before.reader.depth.0
  as_many_as_the_depth = entries_length before.stack before.reader.depth.0

module _ (doc stack : List ℕ) (c : Config) (short : length doc ≤ longest) where
  abbrev answers : ℕ → List Answer
  answers n = (run doc stack c n).answers

  -- THEOREM: with any settings, as many Starts and Ends with nothing open as Ends, mismatches and open names
  pub all_counts : (n : ℕ)
      → count is_start (answers n) + strays (answers n) ≡ count is_end (answers n) + count is_mismatch (answers n) + length (opened (run doc stack c n))
  unfolding run call count strays fresh entries
  all_counts zero = refl
  all_counts (suc n) =
      let w = run doc stack c n in
      omega (arith, all_counts n, tally doc w (run_held doc c short stack n).names (does doc stack c short n))

  module _ (unmatched-refused : c.allow_unmatched_ends ≡ false) where
    -- an End with nothing open does not come
    pub no_strays : (n : ℕ) → strays (answers n) ≡ 0
    unfolding run call strays
    no_strays zero = refl
    no_strays (suc n) =
        let w = run doc stack c n in
        rw (no_strays n)
        (pick_cases (λ (k : ℕ). k + 0 ≡ 0) (is_end (said doc w)) _ _
        (λ e. let some = (closing doc stack c short n unmatched-refused e).takes in
        let o : length (left_open w.answers) ≡ 0 → ⊥ = λ z. omega (arith, ap length (sym (run_held doc c short stack n).names ∙ some)) in
        rw (ne_eqb (length (left_open w.answers)) 0 o) refl)
        (λ _. refl))

    -- THEOREM: "Starts = Ends + mismatches + names open"
    pub starts_are_ends_mismatches_and_open : (n : ℕ)
        → count is_start (answers n) ≡ count is_end (answers n) + count is_mismatch (answers n) + length (opened (run doc stack c n))
    starts_are_ends_mismatches_and_open n = omega (arith, all_counts n, no_strays n)
