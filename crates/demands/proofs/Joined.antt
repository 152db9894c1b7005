-- From the code to the theorems: calls that meet their promise, each on what the one before left, are a run. Assumes nothing.
use Prim.Native.Nat.{ℕ, zero, suc, ◌+◌, ◌-◌, ◌≤◌}
use mathlib.Core.Path.{◌≡◌, refl, sym, ap, ◌∙◌, subst}
use mathlib.Core.Bool.{true, false}
use mathlib.Core.List.{List, []}
use native.Mathlib.Nat.{zero-add}
use native.Mathlib.Omega.{arith}
use lib.ListN.{length}
use Rattle.ground.proofs.Choices.{pick_nlt}
use Rattle.state.specs.declared.config.Config.{Config}
use Rattle.state.specs.declared.answer.Answer.{Answer}
use Rattle.state.specs.declared.run.Reader.{Reader}
use Rattle.state.specs.declared.run.Step.{Step}
use Rattle.state.specs.Limits.{longest}
use Rattle.state.specs.Make.{fresh, made}
use Rattle.reader.specs.Step.{Stepped}
use Rattle.demands.specs.Run.{World, said, call, run}
use Rattle.demands.specs.Answers.{is_start, is_end, is_eof, is_mismatch, count, latest_is}
use Rattle.demands.specs.Calls.{Promise, Advanced, Advances, onward, Calls, none, more}
use Rattle.demands.specs.Open.{opened}
use Rattle.demands.proofs.Demand1.{a_reader_made_is_a_run's, eof_by_length_and_two, eof_stays}
use Rattle.demands.proofs.Demand3.{starts_are_ends_mismatches_and_open}

-- THEOREM: one call
pub a_call_that_meets_its_promise_is_the_run's : (doc : List ℕ) (w : World) (s : Step) (left : List ℕ)
    → Stepped doc w.stack w.reader s left → onward w s.answer s.reader left ≡ call doc w
unfolding call
a_call_that_meets_its_promise_is_the_run's doc w s left p = rw (p.outcome, p.slots)

-- from call number length + 2 on every call of a run answers Eof
module _ (doc stack : List ℕ) (c : Config) (short : length doc ≤ longest) where
  eof_from : (k : ℕ) → is_eof (said doc (run doc stack c (k + (length doc + 1)))) ≡ true
  eof_from zero = rw (zero-add (length doc + 1)) (eof_by_length_and_two doc stack c short)
  eof_from (suc k) =
      let e : suc k + (length doc + 1) ≡ k + suc (length doc + 1) = omega arith in
      rw e (eof_stays doc stack c short (length doc + 1) (eof_by_length_and_two doc stack c short) k).says

  pub latest_eof : (n : ℕ) → length doc + 2 ≤ n → latest_is is_eof (run doc stack c n).answers ≡ true
  unfolding run call
  latest_eof zero h = absurd (omega arith)
  latest_eof (suc n) h =
      let e : n - (length doc + 1) + (length doc + 1) ≡ n = omega arith in
      rw e at (eof_from (n - (length doc + 1)))

-- `advance` keeps its own promise
pub advance_advances : Advances Advanced
advance_advances doc stack before answer after left kept = kept

-- THEOREM: a run is calls of `advance`: over a document within the limit there are n of them, for any n
pub a_run_is_calls : (doc stack : List ℕ) (c : Config) → length doc ≤ longest → (n : ℕ) → Calls Advanced doc stack c n (run doc stack c n)
unfolding run call made
a_run_is_calls doc stack c short zero = none (fresh (length doc) c) (sym (pick_nlt _ _ _ _ _ short refl))
a_run_is_calls doc stack c short (suc n) = more (a_run_is_calls doc stack c short n) (record { outcome = refl; slots = refl })

module _ (Kept : Promise) (advances : Advances Kept) (doc stack : List ℕ) (c : Config) where
  -- THEOREM: n calls stand where the run stands, with its answers, and the document is within the limit
  pub calls_are_a_run : {n : ℕ} {w : World} → Calls Kept doc stack c n w → (length doc ≤ longest) × (w ≡ run doc stack c n)
  unfolding run
  calls_are_a_run (none r e) = let m = a_reader_made_is_a_run's doc stack c r e in (m.0, ap (λ (x : Reader). record { reader = x; stack = stack; answers = [] }) m.1)
  calls_are_a_run (more {n} {w} {answer} {reader} {left} before k) =
      let h = calls_are_a_run before in
      (h.0, a_call_that_meets_its_promise_is_the_run's doc w _ left (advances doc _ _ answer reader left k) ∙ ap (call doc) h.1)

  -- THEOREM: so what holds of every run holds of calls
  pub what_holds_of_a_run_holds_of_calls : (P : World → Type 0) {n : ℕ} {w : World} → Calls Kept doc stack c n w → (length doc ≤ longest → P (run doc stack c n)) → P w
  what_holds_of_a_run_holds_of_calls P calls h = let r = calls_are_a_run calls in subst P (sym r.1) (h r.0)

  -- THEOREM: and what holds of the next call of every run, of what stands before it, its answer and what stands after it, holds of the next call
  pub what_holds_of_a_run's_next_call_holds_of_the_next : (P : World → Answer → World → Type 0) {n : ℕ} {before : World} {answer : Answer} {reader : Reader} {left : List ℕ}
      → Calls Kept doc stack c n before → Kept doc before.stack before.reader answer reader left
      → (length doc ≤ longest → P (run doc stack c n) (said doc (run doc stack c n)) (run doc stack c (suc n))) → P before answer (onward before answer reader left)
  unfolding run call
  what_holds_of_a_run's_next_call_holds_of_the_next P {n} {before} {answer} {reader} {left} calls k h =
      let p = advances doc _ _ answer reader left k in
      let now = a_call_that_meets_its_promise_is_the_run's doc before _ left p in
      let at-run : P before (said doc before) (call doc before) = what_holds_of_a_run_holds_of_calls (λ (w : World). P w (said doc w) (call doc w)) calls h in
      let said-so : answer ≡ said doc before = ap (λ (s : Step). s.answer) p.outcome in
      rw (now, said-so) at-run

  -- ---- the demands over calls, with no step left to the reader

  -- THEOREM: "end of file comes by call number length + 2", and stays
  pub after_length_and_two_calls_the_latest_answer_is_eof : {n : ℕ} {w : World} → Calls Kept doc stack c n w → length doc + 2 ≤ n → latest_is is_eof w.answers ≡ true
  after_length_and_two_calls_the_latest_answer_is_eof {n} calls enough =
      what_holds_of_a_run_holds_of_calls (λ (w : World). latest_is is_eof w.answers ≡ true) calls (λ short. latest_eof doc stack c short n enough)

  -- THEOREM: "Starts = Ends + mismatches + names open"
  pub starts_are_ends_mismatches_and_open_over_calls : {n : ℕ} {w : World} → Calls Kept doc stack c n w → c.allow_unmatched_ends ≡ false
      → count is_start w.answers ≡ count is_end w.answers + count is_mismatch w.answers + length (opened w)
  starts_are_ends_mismatches_and_open_over_calls {n} calls off =
      what_holds_of_a_run_holds_of_calls (λ (w : World). count is_start w.answers ≡ count is_end w.answers + count is_mismatch w.answers + length (opened w)) calls
      (λ short. starts_are_ends_mismatches_and_open doc stack c short off n)
