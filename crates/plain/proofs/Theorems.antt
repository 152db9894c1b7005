-- The plain engine and the reader are equal (document 02, M-112): "On every input and setting, and for every call, its answers and the state left equal the main
-- reader's, refusals and their places included." Assumes nothing.
use Prim.Native.Nat.{ℕ, zero, suc}
use mathlib.Core.Path.{◌≡◌, refl, sym, ap, ◌∙◌}
use mathlib.Core.List.{List}
use mathlib.Core.Logic.{⊎_elim}
use Rattle.state.specs.declared.config.Config.{Config}
use Rattle.state.specs.declared.answer.Answer.{Answer}
use Rattle.state.specs.declared.run.Reader.{Reader}
use Rattle.state.specs.declared.run.Step.{Step}
use Rattle.demands.specs.Calls.{Advances, Calls}
use Rattle.demands.specs.Run.{World, call, run}
use Rattle.demands.proofs.Joined.{a_call_that_meets_its_promise_is_the_run's, calls_are_a_run}
use Rattle.demands.proofs.Pinned.{only_one}
use Rattle.plain.specs.Engines.{ByReader, ByPlain, ByEither, CallsFrom, none, more}

-- THEOREM: one call. Over any document, on any stack and any reader, sound or not, with any settings: what the two answer, the readers and the stacks that they leave are the same
pub the_engines_agree : (doc stack : List ℕ) (r : Reader) (answer answer' : Answer) (after after' : Reader) (left left' : List ℕ)
    → ByReader doc stack r answer after left → ByPlain doc stack r answer' after' left' → (answer ≡ answer') × (after ≡ after') × (left ≡ left')
the_engines_agree doc stack r answer answer' after after' left left' p q =
    let same = only_one doc stack r _ _ left left' p q in
    (ap (λ (s : Step). s.answer) same.0, ap (λ (s : Step). s.reader) same.0, same.1)

-- a call of either keeps the promise of the reader's
either_advances : Advances ByEither
either_advances doc stack before answer after left k = ⊎_elim (λ p. p) (λ p. p) k

-- n calls from anywhere
calls_from : (doc : List ℕ) (start : World) → ℕ → World
calls_from doc start zero = start
calls_from doc start (suc n) = call doc (calls_from doc start n)

they_are : (doc : List ℕ) (start : World) {n : ℕ} {w : World} → CallsFrom ByEither doc start n w → w ≡ calls_from doc start n
unfolding calls_from
they_are doc start none = refl
they_are doc start (more {n} {w} {answer} {reader} {left} before k) =
    a_call_that_meets_its_promise_is_the_run's doc w _ left (either_advances doc _ _ answer reader left k) ∙ ap (call doc) (they_are doc start before)

-- THEOREM: any number of calls, from any reader and stack, each made by either engine: whichever makes which, the answers, the reader and the stack are the same
pub it_does_not_matter_which_engine_makes_a_call : (doc : List ℕ) (start : World) {n : ℕ} {w w' : World}
    → CallsFrom ByEither doc start n w → CallsFrom ByEither doc start n w' → w ≡ w'
it_does_not_matter_which_engine_makes_a_call doc start a b = they_are doc start a ∙ sym (they_are doc start b)

-- THEOREM: from a fresh reader such calls are a run, so that every theorem of the demands holds of the plain engine, and of both together
pub calls_of_either_engine_are_a_run : (doc stack : List ℕ) (c : Config) {n : ℕ} {w : World} → Calls ByEither doc stack c n w → w ≡ run doc stack c n
calls_of_either_engine_are_a_run doc stack c calls = (calls_are_a_run ByEither either_advances doc stack c calls).1
