-- From the code to the theorems: a call on a lent reader is one of `advance`, so what holds of those holds here. Assumes nothing.
use Prim.Native.Nat.{ℕ, ◌≤◌}
use mathlib.Core.Path.{◌≡◌}
use mathlib.Core.List.{List}
use lib.ListN.{length}
use Rattle.state.specs.declared.config.Config.{Config}
use Rattle.state.specs.declared.answer.Answer.{Answer}
use Rattle.state.specs.declared.run.Reader.{Reader}
use Rattle.state.specs.Limits.{longest}
use Rattle.demands.specs.Run.{World, call, run}
use Rattle.demands.specs.Calls.{Advances, onward, Calls}
use Rattle.demands.proofs.Joined.{a_call_that_meets_its_promise_is_the_run's, calls_are_a_run}
use Rattle.host.specs.Read.{Read}

-- THEOREM: what meets the promise of `read_event` meets that of `advance`
pub a_read_is_an_advance : Advances Read
a_read_is_an_advance doc stack before answer after left p = record { outcome = rw (p.said, p.moved); slots = p.slots }

-- THEOREM
pub a_read_that_meets_its_promise_is_the_run's : (doc : List ℕ) (w : World) (answer : Answer) (reader : Reader) (left : List ℕ)
    → Read doc w.stack w.reader answer reader left → onward w answer reader left ≡ call doc w
a_read_that_meets_its_promise_is_the_run's doc w answer reader left p =
    a_call_that_meets_its_promise_is_the_run's doc w _ left (a_read_is_an_advance doc _ _ answer reader left p)

-- THEOREM: any number of reads, each on what the one before left, are a run
pub reads_are_a_run : (doc stack : List ℕ) (c : Config) {n : ℕ} {w : World} → Calls Read doc stack c n w → (length doc ≤ longest) × (w ≡ run doc stack c n)
reads_are_a_run = calls_are_a_run Read a_read_is_an_advance
