-- A loop over calls has what the run has, call by call, by the reader's promise alone. Assumes nothing.
use Prim.Native.Nat.{ℕ, zero, suc, ◌+◌, ◌≤◌, ◌<◌, ◌^◌}
use native.Mathlib.Omega.{arith}
use native.Mathlib.Numerals.{add-one}
use mathlib.Core.Path.{◌≡◌, refl, sym, ap, ◌∙◌}
use mathlib.Core.Bool.{Bool}
use mathlib.Core.List.{List}
use lib.ListN.{length}
use lib.Dec.{eqb}
use mir.Syntax.{w64}
use mir.Val.{Fits}
use borrow.Author.Rules.{rules}
use Rattle.ground.specs.Choose.{pick}
use Rattle.ground.proofs.Choices.{pick_cases}
use Rattle.state.specs.declared.config.Config.{Config}
use Rattle.state.specs.declared.answer.Kind.{Kind}
use Rattle.state.specs.declared.answer.Answer.{Answer}
use Rattle.state.specs.declared.answer.Refusal.{Refusal}
use Rattle.state.specs.declared.answer.Values.{Values}
use Rattle.state.specs.declared.run.Reader.{Reader}
use Rattle.state.specs.declared.run.Step.{Step}
use Rattle.state.specs.declared.run.Made.{Made}
use Rattle.state.specs.Values.{kind_number, values_of}
use Rattle.state.specs.Make.{fresh, made}
use Rattle.reader.specs.Names.{written}
use Rattle.reader.specs.Step.{step, Stepped}
use Rattle.demands.specs.Run.{said, call, run}
use Rattle.demands.proofs.Demand1.{a_reader_made_is_a_run's}
use Rattle.demands.specs.Answers.{is_start, is_end, is_mismatch, count}
use Rattle.tally.specs.declared.Tallied.{Tallied}
use Rattle.tally.specs.Tally.{budget, tallied, left_stack, Summed}

-- ---- how many of some answers

-- a test adds 1 at most
most_one : (t : Bool) → pick t 1 0 ≤ 1
most_one t = pick_cases (λ (n : ℕ). n ≤ 1) t 1 0 (λ e. omega arith) (λ e. omega arith)

run_more : (doc stack : List ℕ) (c : Config) (i : ℕ) → run doc stack c (i + 1) ≡ call doc (run doc stack c i)
unfolding run
run_more doc stack c i = rw (add-one i)

module _ (is : Answer → Bool) (doc stack : List ℕ) (c : Config) where
  -- no more than calls
  pub few : (i : ℕ) → count is (run doc stack c i).answers ≤ i
  unfolding run call count
  few zero = omega arith
  few (suc i) = omega (arith, few i, most_one (is (said doc (run doc stack c i))))

  count_none : 0 ≡ count is (run doc stack c 0).answers
  unfolding run count
  count_none = refl

  module _ (i n x : ℕ) (h : n ≡ count is (run doc stack c i).answers) where
    count_more : x ≡ pick (is (said doc (run doc stack c i))) 1 0 → n + x ≡ count is (run doc stack c (i + 1)).answers
    unfolding call count
    count_more e = rw (run_more doc stack c i) (omega arith)

    -- while calls are left, one more is a number of 64 bits
    pub count_fits : (calls : ℕ) (t : Bool) → x ≡ pick t 1 0 → i < calls → calls < 2 ^ 64 → Fits w64 (n + x)
    count_fits calls t e l f = record { fits = omega (arith, few i, most_one t) }

-- ---- a loop over calls

-- what it has after i calls
pub record Going (doc stack₀ : List ℕ) (c : Config) (i : ℕ) (stack : List ℕ) (r : Reader) (starts ends wrongs : ℕ) : Type 0 where
  pub reader : r ≡ (run doc stack₀ c i).reader
  pub slots : stack ≡ (run doc stack₀ c i).stack
  pub openings : starts ≡ count is_start (run doc stack₀ c i).answers
  pub closings : ends ≡ count is_end (run doc stack₀ c i).answers
  pub mismatches : wrongs ≡ count is_mismatch (run doc stack₀ c i).answers

-- one call more, where the counts are added to as the answer's values say
pub going_on : (doc stack₀ stack after : List ℕ) (c : Config) (r : Reader) (s : Step) (v : Values) (i starts ends wrongs start end x y z : ℕ)
    → x ≡ pick (eqb v.kind start) 1 0
    → y ≡ pick (eqb v.kind end) 1 0
    → z ≡ pick (eqb v.number 10) 1 0
    → start ≡ kind_number Kind.Start
    → end ≡ kind_number Kind.End
    → v ≡ values_of s.answer
    → Stepped doc stack r s after
    → Going doc stack₀ c i stack r starts ends wrongs
    → Going doc stack₀ c (i + 1) after s.reader (starts + x) (ends + y) (wrongs + z)
unfolding call
going_on doc stack₀ stack after c r s v i starts ends wrongs start end x y z ex ey ez es ee ev p g =
    let w = run doc stack₀ c i in
    let e : s ≡ step doc w.stack w.reader = p.outcome ∙ rw (g.reader, g.slots) in
    let f : after ≡ written w.stack w.reader.depth.0 (said doc w) = p.slots ∙ rw (g.reader, g.slots) in
    let u : v ≡ values_of (said doc w) = ev ∙ ap (λ (t : Step). values_of t.answer) e in
    record {
      reader = rw (run_more doc stack₀ c i) (ap (λ (t : Step). t.reader) e);
      slots = rw (run_more doc stack₀ c i) f;
      openings = count_more is_start doc stack₀ c i starts x g.openings (ex ∙ rw (u, es));
      closings = count_more is_end doc stack₀ c i ends y g.closings (ey ∙ rw (u, ee));
      mismatches = count_more is_mismatch doc stack₀ c i wrongs z g.mismatches (ez ∙ rw u);
    }

-- ---- a reader is made, or none

module _ (doc stack : List ℕ) (c : Config) (m : Made) (e : m ≡ made (length doc) c) where
  pub summed_none : (x : Refusal) → m ≡ Made.Refused x → Summed doc stack c (Tallied.Refused x) stack
  unfolding tallied left_stack
  summed_none x h = let f : made (length doc) c ≡ Made.Refused x = sym e ∙ h in record { outcome = rw f; slots = rw f }

  module _ (first : Reader) (h : m ≡ Made.Fresh first) where
    is_fresh : first ≡ fresh (length doc) c
    unfolding run
    is_fresh = (a_reader_made_is_a_run's doc stack c first (sym e ∙ h)).1

    -- before the first call
    pub going_first : Going doc stack first.settings 0 stack first 0 0 0
    unfolding run fresh
    going_first =
        rw is_fresh record {
          reader = refl;
          slots = refl;
          openings = count_none is_start doc stack c;
          closings = count_none is_end doc stack c;
          mismatches = count_none is_mismatch doc stack c;
        }

    -- after the last
    pub summed_whole : (i : ℕ) (after : List ℕ) (r : Reader) (starts ends wrongs : ℕ)
        → Going doc stack first.settings i after r starts ends wrongs
        → i ≤ budget doc
        → budget doc ≤ i
        → Summed doc stack c (Tallied.Counted record { openings = starts; closings = ends; mismatches = wrongs; depth = r.depth }) after
    unfolding tallied left_stack fresh
    summed_whole i after r starts ends wrongs g low high =
        let f : made (length doc) c ≡ Made.Fresh first = sym e ∙ h in
        let n : i ≡ budget doc = omega arith in
        let k : first.settings ≡ c = ap (λ (t : Reader). t.settings) is_fresh in
        let t = rw (k, n) at g in
        record { outcome = rw f (cc); slots = rw f t.slots }

pub ruleset call_turns = (rules, count_fits, going_on, summed_none, going_first, summed_whole)
