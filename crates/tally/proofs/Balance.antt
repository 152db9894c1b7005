-- What a caller knows of the counts, from the promise and the demands alone. Assumes nothing.
use Prim.Native.Nat.{ℕ, zero, suc, ◌+◌, ◌≤◌}
use mathlib.Core.Path.{◌≡◌, refl, sym, ap, ◌∙◌}
use mathlib.Core.List.{List}
use mathlib.Core.Bool.{Bool, true, false}
use native.Mathlib.Nat.{zero-add, suc-add}
use native.Mathlib.Omega.{arith}
use lib.ListN.{length}
use borrow.Author.Tests.{eqb-true, ne_eqb}
use Rattle.ground.specs.Choose.{pick}
use Rattle.state.specs.declared.config.Config.{Config}
use Rattle.state.specs.declared.answer.Kind.{Kind}
use Rattle.state.specs.declared.answer.Answer.{Answer}
use Rattle.state.specs.declared.run.Made.{Made}
use Rattle.state.specs.Limits.{longest}
use Rattle.state.specs.Make.{made}
use Rattle.state.specs.Values.{kind_number, values_of}
use Rattle.state.proofs.Numbers.{no_number}
use Rattle.demands.specs.Run.{World, said, call, run, AtRest}
use Rattle.demands.specs.Answers.{is_start, is_end, is_eof, is_mismatch, count}
use Rattle.demands.proofs.Demand1.{a_reader_made_is_a_run's, eof_by_length_and_two, eof_stays}
use Rattle.demands.proofs.Demand3.{starts_are_ends_mismatches_and_open, as_many_as_the_depth}
use Rattle.tally.specs.declared.Counts.{Counts}
use Rattle.tally.specs.declared.Tallied.{Tallied}
use Rattle.tally.specs.Tally.{budget, counts, after_all, tallied_as, tallied}

-- an Eof is none of the answers that are counted
module _ (a : Answer) (e : is_eof a ≡ true) where
  is_eof_lem : (values_of a).kind ≡ kind_number Kind.Eof
  is_eof_lem = eqb-true (values_of a).kind (kind_number Kind.Eof) e

  no_start : is_start a ≡ false
  no_start = ne_eqb (values_of a).kind (kind_number Kind.Start) (λ k. omega (arith, is_eof_lem))

  no_end : is_end a ≡ false
  no_end = ne_eqb (values_of a).kind (kind_number Kind.End) (λ k. omega (arith, is_eof_lem))

  no_mismatch : is_mismatch a ≡ false
  no_mismatch = let n = no_number a (omega (arith, is_eof_lem)) in ne_eqb (values_of a).number 10 (λ k. omega arith)

-- what is counted is counted of a run over a document within the limit
module _ (doc stack : List ℕ) (c : Config) where
  counted : (m : Made) → m ≡ made (length doc) c → (x : Counts) → tallied_as doc stack c m ≡ Tallied.Counted x → (length doc ≤ longest) × (counts (after_all doc stack c) ≡ x)
  counted (Made.Fresh r) e x h = ((a_reader_made_is_a_run's doc stack c r (sym e)).0, cc)
  counted (Made.Refused y) e x h = let z : ◌≡◌ {A = ℕ} 0 1 = cc in absurd (omega arith)

  -- THEOREM: of what `tally` counts, where unmatched ends are refused: every opening is closed, mismatched or still open
  pub every_opening_is_accounted_for : (x : Counts) → tallied doc stack c ≡ Tallied.Counted x → c.allow_unmatched_ends ≡ false
      → x.openings ≡ x.closings + x.mismatches + x.depth.0
  unfolding tallied
  every_opening_is_accounted_for x h off =
      let w = counted (made (length doc) c) refl x h in
      rw (← w.1)
      (omega (
        arith,
        starts_are_ends_mismatches_and_open doc stack c w.0 off (length doc + 2),
        as_many_as_the_depth doc stack c w.0 (length doc + 2),
      ))

module _ (doc stack : List ℕ) (c : Config) (short : length doc ≤ longest) where
  abbrev later : ℕ → World
  later k = run doc stack c (k + budget doc)

  at_rest : (k : ℕ) → AtRest doc (after_all doc stack c) (later k)
  at_rest k =
      let b : budget doc ≡ suc (length doc + 1) = omega arith in
      rw b (eof_stays doc stack c short (length doc + 1) (eof_by_length_and_two doc stack c short) k)

  module _ (is : Answer → Bool) (none : (a : Answer) → is_eof a ≡ true → is a ≡ false) where
    next_count : (n : ℕ) → is (said doc (run doc stack c n)) ≡ false → count is (run doc stack c (suc n)).answers ≡ count is (run doc stack c n).answers
    unfolding run call count
    next_count n e = ap (λ (t : Bool). pick t 1 0 + count is (run doc stack c n).answers) e ∙ zero-add _

    count_stays : (k : ℕ) → count is (later k).answers ≡ count is (after_all doc stack c).answers
    count_stays zero = rw (zero-add (budget doc)) refl
    count_stays (suc k) = rw (suc-add k (budget doc)) (next_count (k + budget doc) (none _ (at_rest k).says) ∙ count_stays k)

  -- THEOREM: calls beyond these count nothing
  pub more_calls_count_nothing : (k : ℕ) → counts (later k) ≡ counts (after_all doc stack c)
  more_calls_count_nothing k =
      rw (
        count_stays is_start no_start k,
        count_stays is_end no_end k,
        count_stays is_mismatch no_mismatch k,
        (at_rest k).reader,
      )
