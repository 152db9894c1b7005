-- What follows with settings other than those of demand 3, and of expanded empty elements. The clauses of Demand3 that name no setting hold here too.
-- Assumes nothing.
use Prim.Native.Nat.{ℕ, suc, ◌≤◌}
use mathlib.Core.Path.{◌≡◌, sym, ap, ◌∙◌}
use mathlib.Core.List.{List, [], ◌∷◌}
use mathlib.Core.Bool.{true, false}
use mathlib.Core.Logic.{◌⊎◌, inl, inr}
use native.Mathlib.Omega.{arith}
use lib.ListN.{length, get_or}
use Rattle.ground.proofs.Choices.{clash, must_fail}
use Rattle.state.specs.declared.place.Span.{Span}
use Rattle.state.specs.declared.config.Config.{Config}
use Rattle.state.specs.declared.answer.Answer.{Answer}
use Rattle.state.specs.declared.run.Phase.{Phase}
use Rattle.state.specs.declared.run.Step.{Step}
use Rattle.state.specs.Limits.{longest}
use Rattle.state.specs.Place.{span}
use Rattle.state.specs.Values.{values_of}
use Rattle.state.specs.Make.{with_depth, told}
use Rattle.emit.specs.End.{end_event, close_expanded_empty}
use Rattle.emit.specs.Start.{slashed}
use Rattle.reader.specs.Names.{name_of, bytes}
use Rattle.reader.specs.Step.{step_phase, step}
use Rattle.demands.specs.Run.{World, said, call, run}
use Rattle.demands.specs.Answers.{is_start, is_end, is_mismatch, is_unmatched}
use Rattle.demands.specs.Open.{opened, newest, rest}
use Rattle.demands.proofs.Clauses.{Closing, Straying, setting, tag_at_start, at_end, at_mismatch, at_unmatched}
use Rattle.demands.proofs.Demand1.{turn, every_state_is_sound}
use Rattle.demands.proofs.Demand3.{start_adds_its_name}

module _ (doc stack : List ℕ) (c : Config) (short : length doc ≤ longest) (n : ℕ) where
  abbrev before : World
  before = run doc stack c n

  abbrev after : World
  after = run doc stack c (suc n)

  abbrev answer : Answer
  answer = said doc before

  -- THEOREM: any settings: an End takes the latest name away, or nothing is open before and after it
  pub end_takes_or_strays : is_end answer ≡ true → (opened before ≡ newest before ∷ opened after) ⊎ ((opened before ≡ []) × (opened after ≡ []))
  unfolding run
  end_takes_or_strays e = by (at_end doc stack c short n e)
    where
      by : Closing doc before ⊎ Straying doc before
          → (opened before ≡ newest before ∷ opened after) ⊎ ((opened before ≡ []) × (opened after ≡ []))
      by (inl x) = inl x.takes
      by (inr x) = inr (x.none, x.leaves)

  -- THEOREM: with end checks on, an End that finds a name open carries its bytes, though unmatched ends are let through
  pub end_with_a_name_carries_its_bytes : c.check_end_names ≡ true → (opened before ≡ [] → ⊥) → is_end answer ≡ true
      → bytes doc (values_of answer).content ≡ bytes doc (newest before)
  end_with_a_name_carries_its_bytes on some e = by (at_end doc stack c short n e)
    where
      by : Closing doc before ⊎ Straying doc before → bytes doc (values_of answer).content ≡ bytes doc (newest before)
      by (inl x) = x.carries (setting doc stack c short n (λ (s : Config). s.check_end_names) true on)
      by (inr x) = absurd (some x.none)

  -- THEOREM: with end checks off there is no mismatch
  pub no_mismatch_unchecked : c.check_end_names ≡ false → is_mismatch answer ≡ false
  no_mismatch_unchecked off =
      must_fail (is_mismatch answer)
      (λ e. clash _ (at_mismatch doc stack c short n e).checks (setting doc stack c short n (λ (s : Config). s.check_end_names) false off))

  -- THEOREM: where unmatched ends are let through none is refused
  pub none_unmatched_where_allowed : c.allow_unmatched_ends ≡ true → is_unmatched answer ≡ false
  none_unmatched_where_allowed on =
      must_fail (is_unmatched answer)
      (λ e. clash _ (setting doc stack c short n (λ (s : Config). s.allow_unmatched_ends) true on) (at_unmatched doc stack c short n e).1)

-- ---- expanded empty elements

module _ (doc stack : List ℕ) (c : Config) (short : length doc ≤ longest) where
  abbrev at : ℕ → World
  at n = run doc stack c n

  module _ (n : ℕ) (inside : (at n).reader.phase ≡ Phase.InsideEmpty) where
    inside_step : step doc (at n).stack (at n).reader ≡ close_expanded_empty (at n).reader (newest (at n))
    unfolding step step_phase
    inside_step = rw (every_state_is_sound doc stack c short n, inside)

    inside_ends : is_end (said doc (at n)) ≡ true
    unfolding close_expanded_empty end_event told
    inside_ends = ap (λ (s : Step). is_end s.answer) inside_step

    inside_content : (values_of (said doc (at n))).content ≡ newest (at n)
    unfolding close_expanded_empty end_event told
    inside_content = ap (λ (s : Step). (values_of s.answer).content) inside_step

    inside_piece : (values_of (said doc (at n))).piece ≡ span (at n).reader.position.0 (at n).reader.position.0
    unfolding close_expanded_empty end_event told with_depth
    inside_piece = ap (λ (s : Step). (values_of s.answer).piece) inside_step

  -- the first of some names
  abbrev first : List Span → Span
  first ns = get_or ns 0 (span 0 0)

  inside_after : (n : ℕ) → is_start (said doc (at n)) ≡ true → slashed doc (values_of (said doc (at n))).piece ≡ true → (at (suc n)).reader.phase ≡ Phase.InsideEmpty
  unfolding run call
  inside_after n start ends = (tag_at_start doc stack c short n start).expands ends

  -- THEOREM: with any settings, where the tag of a Start ends in `/>`, the next answer is its End, whose content is the Start's own name; then those names are
  -- open that were before the two
  pub expanded_end_has_its_start's_name : (n : ℕ) → is_start (said doc (at n)) ≡ true → slashed doc (values_of (said doc (at n))).piece ≡ true
      → (is_end (said doc (at (suc n))) ≡ true)
      × ((values_of (said doc (at (suc n)))).content ≡ name_of (said doc (at n)))
      × (opened (at (suc (suc n))) ≡ opened (at n))
  expanded_end_has_its_start's_name n start ends =
      let inside = inside_after n start ends in
      by inside (start_adds_its_name doc stack c short n start) (end_takes_or_strays doc stack c short (suc n) (inside_ends (suc n) inside))
    where
      by : (at (suc n)).reader.phase ≡ Phase.InsideEmpty
          → opened (at (suc n)) ≡ name_of (said doc (at n)) ∷ opened (at n)
          → (opened (at (suc n)) ≡ newest (at (suc n)) ∷ opened (at (suc (suc n)))) ⊎ ((opened (at (suc n)) ≡ []) × (opened (at (suc (suc n))) ≡ []))
          → (is_end (said doc (at (suc n))) ≡ true)
          × ((values_of (said doc (at (suc n)))).content ≡ name_of (said doc (at n)))
          × (opened (at (suc (suc n))) ≡ opened (at n))
      by inside adds (inl takes) =
          let same = sym takes ∙ adds in
          (inside_ends (suc n) inside, inside_content (suc n) inside ∙ ap first same, ap rest same)
      by inside adds (inr none) = let z : ◌≡◌ {A = ℕ} 0 (suc (length (opened (at n)))) = ap length (sym none.0 ∙ adds) in absurd (omega arith)

  -- THEOREM: "the End of an expanded empty has an empty piece", where its Start's piece ends
  pub expanded_end_has_an_empty_piece : (n : ℕ) → is_start (said doc (at n)) ≡ true → slashed doc (values_of (said doc (at n))).piece ≡ true
      → (values_of (said doc (at (suc n)))).piece ≡ span (values_of (said doc (at n))).piece.to (values_of (said doc (at n))).piece.to
  unfolding run call
  expanded_end_has_an_empty_piece n start ends =
      inside_piece (suc n) (inside_after n start ends) ∙ ap (λ (p : ℕ). span p p) (turn doc stack c short n).left
