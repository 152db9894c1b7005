-- When a comment is refused for its hyphens, and where, in the words of documents 01 and 02. Assumes nothing.
use Prim.Native.Nat.{ℕ, ◌-◌}
use mathlib.Core.Path.{◌≡◌, refl}
use mathlib.Core.List.{List}
use mathlib.Core.Bool.{true}
use mathlib.Core.Logic.{◌↔◌}
use native.Mathlib.Omega.{arith}
use lib.ListN.{drop}
use lib.Dec.{ltb}
use borrow.Author.Tests.{ltb-true, ltb-false}
use Rattle.ground.specs.Equal.{begins}
use Rattle.ground.proofs.Choices.{pick_cases, clash}
use Rattle.parser.specs.Hyphens.{pair_found}
use Rattle.parser.proofs.Cases.{first_cases}
use Rattle.parser.proofs.Words.{pair_first, pair_behind, pair_nowhere}
use Rattle.state.specs.declared.place.Span.{Span}
use Rattle.state.specs.declared.run.Reader.{Reader}
use Rattle.state.specs.declared.run.Step.{Step}
use Rattle.state.specs.Place.{inner}
use Rattle.state.specs.Make.{told, refused, stopped}
use Rattle.state.specs.Values.{values_of}
use Rattle.emit.specs.Bang.{comment_opener, bang_event, checked_comment, emit_comment, TwoHyphens, FirstPair}

-- the number of a refusal, 0 for an event
abbrev number_of : Step → ℕ
number_of s = (values_of s.answer).number

-- a 9 stands where the first pair does
abbrev Stands : List ℕ → Span → Step → Type 0
Stands doc content s = number_of s ≡ 9 → FirstPair doc content (values_of s.answer).place

module _ (doc : List ℕ) (r : Reader) (piece content : Span) where
  abbrev Right : Step → Type 0
  Right s = (number_of s ≡ 9) ↔ TwoHyphens doc content

  -- THEOREM: 9 exactly where "a content `-` is followed by `-` (the closer's included)"
  pub nine_exactly_for_two_hyphens : ((values_of (checked_comment doc r piece content).answer).number ≡ 9) ↔ TwoHyphens doc content
  unfolding checked_comment bang_event told refused
  nine_exactly_for_two_hyphens =
      first_cases Right (pair_found doc content.from) _ _
      (λ p e. pick_cases Right (ltb content.to p) _ _
      (λ t. (λ n. absurd (omega arith), λ h. absurd (pair_behind doc content.from content.to p e (ltb-true content.to p t) h.0 h.1)))
      (λ t. (λ _. (p - 1, (pair_first doc content.from content.to p e (ltb-false content.to p t)).has), λ _. refl)))
      (λ e. (λ n. absurd (omega arith), λ h. absurd (pair_nowhere doc content.from content.to e h.0 h.1)))

  -- THEOREM: "refusal 9 has as its place the first hyphen of the first pair"
  pub nine_at_the_first_hyphen_of_the_first_pair : (values_of (checked_comment doc r piece content).answer).number ≡ 9
      → FirstPair doc content (values_of (checked_comment doc r piece content).answer).place
  unfolding checked_comment bang_event told refused
  nine_at_the_first_hyphen_of_the_first_pair =
      first_cases (Stands doc content) (pair_found doc content.from) _ _
      (λ p e. pick_cases (Stands doc content) (ltb content.to p) _ _
      (λ t n. absurd (omega arith))
      (λ t n. pair_first doc content.from content.to p e (ltb-false content.to p t)))
      (λ e n. absurd (omega arith))

module _ (doc : List ℕ) (r : Reader) (piece : Span) where
  abbrev Wanted : Step → Type 0
  Wanted s = (number_of s ≡ 9) ↔ ((begins (drop piece.from doc) comment_opener ≡ true) × (r.settings.check_comments ≡ true) × TwoHyphens doc (inner piece 4 3))

  -- THEOREM: "With `check_comments`, a comment is refused (9) if a content `-` is followed by `-`", and only then; a comment opens `<!--`
  pub a_comment_is_refused_exactly_for_two_hyphens : ((values_of (emit_comment doc r piece).answer).number ≡ 9)
      ↔ ((begins (drop piece.from doc) comment_opener ≡ true) × (r.settings.check_comments ≡ true) × TwoHyphens doc (inner piece 4 3))
  unfolding emit_comment bang_event told stopped refused
  a_comment_is_refused_exactly_for_two_hyphens =
      pick_cases Wanted (begins (drop piece.from doc) comment_opener) _ _
      (λ opens. pick_cases Wanted r.settings.check_comments _ _
      (λ checks. let nine = nine_exactly_for_two_hyphens doc r piece (inner piece 4 3) in
      (λ n. (opens, checks, nine.0 n), λ h. nine.1 h.2))
      (λ off. (λ n. absurd (omega arith), λ h. clash _ h.1 off)))
      (λ other. (λ n. absurd (omega arith), λ h. clash _ h.0 other))

  -- THEOREM: the same of a piece
  pub a_comment_is_refused_at_the_first_hyphen_of_the_first_pair : (values_of (emit_comment doc r piece).answer).number ≡ 9
      → FirstPair doc (inner piece 4 3) (values_of (emit_comment doc r piece).answer).place
  unfolding emit_comment bang_event told stopped refused
  a_comment_is_refused_at_the_first_hyphen_of_the_first_pair =
      pick_cases (Stands doc (inner piece 4 3)) (begins (drop piece.from doc) comment_opener) _ _
      (λ opens. pick_cases (Stands doc (inner piece 4 3)) r.settings.check_comments _ _
      (λ checks. nine_at_the_first_hyphen_of_the_first_pair doc r piece (inner piece 4 3))
      (λ off n. absurd (omega arith)))
      (λ other n. absurd (omega arith))
