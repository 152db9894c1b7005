-- Which comments a call refuses, and where, in the words of documents 01 and 02. Any document, any lent stack, any state. Assumes nothing.
use Prim.Native.Nat.{ℕ}
use mathlib.Core.Path.{◌≡◌}
use mathlib.Core.List.{List}
use mathlib.Core.Bool.{true}
use mathlib.Core.Logic.{◌↔◌, ◌⊎◌, inl, inr}
use native.Mathlib.Omega.{arith}
use borrow.Author.Tests.{eqb-true}
use Rattle.state.specs.declared.answer.Kind.{Kind}
use Rattle.state.specs.declared.answer.Answer.{Answer}
use Rattle.state.specs.declared.run.Reader.{Reader}
use Rattle.state.specs.declared.run.Step.{Step}
use Rattle.state.specs.Make.{bad_state}
use Rattle.state.specs.Place.{inner}
use Rattle.state.specs.Values.{kind_number, values_of}
use Rattle.emit.specs.Bang.{TwoHyphens, FirstPair}
use Rattle.reader.specs.Step.{step}
use Rattle.reader.proofs.Outside.{Commented, step_turn}
use Rattle.reader.proofs.Rooms.{any_state}
use Rattle.demands.specs.Answers.{is_comment, is_double_hyphen}

module _ (doc stack : List ℕ) (r : Reader) where
  abbrev answer : Answer
  answer = (step doc stack r).answer

  -- 17 says nothing of comments
  of_bad : Commented doc r (bad_state r).answer
  unfolding bad_state
  of_bad = record { refused = λ e. absurd (omega arith); passed = λ e. absurd (omega arith) }

  says : Commented doc r answer
  says = any_state doc stack r (λ (s : Step). Commented doc r s.answer) (λ e. (step_turn doc stack r e).comment) of_bad

  -- what 9 says
  nine : is_double_hyphen answer ≡ true → (r.settings.check_comments ≡ true) × FirstPair doc (inner (values_of answer).piece 4 3) (values_of answer).place
  nine e = says.refused (eqb-true (values_of answer).number 9 e)

  -- THEOREM: "With `check_comments`, a comment is refused (9) if a content `-` is followed by `-` (the closer's included)", and only then
  pub a_comment_is_refused_exactly_for_its_hyphens : (is_comment answer ≡ true) ⊎ (is_double_hyphen answer ≡ true)
      → (is_double_hyphen answer ≡ true) ↔ ((r.settings.check_comments ≡ true) × TwoHyphens doc (inner (values_of answer).piece 4 3))
  a_comment_is_refused_exactly_for_its_hyphens which = (λ e. ((nine e).0, ((values_of answer).place, (nine e).1.has)), λ h. by which h.0 h.1)
    where
      by : (is_comment answer ≡ true) ⊎ (is_double_hyphen answer ≡ true) → r.settings.check_comments ≡ true
          → TwoHyphens doc (inner (values_of answer).piece 4 3) → is_double_hyphen answer ≡ true
      by (inl e) on two = absurd (says.passed (eqb-true (values_of answer).kind (kind_number Kind.Comment) e) on two)
      by (inr e) on two = e

  -- THEOREM: "refusal 9 has as its place the first hyphen of the first pair"
  pub a_comment_is_refused_at_the_first_hyphen_of_its_first_pair : is_double_hyphen answer ≡ true
      → FirstPair doc (inner (values_of answer).piece 4 3) (values_of answer).place
  a_comment_is_refused_at_the_first_hyphen_of_its_first_pair e = (nine e).1
