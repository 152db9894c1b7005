-- What the exported functions answer, and the slots that they write. Assumes nothing.
use Prim.Native.Nat.{ℕ, ◌≤◌, ◌<◌}
use mathlib.Core.Path.{◌≡◌, refl, ap, ◌∙◌}
use mathlib.Core.List.{List, [], ◌∷◌, ◌++◌}
use lib.ListN.{length, drop, set}
use lib.Seq.{sets-eq}
use borrow.Author.Rules.{rules}
use Rattle.ground.proofs.Choices.{pick_lt, pick_nlt}
use Rattle.ground.proofs.Slots.{slots}
use Rattle.escape.specs.declared.answer.Values.{Values}
use Rattle.escape.specs.declared.answer.Written.{Written}
use Rattle.escape.specs.Answers.{values_of}
use Rattle.escape.specs.Text.{Text, Put}
use Rattle.capi_escape.specs.Told.{unescape_slots, numbers_of, values_in, Told}

pub two_put : (xs : List ℕ) (a b : ℕ) → unescape_slots ≤ length xs → set (set xs 0 a) 1 b ≡ (a ∷ b ∷ []) ++ drop unescape_slots xs
two_put xs a b l = sets-eq (a ∷ b ∷ []) xs 0 l

module _ (text : Text) (galley : List ℕ) (at : ℕ) (answer : List ℕ) where
  pub told_not : length answer < unescape_slots → Told text galley at answer 17 galley answer
  told_not l = record { said = pick_lt _ _ _ _ _ l refl; slots = pick_lt _ _ _ _ _ l refl; bytes = pick_lt _ _ _ _ _ l refl }

  pub told_all : unescape_slots ≤ length answer → (w : Written) (galley' : List ℕ) → Put text galley at w galley' → (v : Values) → v ≡ values_of w → (answer' : List ℕ) → answer' ≡ numbers_of v ++ drop unescape_slots answer
      → Told text galley at answer v.number galley' answer'
  told_all l w galley' p v e answer' f =
      let g : v ≡ values_in text = e ∙ ap values_of p.told in
      record {
        said = pick_nlt _ _ _ _ _ l (ap (λ (x : Values). x.number) g);
        slots = pick_nlt _ _ _ _ _ l (f ∙ ap (λ (x : Values). numbers_of x ++ drop unescape_slots answer) g);
        bytes = pick_nlt _ _ _ _ _ l p.bytes;
      }

pub ruleset tolds = (rules, slots, two_put, told_not, told_all)
