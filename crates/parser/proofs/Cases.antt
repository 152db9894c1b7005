-- What holds of each case of a scan's answer holds of the choice by it. Assumes nothing.
use Prim.Native.Nat.{ℕ}
use mathlib.Core.Path.{◌≡◌, refl}
use Rattle.parser.specs.Element.{by_tag}
use Rattle.parser.specs.First.{by_first}
use Rattle.parser.specs.Marks.{by_marks}
use Rattle.parser.specs.declared.element.Found.{Found as TagFound}
use Rattle.parser.specs.declared.first.Found.{Found as FirstFound}
use Rattle.parser.specs.declared.marks.Found.{Found as MarksFound}

module _ {A : Type 0} (M : A → Type 0) where
  pub first_cases : (x : FirstFound) (f : ℕ → A) (a : A) → ((p : ℕ) → x ≡ FirstFound.At p → M (f p)) → (x ≡ FirstFound.End → M a) → M (by_first x f a)
  first_cases (FirstFound.At p) f a g h = g p refl
  first_cases FirstFound.End f a g h = h refl

  pub tag_cases : (x : TagFound) (f : ℕ → A) (a : A) → ((p : ℕ) → x ≡ TagFound.At p → M (f p)) → M a → M (by_tag x f a)
  tag_cases (TagFound.At p) f a g h = g p refl
  tag_cases (TagFound.Open q) f a g h = h

  pub marks_cases : (x : MarksFound) (f : ℕ → A) (a : A) → ((p : ℕ) → x ≡ MarksFound.At p → M (f p)) → M a → M (by_marks x f a)
  marks_cases (MarksFound.At p) f a g h = g p refl
  marks_cases (MarksFound.Open m) f a g h = h
