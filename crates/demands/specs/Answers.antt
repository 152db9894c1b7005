-- The answers that the demands name, and how many there are of a kind. All is told from answers alone.
use Rattle.std.specs.Prelude.{ℕ, ◌+◌, ◌≤◌, ◌≡◌, Bool, true, false, List, [], ◌∷◌, eqb}
use Rattle.ground.specs.Choose.{pick}
use Rattle.state.specs.declared.answer.Kind.{Kind}
use Rattle.state.specs.declared.answer.Answer.{Answer}
use Rattle.state.specs.Values.{kind_number, values_of, ends_run}

-- an event of one of the ten kinds, end of file among them
abbrev pub AnEvent : Answer → Type 0
AnEvent a = (1 ≤ (values_of a).kind) × ((values_of a).kind ≤ 10) × ((values_of a).number ≡ 0)

-- a refusal by one of the paper's numbers; 16 is for making a reader, and no answer of a call
abbrev pub ARefusal : Answer → Type 0
ARefusal a = ((values_of a).kind ≡ 0) × (1 ≤ (values_of a).number) × ((values_of a).number ≤ 18) × ((values_of a).number ≡ 16 → ⊥)

abbrev pub is_start : Answer → Bool
is_start a = eqb (values_of a).kind (kind_number Kind.Start)

abbrev pub is_end : Answer → Bool
is_end a = eqb (values_of a).kind (kind_number Kind.End)

abbrev pub is_eof : Answer → Bool
is_eof a = eqb (values_of a).kind (kind_number Kind.Eof)

abbrev pub is_comment : Answer → Bool
is_comment a = eqb (values_of a).kind (kind_number Kind.Comment)

-- 9: "DoubleHyphenInComment"
abbrev pub is_double_hyphen : Answer → Bool
is_double_hyphen a = eqb (values_of a).number 9

-- 10: "MismatchedEndTag"
abbrev pub is_mismatch : Answer → Bool
is_mismatch a = eqb (values_of a).number 10

-- 11: "UnmatchedEndTag"
abbrev pub is_unmatched : Answer → Bool
is_unmatched a = eqb (values_of a).number 11

-- 13: "piece not UTF-8"
abbrev pub is_encoding : Answer → Bool
is_encoding a = eqb (values_of a).number 13

-- 17: "bad state"
abbrev pub is_bad_state : Answer → Bool
is_bad_state a = eqb (values_of a).number 17

-- 18: the document ends with names open
abbrev pub is_unclosed : Answer → Bool
is_unclosed a = eqb (values_of a).number 18

-- "a refusal that ended the run (1 to 8, 13 to 15)"
abbrev pub is_ending : Answer → Bool
is_ending a = ends_run (values_of a).number

-- how many of some answers, or of whatever else tells them
unfoldable pub count : {A : Type 0} → (A → Bool) → List A → ℕ
count is [] = 0
count is (a ∷ before) = pick (is a) 1 0 + count is before

-- the latest of them, which stands first, is such a one
abbrev pub latest_is : {A : Type 0} → (A → Bool) → List A → Bool
latest_is is [] = false
latest_is is (a ∷ before) = is a

-- one of them is such a one
unfoldable pub one_is : {A : Type 0} → (A → Bool) → List A → Bool
one_is is [] = false
one_is is (a ∷ before) = pick (is a) true (one_is is before)
