-- THE PROMISE of references that a host links: the number that is answered, and every slot and byte of what was lent.
use Rattle.std.specs.Prelude.{ℕ, ◌≡◌, Bool, List, [], ◌∷◌, ◌++◌, length, drop, ltb}
use Rattle.ground.specs.Choose.{pick}
use Rattle.escape.specs.declared.answer.Values.{Values}
use Rattle.escape.specs.Answers.{values_of}
use Rattle.escape.specs.Text.{Text, written_of, left_of}

-- how many bytes were written, and the place of the refusal
abbrev pub numbers_of : Values → List ℕ
numbers_of v = v.count ∷ v.place ∷ []

abbrev pub unescape_slots : ℕ
unescape_slots = 2

-- the answer has too few slots
abbrev pub no_room : List ℕ → Bool
no_room answer = ltb (length answer) unescape_slots

abbrev pub values_in : Text → Values
values_in text = values_of (written_of text)

-- what is told of a text: 0 or the number of the refusal, the slots, and the bytes of the galley; 17 where there are too few slots, and nothing is written then
pub record Told (text : Text) (galley : List ℕ) (at : ℕ) (answer : List ℕ) (number : ℕ) (galley' answer' : List ℕ) : Type 0 where
  pub said : number ≡ pick (no_room answer) 17 (values_in text).number
  pub slots : answer' ≡ pick (no_room answer) answer (numbers_of (values_in text) ++ drop unescape_slots answer)
  pub bytes : galley' ≡ pick (no_room answer) galley (left_of galley at text)
