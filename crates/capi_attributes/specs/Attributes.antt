-- THE PROMISE of attributes that a host links: the number that is answered, and every slot of what was lent. The content is a part of the host's document, and
-- places are told in the document.
use Rattle.std.specs.Prelude.{ℕ, ◌+◌, ◌-◌, ◌≡◌, Bool, List, [], ◌∷◌, ◌++◌, length, drop, eqb, ltb}
use Rattle.ground.specs.Choose.{pick}
use Rattle.ground.specs.Part.{part}
use Rattle.attributes.specs.declared.item.Extent.{Extent}
use Rattle.attributes.specs.declared.item.Values.{Values}
use Rattle.attributes.specs.Answers.{extent, bad_state, values_of}
use Rattle.attributes.specs.Tag.{attribute_at, find_of}

-- 17, for what is lent
abbrev pub bad_values : Values
bad_values = values_of bad_state

-- ---- places in the document

abbrev pub moved_extent : ℕ → Extent → Extent
moved_extent by x = extent (by + x.from) (by + x.to)

-- of 24 alone there is a second place
abbrev pub moved_first : ℕ → ℕ → ℕ → ℕ
moved_first by number first = pick (eqb number 24) (by + first) first

-- an attribute's spans and where to go on, and the places of a refusal but 17, by so many bytes further
unfoldable pub moved : ℕ → Values → Values
moved by v =
    pick (eqb v.found 1)
    (record {
      found = 1;
      name = moved_extent by v.name;
      value = moved_extent by v.value;
      next = by + v.next;
      number = v.number;
      place = v.place;
      quote = v.quote;
      first = v.first;
    })
    (pick (eqb v.number 0)
    v
    (pick (eqb v.number 17)
    v
    (record {
      found = v.found;
      name = v.name;
      value = v.value;
      next = v.next;
      number = v.number;
      place = by + v.place;
      quote = v.quote;
      first = moved_first by v.number v.first;
    })))

-- ---- what is answered

-- on the content from one place of the document up to another; 17 where that does not lie in it, or where the place to go on stands before it
unfoldable pub attribute_in : List ℕ → ℕ → ℕ → ℕ → ℕ → Values
attribute_in doc from to name at =
    pick (ltb to from)
    bad_values
    (pick (ltb (length doc) to) bad_values (pick (ltb at from) bad_values (moved from (values_of (attribute_at (part doc from to) name (at - from))))))

unfoldable pub found_in : List ℕ → ℕ → ℕ → ℕ → List ℕ → Values
found_in doc from to name wanted =
    pick (ltb to from) bad_values (pick (ltb (length doc) to) bad_values (moved from (values_of (find_of (part doc from to) name wanted))))

-- ---- as numbers

unfoldable pub item_numbers : Values → List ℕ
item_numbers v = v.found ∷ v.name.from ∷ v.name.to ∷ v.value.from ∷ v.value.to ∷ v.next ∷ v.place ∷ v.quote ∷ v.first ∷ []

abbrev pub attribute_slots : ℕ
attribute_slots = 9

-- the answer has too few slots
abbrev pub no_room : List ℕ → Bool
no_room answer = ltb (length answer) attribute_slots

-- an answer that is told: 0 or the number of the refusal, and the slots; 17 where there are too few of them, and nothing is written then
pub record Told (v : Values) (answer : List ℕ) (number : ℕ) (answer' : List ℕ) : Type 0 where
  pub said : number ≡ pick (no_room answer) bad_values.number v.number
  pub slots : answer' ≡ pick (no_room answer) answer (item_numbers v ++ drop attribute_slots answer)
