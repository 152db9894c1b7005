-- What the functions of a host answer and leave, from the promises of what they call. Assumes nothing.
use Prim.Native.Nat.{ℕ, ◌+◌, ◌-◌, ◌^◌, ◌≤◌, ◌<◌}
use mathlib.Core.Path.{◌≡◌, refl, ap, ◌∙◌}
use mathlib.Core.List.{List, [], ◌∷◌, ◌++◌}
use native.Mathlib.Omega.{arith}
use lib.ListN.{length, drop}
use lib.Seq.{sets, sets-eq}
use borrow.Author.Rules.{rules}
use borrow.Author.Tests.{eq-eqb, ne_eqb}
use Rattle.ground.specs.Part.{part}
use Rattle.ground.proofs.Choices.{pick_lt, pick_nlt, choices}
use Rattle.ground.proofs.Lists.{part_length}
use Rattle.ground.proofs.Slots.{slots}
use Rattle.attributes.specs.declared.item.Extent.{Extent}
use Rattle.attributes.specs.declared.item.Item.{Item}
use Rattle.attributes.specs.declared.item.Values.{Values}
use Rattle.attributes.specs.Answers.{bad_state, values_of}
use Rattle.attributes.specs.Tag.{attribute_at, find_of}
use Rattle.attributes.specs.Words.{PlacesIn}
use Rattle.attributes.proofs.Bounds.{an_answer's_places, a_search's_places}
use Rattle.capi_attributes.specs.Inside.{Movable}
use Rattle.capi_attributes.specs.Attributes.{bad_values, moved_extent, moved_first, moved, attribute_in, found_in, item_numbers, attribute_slots, Told}

-- ---- places in the document

pub bad_is : (item : Item) (v : Values) → item ≡ bad_state → v ≡ values_of item → v ≡ bad_values
bad_is item v e f = f ∙ ap values_of e

module _ (by : ℕ) (v : Values) where
  pub moved_found : (name value : Extent) → v.found ≡ 1 → name ≡ moved_extent by v.name → value ≡ moved_extent by v.value
      → record { found = 1; name = name; value = value; next = by + v.next; number = v.number; place = v.place; quote = v.quote; first = v.first } ≡ moved by v
  unfolding moved
  moved_found name value e f g = rw (eq-eqb v.found 1 e, f, g) refl

  module _ (n : v.found ≡ 1 → ⊥) where
    pub moved_nothing : v.number ≡ 0 → v ≡ moved by v
    unfolding moved
    moved_nothing e = rw (ne_eqb v.found 1 n, eq-eqb v.number 0 e) refl

    module _ (m : v.number ≡ 0 → ⊥) where
      pub moved_bad : v.number ≡ 17 → v ≡ moved by v
      unfolding moved
      moved_bad e = rw (ne_eqb v.found 1 n, ne_eqb v.number 0 m, eq-eqb v.number 17 e) refl

      pub moved_refused : (first : ℕ) → (v.number ≡ 17 → ⊥) → first ≡ moved_first by v.number v.first
          → record { found = v.found; name = v.name; value = v.value; next = v.next; number = v.number; place = by + v.place; quote = v.quote; first = first } ≡ moved by v
      unfolding moved
      moved_refused first l e = rw (ne_eqb v.found 1 n, ne_eqb v.number 0 m, ne_eqb v.number 17 l, e) refl

pub ruleset moves = (choices, bad_is, moved_found, moved_nothing, moved_bad, moved_refused)

-- places of a content that lies in the document do not run over
movable : (doc : List ℕ) (from to : ℕ) (v : Values) → from ≤ to → to ≤ length doc → length doc < 2 ^ 64 → PlacesIn (length (part doc from to)) v → Movable from v
movable doc from to v h k l p =
    let n : length (part doc from to) ≡ to - from = part_length doc from to h k in
    record {
      name = (omega (arith, p.name.0), omega (arith, p.name.1));
      value = (omega (arith, p.value.0), omega (arith, p.value.1));
      next = omega (arith, p.next);
      place = omega (arith, p.place);
      first = omega (arith, p.first);
    }

module _ (doc : List ℕ) (from to name : ℕ) (h : from ≤ to) (k : to ≤ length doc) (content : List ℕ) (e : content ≡ part doc from to) (item : Item) (v w : Values) (f : v ≡ values_of item) where
  module _ (at : ℕ) (l : from ≤ at) (g : item ≡ attribute_at content name (at - from)) where
    attribute_values_lem : v ≡ values_of (attribute_at (part doc from to) name (at - from))
    attribute_values_lem = f ∙ ap values_of (g ∙ ap (λ (s : List ℕ). attribute_at s name (at - from)) e)

    pub attribute_movable : length doc < 2 ^ 64 → Movable from v
    attribute_movable m = movable doc from to v h k m (rw attribute_values_lem (an_answer's_places (part doc from to) name (at - from)))

    pub attribute_told : w ≡ moved from v → w ≡ attribute_in doc from to name at
    unfolding attribute_in
    attribute_told z = pick_nlt _ _ _ _ _ h (pick_nlt _ _ _ _ _ k (pick_nlt _ _ _ _ _ l (z ∙ ap (moved from) attribute_values_lem)))

  module _ (wanted : List ℕ) (g : item ≡ find_of content name wanted) where
    found_values : v ≡ values_of (find_of (part doc from to) name wanted)
    found_values = f ∙ ap values_of (g ∙ ap (λ (s : List ℕ). find_of s name wanted) e)

    pub found_movable : length doc < 2 ^ 64 → Movable from v
    found_movable m = movable doc from to v h k m (rw found_values (a_search's_places (part doc from to) name wanted))

    pub found_told : w ≡ moved from v → w ≡ found_in doc from to name wanted
    unfolding found_in
    found_told z = pick_nlt _ _ _ _ _ h (pick_nlt _ _ _ _ _ k (z ∙ ap (moved from) found_values))

-- a content that does not lie in the document, and a place before it
module _ (doc : List ℕ) (from to name : ℕ) (v : Values) (e : v ≡ bad_values) where
  module _ (at : ℕ) where
    pub attribute_crossed : to < from → v ≡ attribute_in doc from to name at
    unfolding attribute_in
    attribute_crossed l = pick_lt _ _ _ _ _ l e

    module _ (h : from ≤ to) where
      pub attribute_past : length doc < to → v ≡ attribute_in doc from to name at
      unfolding attribute_in
      attribute_past l = pick_nlt _ _ _ _ _ h (pick_lt _ _ _ _ _ l e)

      pub attribute_before : to ≤ length doc → at < from → v ≡ attribute_in doc from to name at
      unfolding attribute_in
      attribute_before k l = pick_nlt _ _ _ _ _ h (pick_nlt _ _ _ _ _ k (pick_lt _ _ _ _ _ l e))

  module _ (wanted : List ℕ) where
    pub found_crossed : to < from → v ≡ found_in doc from to name wanted
    unfolding found_in
    found_crossed l = pick_lt _ _ _ _ _ l e

    pub found_past : from ≤ to → length doc < to → v ≡ found_in doc from to name wanted
    unfolding found_in
    found_past h l = pick_nlt _ _ _ _ _ h (pick_lt _ _ _ _ _ l e)

pub ruleset answers = (rules, attribute_movable, attribute_told, attribute_crossed, attribute_past, attribute_before, found_movable, found_told, found_crossed, found_past)

-- ---- numbers written

pub item_put : (xs : List ℕ) (v : Values) → attribute_slots ≤ length xs
    → sets xs 0 (v.found ∷ v.name.from ∷ v.name.to ∷ v.value.from ∷ v.value.to ∷ v.next ∷ v.place ∷ v.quote ∷ v.first ∷ [])
    ≡ item_numbers v ++ drop attribute_slots xs
unfolding item_numbers
item_put xs v l = sets-eq (v.found ∷ v.name.from ∷ v.name.to ∷ v.value.from ∷ v.value.to ∷ v.next ∷ v.place ∷ v.quote ∷ v.first ∷ []) xs 0 l

module _ (v : Values) (answer : List ℕ) where
  pub told_not : length answer < attribute_slots → Told v answer 17 answer
  told_not l = record { said = pick_lt _ _ _ _ _ l refl; slots = pick_lt _ _ _ _ _ l refl }

  pub told_all : (w : Values) (answer' : List ℕ) → attribute_slots ≤ length answer → w ≡ v → answer' ≡ item_numbers w ++ drop attribute_slots answer → Told v answer w.number answer'
  told_all w answer' l e f =
      record {
        said = pick_nlt _ _ _ _ _ l (ap (λ (x : Values). x.number) e);
        slots = pick_nlt _ _ _ _ _ l (f ∙ ap (λ (x : Values). item_numbers x ++ drop attribute_slots answer) e);
      }

pub ruleset tolds = (rules, slots, item_put, told_not, told_all)
