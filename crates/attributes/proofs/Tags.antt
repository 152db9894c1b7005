-- Reading from the name: what one more call does, that places rise, and that a place is reached with the same attributes read. Assumes nothing.
use Prim.Native.Nat.{ℕ, zero, suc, ◌+◌, ◌≤◌, ◌<◌}
use mathlib.Core.Path.{◌≡◌, refl, sym, ap, ◌∙◌}
use mathlib.Core.List.{List, [], ◌∷◌}
use native.Mathlib.Omega.{arith}
use native.Mathlib.Decide.{dec_lt}
use Rattle.ground.specs.Choose.{pick}
use Rattle.ground.specs.Equal.{same}
use Rattle.white.specs.White.{name_len}
use Rattle.attributes.specs.declared.equals.Equals.{Equals}
use Rattle.attributes.specs.declared.item.Extent.{Extent}
use Rattle.attributes.specs.declared.item.Attribute.{Attribute}
use Rattle.attributes.specs.declared.item.Item.{Item}
use Rattle.attributes.specs.declared.name.Named.{Named}
use Rattle.attributes.specs.declared.used.Use.{Use}
use Rattle.attributes.specs.declared.value.Valued.{Valued}
use Rattle.attributes.specs.Grammar.{name_at, equals_at, value_at, with_value, with_equals, with_name, named, shape_at}
use Rattle.attributes.specs.Tag.{bytes, or_else, use_in, unless_used, with_use, item_at, on_at, added, read_by, place, said}
use Rattle.attributes.specs.Words.{Shaped}
use Rattle.attributes.proofs.Shapes.{an_attribute's_shape, shape_rises}

-- ---- an answer that is an attribute

-- it has the name that it was read with
module _ (s : List ℕ) (name : Extent) (a : Attribute) where
  value_name : (v : Valued) → with_value name v ≡ Item.Attribute a → a.name ≡ name
  value_name (Valued.Refused x) e = let z : ◌≡◌ {A = ℕ} 0 1 = cc in absurd (omega arith)
  value_name (Valued.Value value) e = sym (cc)

  equals_name : (q : Equals) → with_equals s name q ≡ Item.Attribute a → a.name ≡ name
  equals_name (Equals.Refused x) e = let z : ◌≡◌ {A = ℕ} 0 1 = cc in absurd (omega arith)
  equals_name (Equals.Before behind) e = value_name (value_at s behind) e

  named_name : named s name ≡ Item.Attribute a → a.name ≡ name
  unfolding named
  named_name e = equals_name (equals_at s name.to) e

-- it stands there by the grammar, and no attribute before it has its name
pub record Read (s : List ℕ) (before : List Attribute) (at : ℕ) (a : Attribute) : Type 0 where
  pub shape : shape_at s at ≡ Item.Attribute a
  pub new : use_in s before (bytes s a.name) ≡ Use.New

module _ (s : List ℕ) (before : List Attribute) (at : ℕ) (a : Attribute) where
  read_used : (name : Extent) (u : Use) → use_in s before (bytes s name) ≡ u → name_at s at ≡ Named.Name name → unless_used s name u ≡ Item.Attribute a → Read s before at a
  unfolding shape_at
  read_used name (Use.At first) f n e = let z : ◌≡◌ {A = ℕ} 0 1 = cc in absurd (omega arith)
  read_used name Use.New f n e =
      record { shape = rw n e; new = ap (λ (x : Extent). use_in s before (bytes s x)) (named_name s name a e) ∙ f }

  read_named : (q : Named) → name_at s at ≡ q → with_use s before q ≡ Item.Attribute a → Read s before at a
  read_named Named.Nothing n e = let z : ◌≡◌ {A = ℕ} 0 1 = cc in absurd (omega arith)
  read_named (Named.Refused x) n e = let z : ◌≡◌ {A = ℕ} 0 1 = cc in absurd (omega arith)
  read_named (Named.Name name) n e = read_used name (use_in s before (bytes s name)) refl n e

  pub an_attribute_read : item_at s before at ≡ Item.Attribute a → Read s before at a
  unfolding item_at
  an_attribute_read e = read_named (name_at s at) refl e

-- and what stands there with a new name is read
module _ (s : List ℕ) (before : List Attribute) (at : ℕ) (a : Attribute) where
  answer_used : (name : Extent) (u : Use) → u ≡ Use.New → named s name ≡ Item.Attribute a → unless_used s name u ≡ Item.Attribute a
  answer_used name (Use.At first) f e = let z : ◌≡◌ {A = ℕ} 0 1 = cc in absurd (omega arith)
  answer_used name Use.New f e = e

  answer_named : (q : Named) → with_name s q ≡ Item.Attribute a → use_in s before (bytes s a.name) ≡ Use.New → with_use s before q ≡ Item.Attribute a
  answer_named Named.Nothing e n = e
  answer_named (Named.Refused x) e n = e
  answer_named (Named.Name name) e n =
      answer_used name (use_in s before (bytes s name)) (ap (λ (x : Extent). use_in s before (bytes s x)) (sym (named_name s name a e)) ∙ n) e

  pub an_attribute_answered : shape_at s at ≡ Item.Attribute a → use_in s before (bytes s a.name) ≡ Use.New → item_at s before at ≡ Item.Attribute a
  unfolding shape_at item_at
  an_attribute_answered e n = answer_named (name_at s at) e n

-- ---- one more call

module _ (s : List ℕ) where
  read_next : (k : ℕ) → read_by s (suc k) ≡ added (read_by s k) (said s k)
  unfolding read_by
  read_next k = refl

  pub read_none : read_by s 0 ≡ []
  unfolding read_by
  read_none = refl

  pub place_first : place s 0 ≡ name_len s
  place_first = ap (on_at s) read_none

  module _ (k : ℕ) (a : Attribute) (e : said s k ≡ Item.Attribute a) where
    pub read_on_lem : read_by s (suc k) ≡ a ∷ read_by s k
    read_on_lem = read_next k ∙ ap (added (read_by s k)) e

    pub place_on : place s (suc k) ≡ a.next
    place_on = ap (on_at s) read_on_lem

    pub read_said : Read s (read_by s k) (place s k) a
    read_said = an_attribute_read s (read_by s k) (place s k) a e

    pub said_shape : Shaped s (place s k) a
    said_shape = an_attribute's_shape s (place s k) a read_said.shape

    pub place_rises : place s k + 5 ≤ place s (suc k)
    place_rises = omega (arith, shape_rises s (place s k) a said_shape, place_on)

-- a call reads an attribute, or nothing
pub data Went (s : List ℕ) (k : ℕ) : Type 0 where
  on : (a : Attribute) → said s k ≡ Item.Attribute a → Went s k
  stays : ((a : Attribute) → said s k ≡ Item.Attribute a → ⊥) → read_by s (suc k) ≡ read_by s k → Went s k

pub went : (s : List ℕ) (k : ℕ) → Went s k
went s k = by (said s k) refl
  where
    by : (x : Item) → said s k ≡ x → Went s k
    by (Item.Attribute a) e = on a e
    by Item.Nothing e = stays (λ a f. let z : ◌≡◌ {A = ℕ} 0 1 = cc in absurd (omega arith)) (read_next s k ∙ ap (added (read_by s k)) e)
    by (Item.Refused x) e = stays (λ a f. let z : ◌≡◌ {A = ℕ} 0 1 = cc in absurd (omega arith)) (read_next s k ∙ ap (added (read_by s k)) e)

-- ---- places

module _ (s : List ℕ) where
  step_up : (k : ℕ) → Went s k → place s k ≤ place s (suc k)
  step_up k (on a e) = omega (arith, place_rises s k a e)
  step_up k (stays n r) = omega (arith, ap (on_at s) r)

  pub place_order : (k j : ℕ) → j ≤ k → place s j ≤ place s k
  place_order zero j h = let z : j ≡ 0 = omega arith in omega (arith, ap (place s) z)
  place_order (suc k) j h = elim (dec_lt j (suc k)) [
    | yes l ↦ omega (arith, place_order k j (omega arith), step_up k (went s k))
    | no l ↦ let z : j ≡ suc k = omega arith in omega (arith, ap (place s) z)
  ]

  read_same : (k j : ℕ) → j ≤ k → place s j ≡ place s k → read_by s j ≡ read_by s k
  read_same zero j h e = ap (read_by s) (omega arith)
  read_same (suc k) j h e = elim (dec_lt j (suc k)) [
    | yes l ↦ by (went s k) (place_order k j (omega arith)) (read_same k j (omega arith))
    | no l ↦ ap (read_by s) (omega arith)
  ]
    where
      by : Went s k → place s j ≤ place s k → (place s j ≡ place s k → read_by s j ≡ read_by s k) → read_by s j ≡ read_by s (suc k)
      by (on a f) o r = absurd (omega (arith, place_rises s k a f))
      by (stays n f) o r = r (e ∙ ap (on_at s) f) ∙ sym f

  -- whoever comes to a place has read the same attributes
  pub read_at : (j k : ℕ) → place s j ≡ place s k → read_by s j ≡ read_by s k
  read_at j k e = elim (dec_lt k j) [
    | yes l ↦ sym (read_same j k (omega arith) (sym e))
    | no l ↦ read_same k j (omega arith) e
  ]

  -- after none or a refusal nothing more is read
  pub read_stays : (k j : ℕ) → j ≤ k → ((a : Attribute) → said s j ≡ Item.Attribute a → ⊥) → read_by s k ≡ read_by s j
  read_stays zero j h n = ap (read_by s) (omega arith)
  read_stays (suc k) j h n = elim (dec_lt j (suc k)) [
    | yes l ↦ by (went s k) (read_stays k j (omega arith) n)
    | no l ↦ ap (read_by s) (omega arith)
  ]
    where
      by : Went s k → read_by s k ≡ read_by s j → read_by s (suc k) ≡ read_by s j
      by (on a f) r = absurd (n a (ap (λ (b : List Attribute). item_at s b (on_at s b)) (sym r) ∙ f))
      by (stays m f) r = f ∙ r

  -- a place further on is reached by an attribute
  pub record Moves (j k : ℕ) : Type 0 where
    pub attribute : Attribute
    pub is : said s j ≡ Item.Attribute attribute
    pub upto : suc j ≤ k

  pub moves : (j k : ℕ) → place s j < place s k → Moves j k
  moves j k l = elim (dec_lt j k) [
    | yes h ↦ by (went s j) h
    | no h ↦ absurd (omega (arith, place_order j k (omega arith)))
  ]
    where
      by : Went s j → j < k → Moves j k
      by (on a e) h = record { attribute = a; is = e; upto = omega arith }
      by (stays n r) h = absurd (omega (arith, ap (on_at s) (read_stays k j (omega arith) n)))

-- ---- names

module _ (s : List ℕ) (name : List ℕ) where
  pub use_on : (a : Attribute) (before : List Attribute) → use_in s (a ∷ before) name ≡ or_else (use_in s before name) (pick (same (bytes s a.name) name) (Use.At a.name.from) Use.New)
  unfolding use_in
  use_on a before = refl

  pub use_none : use_in s (read_by s 0) name ≡ Use.New
  unfolding use_in read_by
  use_none = refl

  -- a use that is found stays the first
  use_up : (p k : ℕ) → Went s k → use_in s (read_by s k) name ≡ Use.At p → use_in s (read_by s (suc k)) name ≡ Use.At p
  use_up p k (on a e) f = ap (λ (b : List Attribute). use_in s b name) (read_on_lem s k a e) ∙ use_on a (read_by s k) ∙ rw f refl
  use_up p k (stays n r) f = ap (λ (b : List Attribute). use_in s b name) r ∙ f

  pub use_stays : (p k j : ℕ) → j ≤ k → use_in s (read_by s j) name ≡ Use.At p → use_in s (read_by s k) name ≡ Use.At p
  use_stays p zero j h f = let z : j ≡ 0 = omega arith in ap (λ (i : ℕ). use_in s (read_by s i) name) (sym z) ∙ f
  use_stays p (suc k) j h f = elim (dec_lt j (suc k)) [
    | yes l ↦ use_up p k (went s k) (use_stays p k j (omega arith) f)
    | no l ↦ let z : j ≡ suc k = omega arith in ap (λ (i : ℕ). use_in s (read_by s i) name) (sym z) ∙ f
  ]
