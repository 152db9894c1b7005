-- Every place that an answer tells lies in the content, and no answer of a reading from the name is 17. Assumes nothing.
use Prim.Native.Nat.{ℕ, zero, suc, ◌+◌, ◌≤◌}
use mathlib.Core.Path.{◌≡◌, refl, sym, ap, ◌∙◌}
use mathlib.Core.List.{List}
use mathlib.Core.Bool.{Bool, true, false}
use native.Mathlib.Omega.{arith}
use lib.ListN.{length}
use lib.Dec.{leb, eqb}
use borrow.Author.Tests.{leb-false}
use Rattle.ground.specs.Choose.{pick}
use Rattle.ground.specs.Bytes.{lt}
use Rattle.ground.specs.Equal.{same}
use Rattle.ground.proofs.Choices.{pick_cases}
use Rattle.white.specs.White.{is_white, not_white, name_len}
use Rattle.white.proofs.Runs.{until_within}
use Rattle.attributes.specs.declared.equals.Equals.{Equals}
use Rattle.attributes.specs.declared.item.Extent.{Extent}
use Rattle.attributes.specs.declared.item.Attribute.{Attribute}
use Rattle.attributes.specs.declared.item.Refusal.{Refusal}
use Rattle.attributes.specs.declared.item.Item.{Item}
use Rattle.attributes.specs.declared.name.Named.{Named}
use Rattle.attributes.specs.declared.used.Use.{Use}
use Rattle.attributes.specs.declared.value.Valued.{Valued}
use Rattle.attributes.specs.Answers.{fault_number, fault_first, bad_state, values_of}
use Rattle.attributes.specs.Grammar.{is_quote, equals_sign, byte, past, name_end, value_end, name_from, name_at, equals_at, quoted_from, value_at, with_value, with_equals, named}
use Rattle.attributes.specs.Tag.{bytes, or_else, use_in, unless_used, with_use, item_at, on_at, read_by, place, said, is_at, calls_to, attribute_at, first_call, ends_at, find_of}
use Rattle.attributes.specs.Words.{SpaceName, PlacesIn}
use Rattle.attributes.proofs.Shapes.{run_within, NamedAs, EqualsAs, name_words, equals_words, shape_within}
use Rattle.attributes.proofs.Tags.{Went, went, on, stays, place_first, place_on, read_on_lem, said_shape, use_on, use_none}

module _ (s : List ℕ) where
  -- ---- the place of a refusal by the grammar

  abbrev RefusalIn : Refusal → Type 0
  RefusalIn x = (x.place ≤ length s) × (fault_first x.fault ≤ length s) × (fault_number x.fault ≡ 17 → ⊥)

  abbrev NamedIn : Named → Type 0
  NamedIn Named.Nothing = Unit {0}
  NamedIn (Named.Name name) = Unit {0}
  NamedIn (Named.Refused x) = RefusalIn x

  abbrev EqualsIn : Equals → Type 0
  EqualsIn (Equals.Before behind) = Unit {0}
  EqualsIn (Equals.Refused x) = RefusalIn x

  abbrev ValuedIn : Valued → Type 0
  ValuedIn (Valued.Value value) = Unit {0}
  ValuedIn (Valued.Refused x) = RefusalIn x

  past_in : (at : ℕ) → at ≤ length s → past s at ≤ length s
  unfolding past
  past_in at h = run_within not_white s at h

  name_in : (at : ℕ) → at ≤ length s → NamedIn (name_at s at)
  unfolding name_at name_from
  name_in at h =
      pick_cases NamedIn (leb (length s) (past s at)) _ _ (λ l. tt)
      (λ l. pick_cases NamedIn (eqb (past s at) at) _ _ (λ e. (h, omega arith, λ z. omega arith))
      (λ e. pick_cases NamedIn (eqb (name_end s (past s at)) (past s at)) _ _ (λ f. (past_in at h, omega arith, λ z. omega arith)) (λ f. tt)))

  equals_in : (at : ℕ) → at ≤ length s → EqualsIn (equals_at s at)
  unfolding equals_at
  equals_in at h = pick_cases EqualsIn (eqb (byte s (past s at)) equals_sign) _ _ (λ e. tt) (λ e. (past_in at h, omega arith, λ z. omega arith))

  value_in : (at : ℕ) → at ≤ length s → ValuedIn (value_at s at)
  unfolding value_at quoted_from
  value_in at h =
      let quote : ℕ = byte s (past s at) in
      let to : ℕ = value_end s quote (past s at + 1) in
      pick_cases ValuedIn (is_quote quote) _ _
      (λ q. pick_cases ValuedIn (leb (length s) to) _ _ (λ l. (omega arith, omega arith, λ z. omega arith))
      (λ l. pick_cases ValuedIn (eqb (byte s to) lt) _ _ (λ z. (omega (arith, leb-false (length s) to l), omega arith, λ e. omega arith)) (λ z. tt)))
      (λ q. (past_in at h, omega arith, λ z. omega arith))

  -- ---- an answer

  abbrev ItemIn : Item → Type 0
  ItemIn (Item.Attribute a) = Unit {0}
  ItemIn Item.Nothing = Unit {0}
  ItemIn (Item.Refused x) = RefusalIn x

  with_value_in : (name : Extent) (v : Valued) → ValuedIn v → ItemIn (with_value name v)
  with_value_in name (Valued.Refused x) w = w
  with_value_in name (Valued.Value value) w = tt

  with_equals_in : (name : Extent) (q : Equals) → EqualsAs s name.to q → EqualsIn q → ItemIn (with_equals s name q)
  with_equals_in name (Equals.Refused x) g w = w
  with_equals_in name (Equals.Before behind) g w = with_value_in name (value_at s behind) (value_in behind g.within)

  named_in : (name : Extent) → name.to ≤ length s → ItemIn (named s name)
  unfolding named
  named_in name h = with_equals_in name (equals_at s name.to) (equals_words s name.to) (equals_in name.to h)

  -- where a name was used first
  module _ (name : List ℕ) (first : ℕ) where
    use_at : (k : ℕ) (a : Attribute) → said s k ≡ Item.Attribute a → (u : Use) → (u ≡ Use.At first → first ≤ length s) → (x : Bool)
        → or_else u (pick x (Use.At a.name.from) Use.New) ≡ Use.At first → first ≤ length s
    use_at k a e (Use.At p) r x f = r f
    use_at k a e Use.New r true f =
        let z : a.name.from ≡ first = cc in
        let w = said_shape s k a e in
        omega (arith, w.name.some, w.name.within)
    use_at k a e Use.New r false f = let z : ◌≡◌ {A = ℕ} 0 1 = cc in absurd (omega arith)

    use_in_lem : (k : ℕ) → use_in s (read_by s k) name ≡ Use.At first → first ≤ length s
    use_in_lem zero f = let g = sym (use_none s name) ∙ f in let z : ◌≡◌ {A = ℕ} 0 1 = cc in absurd (omega arith)
    use_in_lem (suc k) f = by (went s k) (use_in_lem k)
      where
        by : Went s k → (use_in s (read_by s k) name ≡ Use.At first → first ≤ length s) → first ≤ length s
        by (on a e) r =
            use_at k a e (use_in s (read_by s k) name) r (same (bytes s a.name) name)
            (sym (use_on s name a (read_by s k)) ∙ ap (λ (b : List Attribute). use_in s b name) (sym (read_on_lem s k a e)) ∙ f)
        by (stays n e) r = r (ap (λ (b : List Attribute). use_in s b name) (sym e) ∙ f)

  module _ (k : ℕ) where
    unless_in : (name : Extent) (at : ℕ) → SpaceName s at name → (u : Use) → use_in s (read_by s k) (bytes s name) ≡ u → ItemIn (unless_used s name u)
    unless_in name at w (Use.At first) e = (omega (arith, w.some, w.within), use_in_lem (bytes s name) first k e, λ z. omega arith)
    unless_in name at w Use.New e = named_in name w.within

    with_use_in : (at : ℕ) (q : Named) → NamedAs s at q → NamedIn q → ItemIn (with_use s (read_by s k) q)
    with_use_in at Named.Nothing w i = tt
    with_use_in at (Named.Refused x) w i = i
    with_use_in at (Named.Name name) w i = unless_in name at w (use_in s (read_by s k) (bytes s name)) refl

  pub place_in : (k : ℕ) → place s k ≤ length s
  place_in zero = omega (arith, place_first s, until_within is_white s)
  place_in (suc k) = by (went s k) (place_in k)
    where
      by : Went s k → place s k ≤ length s → place s (suc k) ≤ length s
      by (on a e) h = omega (arith, place_on s k a e, shape_within s (place s k) a (said_shape s k a e))
      by (stays n e) h = omega (arith, ap (on_at s) e)

  item_in : (k : ℕ) → ItemIn (said s k)
  unfolding item_at
  item_in k = with_use_in k (place s k) (name_at s (place s k)) (name_words s (place s k)) (name_in (place s k) (place_in k))

  abbrev In : Item → Type 0
  In i = PlacesIn (length s) (values_of i)

  said_in : (k : ℕ) → In (said s k)
  said_in k = by (said s k) refl (item_in k)
    where
      by : (x : Item) → said s k ≡ x → ItemIn x → In x
      by (Item.Attribute a) e w =
          let h = said_shape s k a e in
          let l = shape_within s (place s k) a h in
          record {
            name = (omega (arith, h.name.some, h.name.within), h.name.within);
            value = (omega (arith, h.value.order, h.value.within), omega (arith, h.value.within));
            next = l;
            place = omega arith;
            first = omega arith;
          }
      by Item.Nothing e w = record { name = (omega arith, omega arith); value = (omega arith, omega arith); next = omega arith; place = omega arith; first = omega arith }
      by (Item.Refused x) e w = record { name = (omega arith, omega arith); value = (omega arith, omega arith); next = omega arith; place = w.0; first = w.1 }

  -- no answer of a reading from the name is 17
  pub said_not_17 : (k : ℕ) → (values_of (said s k)).number ≡ 17 → ⊥
  said_not_17 k = by (said s k) (item_in k)
    where
      by : (x : Item) → ItemIn x → (values_of x).number ≡ 17 → ⊥
      by (Item.Attribute a) w e = omega arith
      by Item.Nothing w e = omega arith
      by (Item.Refused x) w e = w.2 e

  bad_in : In bad_state
  bad_in = record { name = (omega arith, omega arith); value = (omega arith, omega arith); next = omega arith; place = omega arith; first = omega arith }

  -- what a call answers tells places of the content alone
  pub an_answer's_places : (name at : ℕ) → PlacesIn (length s) (values_of (attribute_at s name at))
  unfolding attribute_at
  an_answer's_places name at =
      pick_cases In (eqb (name_len s) name) (pick (is_at s at (calls_to s at)) (said s (calls_to s at)) bad_state) bad_state
      (λ e. pick_cases In (is_at s at (calls_to s at)) (said s (calls_to s at)) bad_state (λ f. said_in (calls_to s at)) (λ f. bad_in))
      (λ e. bad_in)

  pub a_search's_places : (name : ℕ) (wanted : List ℕ) → PlacesIn (length s) (values_of (find_of s name wanted))
  unfolding find_of
  a_search's_places name wanted =
      pick_cases In (eqb (name_len s) name) (said s (first_call s (ends_at s wanted))) bad_state (λ e. said_in (first_call s (ends_at s wanted))) (λ e. bad_in)
