-- What holds of attributes, in the words of document 02. Any content. Assumes nothing.
use Prim.Native.Nat.{ℕ, zero, suc, ◌+◌, ◌*◌, ◌/◌, ◌≤◌, ◌<◌}
use mathlib.Core.Path.{◌≡◌, refl, sym, ap, subst, ◌∙◌}
use mathlib.Core.List.{List}
use mathlib.Core.Bool.{Bool, true, false}
use mathlib.Core.Logic.{◌↔◌, ◌⊎◌, inl, inr}
use native.Mathlib.Omega.{arith}
use native.Mathlib.Decide.{dec_lt}
use lib.ListN.{length}
use lib.Dec.{eqb}
use borrow.Author.Tests.{eq-eqb, ne_eqb, eqb-true, eqb-false}
use Rattle.ground.specs.Choose.{pick}
use Rattle.ground.specs.Equal.{same}
use Rattle.ground.proofs.Choices.{clash, must_fail, pick_cases}
use Rattle.ground.proofs.Equal.{same_is}
use Rattle.white.specs.White.{name_len}
use Rattle.attributes.specs.declared.item.Attribute.{Attribute}
use Rattle.attributes.specs.declared.item.Item.{Item}
use Rattle.attributes.specs.declared.used.Use.{Use}
use Rattle.attributes.specs.Answers.{bad_state, values_of}
use Rattle.attributes.specs.Tag.{bytes, or_else, use_in, item_at, on_at, read_by, place, said, is_at, calls_to, attribute_at, is_end, ends_at, first_call, find_of}
use Rattle.attributes.specs.Words.{Shaped, Passed, Searched}
use Rattle.attributes.proofs.Shapes.{shape_back, shape_within}
use Rattle.attributes.proofs.Tags.{Went, went, on, stays, place_first, place_on, place_rises, read_on_lem, read_none, read_said, said_shape, use_on, use_none, use_stays, read_at, an_attribute_answered}
use Rattle.attributes.proofs.Walks.{answer_comes, first_passes, first_before}
use Rattle.attributes.proofs.Bounds.{place_in, said_not_17}

module _ (s : List ℕ) where
  -- ---- how many there are

  -- each takes five bytes at least
  read_size : (k : ℕ) → length (read_by s k) * 5 ≤ place s k
  read_size zero = omega (arith, ap length (read_none s))
  read_size (suc k) = by (went s k) (read_size k)
    where
      by : Went s k → length (read_by s k) * 5 ≤ place s k → length (read_by s (suc k)) * 5 ≤ place s (suc k)
      by (on a e) h = omega (arith, ap length (read_on_lem s k a e), place_rises s k a e)
      by (stays n e) h = omega (arith, ap length e, ap (on_at s) e)

  -- where a call gives an attribute, so has each before it
  read_all : (k : ℕ) (a : Attribute) → said s k ≡ Item.Attribute a → length (read_by s k) ≡ k
  read_all zero a e = ap length (read_none s)
  read_all (suc k) a e = by (went s k) (read_all k)
    where
      by : Went s k → ((b : Attribute) → said s k ≡ Item.Attribute b → length (read_by s k) ≡ k) → length (read_by s (suc k)) ≡ suc k
      by (on b f) r = ap length (read_on_lem s k b f) ∙ ap suc (r b f)
      by (stays n f) r = absurd (n a (ap (λ (b : List Attribute). item_at s b (on_at s b)) (sym f) ∙ e))

  -- THEOREM: where call k + 1 gives an attribute, the content has (k + 1) * 5 bytes at least: a tag of n bytes has at most n / 5 attributes
  pub a_tag_of_n_bytes_has_at_most_a_fifth_of_n_attributes : (k : ℕ) (a : Attribute) → said s k ≡ Item.Attribute a → (k + 1) * 5 ≤ length s
  a_tag_of_n_bytes_has_at_most_a_fifth_of_n_attributes k a e =
      omega (arith, read_all k a e, ap length (read_on_lem s k a e), read_size (suc k), place_in s (suc k))

  -- THEOREM: "none or a refusal comes by then": call number length / 5 + 1 gives no attribute
  pub none_or_a_refusal_comes_by_then : (a : Attribute) → said s (length s / 5) ≡ Item.Attribute a → ⊥
  none_or_a_refusal_comes_by_then a e = omega (arith, a_tag_of_n_bytes_has_at_most_a_fifth_of_n_attributes (length s / 5) a e)

-- ---- 17

-- a place that is reached is reached by no more calls than the content has bytes
record Few (s : List ℕ) (k : ℕ) : Type 0 where
  pub calls : ℕ
  pub same : place s calls ≡ place s k
  pub few : calls * 5 ≤ place s calls

calls_few : (s : List ℕ) (k : ℕ) → Few s k
calls_few s zero = record { calls = 0; same = refl; few = omega arith }
calls_few s (suc k) = by (went s k) (calls_few s k)
  where
    by : Went s k → Few s k → Few s (suc k)
    by (on a e) r = record { calls = suc k; same = refl; few = omega (arith, read_all s k a e, ap length (read_on_lem s k a e), read_size s (suc k)) }
    by (stays n e) r = record { calls = r.calls; same = r.same ∙ sym (ap (on_at s) e); few = r.few }

-- a place at which no call up to the content's length stands is reached by none
unreached : (s : List ℕ) (at : ℕ) → is_at s at (calls_to s at) ≡ false → (k : ℕ) → place s k ≡ at → ⊥
unreached s at f k e = clash (is_at s at (calls_to s at)) (first_passes (is_at s at) (length s) 0 (calls_few s k).calls (omega arith) (omega (arith, (calls_few s k).few, place_in s (calls_few s k).calls)) (eq-eqb (place s (calls_few s k).calls) at ((calls_few s k).same ∙ e))) f

-- 17 is told for a reason
wrong : (s : List ℕ) (name at : ℕ) → (values_of (attribute_at s name at)).number ≡ 17 → (name_len s ≡ name → ⊥) ⊎ ((k : ℕ) → place s k ≡ at → ⊥)
unfolding attribute_at
wrong s name at = by (eqb (name_len s) name) refl (is_at s at (calls_to s at)) refl
  where
    by : (x : Bool) → eqb (name_len s) name ≡ x → (y : Bool) → is_at s at (calls_to s at) ≡ y
        → (values_of (pick x (pick y (said s (calls_to s at)) bad_state) bad_state)).number ≡ 17 → (name_len s ≡ name → ⊥) ⊎ ((k : ℕ) → place s k ≡ at → ⊥)
    by false e y f g = inl (eqb-false (name_len s) name e)
    by true e true f g = absurd (said_not_17 s (calls_to s at) g)
    by true e false f g = inr (unreached s at f)

module _ (s : List ℕ) where
  -- ---- names

  module _ (w : List ℕ) where
    use_found : (j : ℕ) (a : Attribute) → said s j ≡ Item.Attribute a → bytes s a.name ≡ w → use_in s (read_by s (suc j)) w ≡ Use.New → ⊥
    use_found j a e f n = by (use_in s (read_by s j) w) (sym (ap (λ (b : List Attribute). use_in s b w) (read_on_lem s j a e) ∙ use_on s w a (read_by s j) ∙ rw ((same_is (bytes s a.name) w).1 f) refl) ∙ n)
      where
        by : (u : Use) → or_else u (Use.At a.name.from) ≡ Use.New → ⊥
        by (Use.At p) z = let o : ◌≡◌ {A = ℕ} 0 1 = cc in omega arith
        by Use.New z = let o : ◌≡◌ {A = ℕ} 0 1 = cc in omega arith

    -- what is new later was new before
    use_earlier : (j k : ℕ) → j ≤ k → use_in s (read_by s k) w ≡ Use.New → use_in s (read_by s j) w ≡ Use.New
    use_earlier j k h n = by (use_in s (read_by s j) w) refl
      where
        by : (u : Use) → use_in s (read_by s j) w ≡ u → use_in s (read_by s j) w ≡ Use.New
        by (Use.At p) f = let g = sym (use_stays s w p k j h f) ∙ n in let o : ◌≡◌ {A = ℕ} 0 1 = cc in absurd (omega arith)
        by Use.New f = f

  later_differs : (j k : ℕ) (a b : Attribute) → j < k → said s j ≡ Item.Attribute a → said s k ≡ Item.Attribute b → bytes s a.name ≡ bytes s b.name → ⊥
  later_differs j k a b h e f g =
      use_found (bytes s b.name) j a e g (use_earlier (bytes s b.name) (suc j) k (omega arith) (read_said s k b f).new)

  -- THEOREM: "names answered in one tag are pairwise different by their bytes"
  pub names_are_pairwise_different : (j k : ℕ) (a b : Attribute) → said s j ≡ Item.Attribute a → said s k ≡ Item.Attribute b → bytes s a.name ≡ bytes s b.name → j ≡ k
  names_are_pairwise_different j k a b e f g = elim (dec_lt j k) [
    | yes h ↦ absurd (later_differs j k a b h e f g)
    | no h ↦ elim (dec_lt k j) [
      | yes l ↦ absurd (later_differs k j b a l f e (sym g))
      | no l ↦ omega arith
    ]
  ]

  -- ---- which call answers what

  -- THEOREM: at a place that so many calls reach, the next one's answer
  pub a_reached_place_gives_the_next_answer : (k : ℕ) → attribute_at s (name_len s) (place s k) ≡ said s k
  a_reached_place_gives_the_next_answer k =
      let f = calls_few s k in
      sym (answer_comes s (name_len s) (place s k) refl f.calls f.same (omega (arith, f.few, place_in s f.calls)))
      ∙ ap (λ (b : List Attribute). item_at s b (on_at s b)) (read_at s f.calls k f.same)

  -- THEOREM: "17 never comes at the first call" where the name length is right
  pub the_first_call_is_never_17 : (values_of (attribute_at s (name_len s) (name_len s))).number ≡ 17 → ⊥
  the_first_call_is_never_17 e =
      said_not_17 s 0
      (ap (λ (i : Item). (values_of i).number) (sym (a_reached_place_gives_the_next_answer 0) ∙ ap (attribute_at s (name_len s)) (place_first s)) ∙ e)

  -- THEOREM: "the place to go on": a call there answers what comes next, and not 17
  pub going_on_gives_the_next_answer : (k : ℕ) (a : Attribute) → said s k ≡ Item.Attribute a → attribute_at s (name_len s) a.next ≡ said s (suc k)
  going_on_gives_the_next_answer k a e =
      ap (attribute_at s (name_len s)) (sym (place_on s k a e))
      ∙ a_reached_place_gives_the_next_answer (suc k)

  module _ (name at : ℕ) where
    -- an answer other than 17 is that of a call from the name, at its place
    answered : (P : Item → Type 0) → P bad_state → ((k : ℕ) → name_len s ≡ name → place s k ≡ at → P (said s k)) → P (attribute_at s name at)
    unfolding attribute_at
    answered P bad good =
        pick_cases P (eqb (name_len s) name) (pick (is_at s at (calls_to s at)) (said s (calls_to s at)) bad_state) bad_state
        (λ e. pick_cases P (is_at s at (calls_to s at)) (said s (calls_to s at)) bad_state
        (λ f. good (calls_to s at) (eqb-true (name_len s) name e) (eqb-true (place s (calls_to s at)) at f))
        (λ f. bad))
        (λ e. bad)

    -- THEOREM: "17 first, at 0"
    pub seventeen_is_at_0 : (name_len s ≡ name → ⊥) ⊎ ((k : ℕ) → place s k ≡ at → ⊥) → attribute_at s name at ≡ bad_state
    seventeen_is_at_0 (inl n) = answered (λ (i : Item). i ≡ bad_state) refl (λ k e f. absurd (n e))
    seventeen_is_at_0 (inr n) = answered (λ (i : Item). i ≡ bad_state) refl (λ k e f. absurd (n k f))

    -- THEOREM: "17 .. if the name length isn't the one document 01 gives this content or the place to go on isn't one that reading from the name reaches", and only then
    pub seventeen_exactly_where_the_name_or_the_place_is_wrong : ((values_of (attribute_at s name at)).number ≡ 17)
        ↔ ((name_len s ≡ name → ⊥) ⊎ ((k : ℕ) → place s k ≡ at → ⊥))
    seventeen_exactly_where_the_name_or_the_place_is_wrong = (wrong s name at, λ h. ap (λ (i : Item). (values_of i).number) (seventeen_is_at_0 h))

    -- THEOREM: what is answered as an attribute has the grammar's shape
    pub an_answered_attribute_has_the_grammar's_shape : (a : Attribute) → attribute_at s name at ≡ Item.Attribute a → Shaped s at a
    an_answered_attribute_has_the_grammar's_shape a =
        answered (λ (i : Item). i ≡ Item.Attribute a → Shaped s at a) (λ e. let z : ◌≡◌ {A = ℕ} 0 1 = cc in absurd (omega arith))
        (λ k e f g. subst (λ (p : ℕ). Shaped s p a) f (said_shape s k a g))

    -- THEOREM: name and value lie in the content, in order, and the place to go on rises
    pub its_spans_stand_in_order : (a : Attribute) → attribute_at s name at ≡ Item.Attribute a
        → (at < a.name.from) × (a.name.from < a.name.to) × (a.name.to < a.value.from) × (a.value.from ≤ a.value.to) × (a.value.to < a.next) × (a.next ≤ length s)
    its_spans_stand_in_order a e =
        let w = an_answered_attribute_has_the_grammar's_shape a e in (
          w.name.apart,
          w.name.some,
          omega (arith, w.equals.space.order, w.equals.next, w.value.space.order, w.value.first),
          w.value.order,
          omega (arith, w.next),
          shape_within s at a w,
        )

  -- ---- an attribute, exactly

  -- a name that no attribute before has is new
  use_new : (w : List ℕ) (k : ℕ) → ((j : ℕ) (b : Attribute) → j < k → said s j ≡ Item.Attribute b → bytes s b.name ≡ w → ⊥) → use_in s (read_by s k) w ≡ Use.New
  use_new w zero f = use_none s w
  use_new w (suc k) f = by (went s k) (use_new w k (λ j b h. f j b (omega arith)))
    where
      by : Went s k → use_in s (read_by s k) w ≡ Use.New → use_in s (read_by s (suc k)) w ≡ Use.New
      by (on a e) r =
          ap (λ (b : List Attribute). use_in s b w) (read_on_lem s k a e)
          ∙ use_on s w a (read_by s k)
          ∙ rw (r, must_fail (same (bytes s a.name) w) (λ g. f k a (omega arith) e ((same_is (bytes s a.name) w).0 g))) refl
      by (stays n e) r = ap (λ (b : List Attribute). use_in s b w) e ∙ r

  -- THEOREM: a call gives an attribute exactly where the bytes have its shape and no attribute before has its name
  pub an_attribute_exactly_where_its_shape_stands_with_a_new_name : (k : ℕ) (a : Attribute)
      → (said s k ≡ Item.Attribute a)
      ↔ (Shaped s (place s k) a × ((j : ℕ) (b : Attribute) → j < k → said s j ≡ Item.Attribute b → bytes s b.name ≡ bytes s a.name → ⊥))
  an_attribute_exactly_where_its_shape_stands_with_a_new_name k a = (
    λ e. (said_shape s k a e, λ j b h f g. later_differs j k b a h f e g),
    λ h. an_attribute_answered s (read_by s k) (place s k) a (shape_back s (place s k) a h.0) (use_new (bytes s a.name) k h.1),
  )

  -- ---- looking one up

  module _ (wanted : List ℕ) where
    -- an answer that ends a search, and one that does not
    ends_there : (i : Item) → is_end s wanted i ≡ true → (a : Attribute) → i ≡ Item.Attribute a → bytes s a.name ≡ wanted
    ends_there i e a is = (same_is (bytes s a.name) wanted).0 (ap (is_end s wanted) (sym is) ∙ e)

    goes_on : (k : ℕ) → ends_at s wanted k ≡ false → Passed s wanted k
    goes_on k e = by (said s k) refl e
      where
        by : (i : Item) → said s k ≡ i → is_end s wanted i ≡ false → Passed s wanted k
        by (Item.Attribute a) f g = record { attribute = a; is = f; other = λ z. clash (same (bytes s a.name) wanted) ((same_is (bytes s a.name) wanted).1 z) g }
        by Item.Nothing f g = clash true refl g
        by (Item.Refused x) f g = clash true refl g

    -- some call ends it
    ends_by_then : ends_at s wanted (length s / 5) ≡ true
    ends_by_then = by (said s (length s / 5)) refl
      where
        by : (i : Item) → said s (length s / 5) ≡ i → is_end s wanted i ≡ true
        by (Item.Attribute a) f = absurd (none_or_a_refusal_comes_by_then s a f)
        by Item.Nothing f = refl
        by (Item.Refused x) f = refl

    -- THEOREM: "the value of the first attribute of that name, none, or the first refusal met before it"
    pub a_search_gives_the_first : Searched s wanted (find_of s (name_len s) wanted)
    unfolding find_of
    a_search_gives_the_first =
        rw (eq-eqb (name_len s) (name_len s) refl)
        (record {
          calls = first_call s (ends_at s wanted);
          is = refl;
          ends = ends_there (said s (first_call s (ends_at s wanted))) (first_passes (ends_at s wanted) (length s) 0 (length s / 5) (omega arith) (omega arith) ends_by_then);
          before = λ k h. goes_on k (first_before (ends_at s wanted) (length s) 0 k (omega arith) h);
        })

  -- THEOREM: a search with a wrong name length is 17
  pub a_search_with_a_wrong_name_length_is_17 : (name : ℕ) (wanted : List ℕ) → (name_len s ≡ name → ⊥) → find_of s name wanted ≡ bad_state
  unfolding find_of
  a_search_with_a_wrong_name_length_is_17 name wanted n = rw (ne_eqb (name_len s) name n) refl
