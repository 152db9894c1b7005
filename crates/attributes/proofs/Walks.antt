-- The loops that read a tag from its name, and what a call answers. Assumes nothing.
use Prim.Native.Nat.{ℕ, zero, suc, ◌+◌, ◌-◌, ◌*◌, ◌≤◌, ◌<◌}
use mathlib.Core.Path.{◌≡◌, refl, sym, ap, subst, ◌∙◌}
use mathlib.Core.List.{List}
use mathlib.Core.Bool.{Bool, true, false}
use native.Mathlib.Omega.{arith}
use native.Mathlib.Decide.{dec_lt}
use lib.ListN.{length, get_or, set, length-set}
use lib.Seq.{get_or-set_same, get_or-set_other}
use borrow.Author.Rules.{rules}
use borrow.Author.Tests.{eq-eqb, ne_eqb, eqb-true}
use Rattle.ground.specs.Choose.{pick}
use Rattle.ground.specs.Equal.{same}
use Rattle.ground.specs.Part.{part}
use Rattle.ground.proofs.Choices.{clash, must_fail, pick_cases}
use Rattle.ground.proofs.Equal.{same_is}
use Rattle.ground.proofs.Lists.{part_from}
use Rattle.white.specs.White.{is_white, name_len}
use Rattle.white.proofs.Runs.{until_within}
use Rattle.attributes.specs.declared.item.Attribute.{Attribute}
use Rattle.attributes.specs.declared.item.Refusal.{Refusal}
use Rattle.attributes.specs.declared.item.Item.{Item}
use Rattle.attributes.specs.declared.used.Use.{Use}
use Rattle.attributes.specs.Answers.{bad_state}
use Rattle.attributes.specs.Tag.{bytes, use_in, item_at, on_at, read_by, place, said, first_from, is_at, calls_to, attribute_at, is_end, ends_at, find_of}
use Rattle.attributes.specs.Inside.{Marks, mark_of, Marked, Comes, ItemTold}
use Rattle.attributes.proofs.Shapes.{an_attribute's_shape, shape_rises, shape_within}
use Rattle.attributes.proofs.Tags.{place_first, place_on, place_rises, read_on_lem, said_shape, read_at, read_stays, place_order, use_on, use_none}
use Rattle.attributes.proofs.Turns.{nearer}

-- ---- the first count of calls that passes a test

module _ (test : ℕ → Bool) where
  pub first_passes : (n i k : ℕ) → i ≤ k → k ≤ i + n → test k ≡ true → test (first_from test i n) ≡ true
  unfolding first_from
  first_passes zero i k h l e = let z : k ≡ i = omega arith in ap test (sym z) ∙ e
  first_passes (suc n) i k h l e =
      pick_cases (λ (m : ℕ). test m ≡ true) (test i) i (first_from test (i + 1) n) (λ t. t) (λ f. first_passes n (i + 1) k (later f) (omega arith) e)
    where
      later : test i ≡ false → i + 1 ≤ k
      later f = elim (dec_lt i k) [
        | yes g ↦ omega arith
        | no g ↦ let z : k ≡ i = omega arith in clash (test k) e (ap test z ∙ f)
      ]

  -- none before it does
  pub first_before : (n i k : ℕ) → i ≤ k → k < first_from test i n → test k ≡ false
  unfolding first_from
  first_before zero i k h l = absurd (omega arith)
  first_before (suc n) i k h l = by (test i) refl (first_before n (i + 1) k) l
    where
      by : (x : Bool) → test i ≡ x → (i + 1 ≤ k → k < first_from test (i + 1) n → test k ≡ false) → k < pick x i (first_from test (i + 1) n) → test k ≡ false
      by true e r m = absurd (omega arith)
      by false e r m = elim (dec_lt i k) [
        | yes g ↦ r (omega arith) m
        | no g ↦ let z : k ≡ i = omega arith in ap test z ∙ e
      ]

  first_is : (n i k : ℕ) → i ≤ k → k ≤ i + n → ((m : ℕ) → i ≤ m → m < k → test m ≡ false) → test k ≡ true → first_from test i n ≡ k
  unfolding first_from
  first_is zero i k h l f e = omega arith
  first_is (suc n) i k h l f e = elim (dec_lt i k) [
    | yes g ↦ rw (f i (omega arith) g) (first_is n (i + 1) k (omega arith) (omega arith) (λ m p. f m (omega arith)) e)
    | no g ↦ let z : k ≡ i = omega arith in rw (ap test (sym z) ∙ e) (sym z)
  ]

-- ---- what a call answers

-- the name length that the code has counted
pub length_is : (s : List ℕ) (n name : ℕ) → n ≡ name_len (part s 0 (length s)) → n ≡ name → name_len s ≡ name
length_is s n name e f = sym (ap name_len (part_from s 0)) ∙ sym e ∙ f

module _ (s : List ℕ) (name at : ℕ) where
  pub answer_no_name : (n : ℕ) (r : Item) → n ≡ name_len (part s 0 (length s)) → (n ≡ name → ⊥) → r ≡ bad_state → r ≡ attribute_at s name at
  unfolding attribute_at
  answer_no_name n r e f g = g ∙ rw (ne_eqb (name_len s) name (λ z. f (e ∙ ap name_len (part_from s 0) ∙ z))) refl

  module _ (h : name_len s ≡ name) where
    pub answer_never : ((k : ℕ) → place s k ≡ at → ⊥) → bad_state ≡ attribute_at s name at
    unfolding attribute_at
    answer_never n =
        rw (eq-eqb (name_len s) name h, must_fail (is_at s at (calls_to s at)) (λ t. n (calls_to s at) (eqb-true (place s (calls_to s at)) at t))) refl

    pub answer_comes : (k : ℕ) → place s k ≡ at → k ≤ length s → said s k ≡ attribute_at s name at
    unfolding attribute_at
    answer_comes k e l =
        let t : is_at s at (calls_to s at) ≡ true = first_passes (is_at s at) (length s) 0 k (omega arith) (omega arith) (eq-eqb (place s k) at e) in
        let r : read_by s k ≡ read_by s (calls_to s at) = read_at s k (calls_to s at) (e ∙ sym (eqb-true (place s (calls_to s at)) at t)) in
        rw (eq-eqb (name_len s) name h, t) (ap (λ (b : List Attribute). item_at s b (on_at s b)) r)

module _ (s : List ℕ) (name : ℕ) (wanted : List ℕ) where
  pub search_no_name : (n : ℕ) (r : Item) → n ≡ name_len (part s 0 (length s)) → (n ≡ name → ⊥) → r ≡ bad_state → r ≡ find_of s name wanted
  unfolding find_of
  search_no_name n r e f g = g ∙ rw (ne_eqb (name_len s) name (λ z. f (e ∙ ap name_len (part_from s 0) ∙ z))) refl

  search_ends : name_len s ≡ name → (k : ℕ) → k ≤ length s → ((m : ℕ) → m < k → ends_at s wanted m ≡ false) → ends_at s wanted k ≡ true → said s k ≡ find_of s name wanted
  unfolding find_of
  search_ends h k l f e =
      rw (eq-eqb (name_len s) name h, first_is (ends_at s wanted) (length s) 0 k (omega arith) (omega arith) (λ m p. f m) e) refl

-- ---- a walk from the name

-- the loop stands at a place that so many calls reach, with the names before it marked; none of the calls before has what ends the loop
pub record Walked (s : List ℕ) (name : ℕ) (on : ℕ → Type 0) (seen : List ℕ) (from : ℕ) : Type 0 where
  pub calls : ℕ
  pub comes : Comes s name from calls
  pub marked : Marked s (read_by s calls) seen
  pub before : (k : ℕ) → k < calls → on k
  pub few : calls * 5 ≤ from
  pub inside : from ≤ length s

module _ (s : List ℕ) (name : ℕ) (on : ℕ → Type 0) (seen : List ℕ) where
  walk_start : name_len s ≡ name → Walked s name on seen name
  walk_start h =
      record {
        calls = 0;
        comes = record { length = h; place = place_first s ∙ h };
        marked = λ w z. use_none s w;
        before = λ k l. absurd (omega arith);
        few = omega arith;
        inside = omega (arith, until_within is_white s);
      }

  module _ (from : ℕ) (v : Walked s name on seen from) where
    -- there are no more calls than bytes
    walk_few : v.calls ≤ length s
    walk_few = omega (arith, v.few, v.inside)

    module _ (item : Item) (t : ItemTold s name from seen item) where
      walk_said : item ≡ said s v.calls
      walk_said = t.told v.calls v.comes v.marked

      module _ (a : Attribute) (is : item ≡ Item.Attribute a) where
        walk_attribute : said s v.calls ≡ Item.Attribute a
        walk_attribute = sym walk_said ∙ is

        walk_marked : (mark : ℕ) → mark ≡ mark_of (length seen) (bytes s a.name) → mark < length seen → Marked s (read_by s (suc v.calls)) (set seen mark 1)
        walk_marked mark e l w z =
            let same_size : length (set seen mark 1) ≡ length seen = length-set seen mark 1 in
            let m : ℕ = mark_of (length seen) w in
            let free : get_or (set seen mark 1) m 0 ≡ 0 = ap (λ (n : ℕ). get_or (set seen mark 1) (mark_of n w) 0) (sym same_size) ∙ z in
            let apart : (m ≡ mark → ⊥) = λ (g : m ≡ mark).
            let o : ◌≡◌ {A = ℕ} 0 1 = sym free ∙ ap (λ (i : ℕ). get_or (set seen mark 1) i 0) g ∙ get_or-set_same seen mark 1 0 l in
            omega arith in
            let new : use_in s (read_by s v.calls) w ≡ Use.New = v.marked w (sym (get_or-set_other seen mark m 1 0 apart) ∙ free) in
            let other : same (bytes s a.name) w ≡ false =
            must_fail (same (bytes s a.name) w) (λ g. apart (sym (e ∙ ap (mark_of (length seen)) ((same_is (bytes s a.name) w).0 g)))) in
            ap (λ (b : List Attribute). use_in s b w) (read_on_lem s v.calls a walk_attribute) ∙ use_on s w a (read_by s v.calls) ∙ rw (new, other) refl

        walk_turn : (mark : ℕ) → mark ≡ mark_of (length seen) (bytes s a.name) → mark < length seen → on v.calls → Walked s name on (set seen mark 1) a.next
        walk_turn mark e l p =
            let n : place s (suc v.calls) ≡ a.next = place_on s v.calls a walk_attribute in
            record {
              calls = suc v.calls;
              comes = record { length = v.comes.length; place = n };
              marked = walk_marked mark e l;
              before = λ k h. later k h;
              few = omega (arith, v.few, v.comes.place, place_rises s v.calls a walk_attribute, n);
              inside = shape_within s (place s v.calls) a (said_shape s v.calls a walk_attribute);
            }
          where
            later : (k : ℕ) → k < suc v.calls → on k
            later k h = elim (dec_lt k v.calls) [
              | yes g ↦ v.before k g
              | no g ↦ let z : v.calls ≡ k = omega arith in subst on z p
            ]

-- a table of marks keeps its length
pub marks_still : (seen : List ℕ) (mark : ℕ) → Marks (length seen) → Marks (length (set seen mark 1))
marks_still seen mark m = rw (length-set seen mark 1) m

-- ---- the walk to a place

abbrev pub Elsewhere : List ℕ → ℕ → ℕ → Type 0
Elsewhere s at k = place s k ≡ at → ⊥

module _ (s : List ℕ) (name at : ℕ) (seen : List ℕ) where
  pub go_start : (n : ℕ) → n ≡ name_len (part s 0 (length s)) → n ≡ name → Walked s name (Elsewhere s at) seen name
  go_start n e f = walk_start s name (Elsewhere s at) seen (length_is s n name e f)

  module _ (from : ℕ) (v : Walked s name (Elsewhere s at) seen from) where
    pub go_over : (r : Item) → at ≤ from → (from ≡ at → ⊥) → r ≡ bad_state → r ≡ attribute_at s name at
    go_over r l n e = e ∙ answer_never s name at v.comes.length never
      where
        never : (k : ℕ) → place s k ≡ at → ⊥
        never k p = elim (dec_lt k v.calls) [
          | yes g ↦ v.before k g p
          | no g ↦ n (omega (arith, place_order s k v.calls (omega arith), v.comes.place))
        ]

    pub go_here : (item : Item) → from ≡ at → ItemTold s name at seen item → item ≡ attribute_at s name at
    go_here item e t =
        t.told v.calls (record { length = v.comes.length; place = v.comes.place ∙ e }) v.marked
        ∙ answer_comes s name at v.comes.length v.calls (v.comes.place ∙ e) (walk_few s name (Elsewhere s at) seen from v)

    module _ (item : Item) (t : ItemTold s name from seen item) where
      module _ (l : from < at) where
        go_stuck : ((a : Attribute) → item ≡ Item.Attribute a → ⊥) → bad_state ≡ attribute_at s name at
        go_stuck n = answer_never s name at v.comes.length never
          where
            never : (k : ℕ) → place s k ≡ at → ⊥
            never k p = elim (dec_lt k v.calls) [
              | yes g ↦ v.before k g p
              | no g ↦
                  let r : read_by s k ≡ read_by s v.calls =
                  read_stays s k v.calls (omega arith) (λ a e. n a (walk_said s name (Elsewhere s at) seen from v item t ∙ e)) in
                  omega (arith, ap (on_at s) r, v.comes.place)
            ]

        pub go_nothing : (r : Item) → item ≡ Item.Nothing → r ≡ bad_state → r ≡ attribute_at s name at
        go_nothing r is e = e ∙ go_stuck (λ a f. let z : ◌≡◌ {A = ℕ} 0 1 = cc in omega arith)

        pub go_refused : (r : Item) (x : Refusal) → item ≡ Item.Refused x → r ≡ bad_state → r ≡ attribute_at s name at
        go_refused r x is e = e ∙ go_stuck (λ a f. let z : ◌≡◌ {A = ℕ} 0 1 = cc in omega arith)

        module _ (a : Attribute) (is : item ≡ Item.Attribute a) where
          pub go_less : at - a.next < at - from
          go_less = nearer s at from item a l (is ∙ sym (t.shaped a is)) is

          pub go_turn : (mark : ℕ) → mark ≡ mark_of (length seen) (bytes s a.name) → mark < length seen → Walked s name (Elsewhere s at) (set seen mark 1) a.next
          go_turn mark e m = walk_turn s name (Elsewhere s at) seen from v item t a is mark e m (λ p. omega (arith, v.comes.place))

pub ruleset goes = (rules, marks_still, answer_no_name, go_start, go_over, go_here, go_nothing, go_refused, go_less, go_turn)

-- ---- the walk to a name

abbrev pub Onward : List ℕ → List ℕ → ℕ → Type 0
Onward s wanted k = ends_at s wanted k ≡ false

module _ (s : List ℕ) (name : ℕ) (wanted seen : List ℕ) where
  pub look_start : (n : ℕ) → n ≡ name_len (part s 0 (length s)) → n ≡ name → Walked s name (Onward s wanted) seen name
  look_start n e f = walk_start s name (Onward s wanted) seen (length_is s n name e f)

  module _ (from : ℕ) (v : Walked s name (Onward s wanted) seen from) (item : Item) (t : ItemTold s name from seen item) where
    said_is : item ≡ said s v.calls
    said_is = walk_said s name (Onward s wanted) seen from v item t

    look_ends : is_end s wanted item ≡ true → item ≡ find_of s name wanted
    look_ends e =
        said_is
        ∙ search_ends s name wanted v.comes.length v.calls (walk_few s name (Onward s wanted) seen from v) v.before (ap (is_end s wanted) (sym said_is) ∙ e)

    pub look_nothing : item ≡ Item.Nothing → item ≡ find_of s name wanted
    look_nothing is = look_ends (ap (is_end s wanted) is)

    pub look_refused : (x : Refusal) → item ≡ Item.Refused x → item ≡ find_of s name wanted
    look_refused x is = look_ends (ap (is_end s wanted) is)

    module _ (a : Attribute) (is : item ≡ Item.Attribute a) where
      pub look_less : length s - a.next < length s - from
      look_less =
          let w = an_attribute's_shape s from a (t.shaped a is) in
          omega (arith, shape_rises s from a w, shape_within s from a w)

      module _ (w : List ℕ) (x : Bool) (ew : w ≡ part s a.name.from a.name.to) (ex : x ≡ same w wanted) where
        end_is : is_end s wanted item ≡ x
        end_is = ap (is_end s wanted) is ∙ rw (← ew) (sym ex)

        pub look_found : x ≡ true → Item.Attribute a ≡ find_of s name wanted
        look_found e = sym is ∙ look_ends (end_is ∙ e)

        pub look_turn : x ≡ false → (mark : ℕ) → mark ≡ mark_of (length seen) (bytes s a.name) → mark < length seen → Walked s name (Onward s wanted) (set seen mark 1) a.next
        look_turn e mark f m =
            walk_turn s name (Onward s wanted) seen from v item t a is mark f m (ap (is_end s wanted) (sym said_is) ∙ end_is ∙ e)

pub ruleset looks = (rules, marks_still, search_no_name, look_start, look_nothing, look_refused, look_less, look_found, look_turn)
