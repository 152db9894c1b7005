-- The definitions of specs/Grammar say what the words say: an attribute stands exactly where the bytes have the grammar's shape, whatever names came before. Assumes nothing.
use Prim.Native.Nat.{ℕ, zero, suc, ◌+◌, ◌-◌, ◌≤◌, ◌<◌}
use mathlib.Core.Path.{◌≡◌, refl, sym, ap, ◌∙◌}
use mathlib.Core.List.{List}
use mathlib.Core.Bool.{Bool, true, false, not}
use mathlib.Core.Logic.{◌↔◌, ⊎_elim}
use native.Mathlib.Omega.{arith}
use native.Mathlib.Decide.{dec_lt}
use lib.ListN.{length, drop, length-drop}
use lib.Seq.{get_or-drop}
use lib.Dec.{leb, eqb}
use borrow.Author.Tests.{eq-eqb, ne_eqb, eqb-true, eqb-false, lt-leb, leb-false}
use Rattle.ground.specs.Choose.{pick}
use Rattle.ground.specs.Bytes.{quot, apos, lt}
use Rattle.ground.proofs.Choices.{clash, pick_cases, not_false}
use Rattle.ground.proofs.Lists.{byte_past}
use Rattle.white.specs.White.{is_white, not_white, until}
use Rattle.white.proofs.Runs.{until_here, until_next, until_byte, until_inside}
use Rattle.white.proofs.Words.{until_at}
use Rattle.attributes.specs.declared.equals.Equals.{Equals}
use Rattle.attributes.specs.declared.item.Extent.{Extent}
use Rattle.attributes.specs.declared.item.Attribute.{Attribute}
use Rattle.attributes.specs.declared.item.Item.{Item}
use Rattle.attributes.specs.declared.name.Named.{Named}
use Rattle.attributes.specs.declared.value.Valued.{Valued}
use Rattle.attributes.specs.Answers.{extent}
use Rattle.attributes.specs.Grammar.{is_quote, ends_name, ends_value, equals_sign, byte, past, name_end, value_end, name_from, name_at, equals_at, quoted_from, value_at, with_value, with_equals, with_name, named, shape_at}
use Rattle.attributes.specs.Words.{Each, Space, SpaceName, Sign, Quoted, Shaped}

-- ---- runs

-- a byte for which a test passes that 0 fails stands in the content
pub passes_in : (test : ℕ → Bool) → test 0 ≡ false → (s : List ℕ) (i : ℕ) → test (byte s i) ≡ true → i < length s
passes_in test z s i e = elim (dec_lt i (length s)) [
  | yes h ↦ h
  | no h ↦ clash (test (byte s i)) e (ap test (sym (byte_past s i (omega arith))) ∙ z)
]

module _ (test : ℕ → Bool) (s : List ℕ) where
  -- up to where a run ends no byte passes
  run_each : (from : ℕ) → Each test false s from (from + until test (drop from s))
  run_each from k h l =
      let e : from + (k - from) ≡ k = omega arith in
      ap (λ (n : ℕ). test (byte s n)) (sym e) ∙ (until_byte test s from (k - from) (omega arith)).1

  pub run_within : (from : ℕ) → from ≤ length s → from + until test (drop from s) ≤ length s
  run_within from h = omega (arith, until_inside test s from)

  -- where it ends in the content, a byte passes
  run_passes : (from : ℕ) → from + until test (drop from s) < length s → test (byte s (from + until test (drop from s))) ≡ true
  run_passes from l =
      ⊎_elim (λ e. absurd (omega (arith, e, length-drop from s)))
      (λ h. ap test (sym (get_or-drop from s (until test (drop from s)) 0)) ∙ h.1)
      (until_at test (drop from s))

  -- and a run up to a byte that passes, with none before it, ends there
  run_is : (n from to : ℕ) → to ≡ from + n → Each test false s from to → to < length s → test (byte s to) ≡ true → from + until test (drop from s) ≡ to
  run_is zero from to e f l t =
      let z : to ≡ from = omega arith in
      omega (arith, until_here test s from (omega arith) (ap (λ (k : ℕ). test (byte s k)) (sym z) ∙ t))
  run_is (suc n) from to e f l t =
      omega (
        arith,
        until_next test s from (omega arith) (f from (omega arith) (omega arith)),
        run_is n (from + 1) to (omega arith) (λ k h. f k (omega arith)) l t,
      )

-- white space, by the run of what is none
module _ (s : List ℕ) where
  past_space : (at : ℕ) → Space s at (past s at)
  unfolding past
  past_space at = record { order = omega arith; white = λ k h l. not_false (is_white (byte s k)) (run_each not_white s at k h l) }

  past_is_behind : (at to : ℕ) → Space s at to → to < length s → is_white (byte s to) ≡ false → past s at ≡ to
  unfolding past
  past_is_behind at to sp l e = run_is not_white s (to - at) at to (omega (arith, sp.order)) (λ k h m. ap not (sp.white k h m)) l (ap not e)

-- ---- the stages, forward

whole_name : (s : List ℕ) (at from : ℕ) → Space s at from → from < length s → (from ≡ at → ⊥) → (name_end s from ≡ from → ⊥) → SpaceName s at (extent from (name_end s from))
unfolding name_end
whole_name s at from sp l e f =
    record {
      space = sp;
      apart = omega (arith, sp.order, e);
      some = omega (arith, f);
      plain = run_each ends_name s from;
      within = run_within ends_name s from (omega arith);
    }

-- what an answer says in words, where it is no refusal
abbrev pub NamedAs : List ℕ → ℕ → Named → Type 0
NamedAs s at Named.Nothing = Unit {0}
NamedAs s at (Named.Refused x) = Unit {0}
NamedAs s at (Named.Name name) = SpaceName s at name

abbrev pub EqualsAs : List ℕ → ℕ → Equals → Type 0
EqualsAs s at (Equals.Refused x) = Unit {0}
EqualsAs s at (Equals.Before behind) = Sign s at behind

abbrev pub ValuedAs : List ℕ → ℕ → Valued → Type 0
ValuedAs s at (Valued.Refused x) = Unit {0}
ValuedAs s at (Valued.Value value) = Quoted s at value

-- the byte at which a value stops, where it is no `<`, is the quote
stops_at : (quote b : ℕ) → ends_value quote b ≡ true → eqb b lt ≡ false → b ≡ quote
stops_at quote b e f = by (eqb b quote) refl e
  where
    by : (x : Bool) → eqb b quote ≡ x → pick x true (eqb b lt) ≡ true → b ≡ quote
    by true g h = eqb-true b quote g
    by false g h = clash (eqb b lt) h f

quoted_words : (s : List ℕ) (at opening : ℕ) → Space s at opening → is_quote (byte s opening) ≡ true → ValuedAs s at (quoted_from s (byte s opening) (opening + 1))
unfolding quoted_from value_end
quoted_words s at opening sp q =
    let quote : ℕ = byte s opening in
    let to : ℕ = opening + 1 + until (ends_value quote) (drop (opening + 1) s) in
    pick_cases (ValuedAs s at) (leb (length s) to) _ _ (λ l. tt)
    (λ l. pick_cases (ValuedAs s at) (eqb (byte s to) lt) _ _ (λ z. tt)
    (λ z.
    let inside : to < length s = leb-false (length s) to l in
    record {
      opening = opening;
      space = sp;
      quote = q;
      first = refl;
      order = omega arith;
      plain = run_each (ends_value quote) s (opening + 1);
      closed = stops_at quote (byte s to) (run_passes (ends_value quote) s (opening + 1) inside) z;
      within = inside;
    }))

module _ (s : List ℕ) (at : ℕ) where
  pub name_words : NamedAs s at (name_at s at)
  unfolding name_at name_from
  name_words =
      pick_cases (NamedAs s at) (leb (length s) (past s at)) _ _ (λ l. tt)
      (λ l. pick_cases (NamedAs s at) (eqb (past s at) at) _ _ (λ e. tt)
      (λ e. pick_cases (NamedAs s at) (eqb (name_end s (past s at)) (past s at)) _ _ (λ f. tt)
      (λ f. whole (leb-false (length s) (past s at) l) (eqb-false (past s at) at e) (eqb-false (name_end s (past s at)) (past s at) f))))
    where
      whole : past s at < length s → (past s at ≡ at → ⊥) → (name_end s (past s at) ≡ past s at → ⊥) → SpaceName s at (extent (past s at) (name_end s (past s at)))
      whole l e f = whole_name s at (past s at) (past_space s at) l e f

  pub equals_words : EqualsAs s at (equals_at s at)
  unfolding equals_at
  equals_words =
      pick_cases (EqualsAs s at) (eqb (byte s (past s at)) equals_sign) _ _
      (λ e. record {
        sign = past s at;
        space = past_space s at;
        is = eqb-true (byte s (past s at)) equals_sign e;
        next = refl;
        within = omega (arith, passes_in (λ (b : ℕ). eqb b equals_sign) refl s (past s at) e);
      })
      (λ e. tt)

  pub value_words : ValuedAs s at (value_at s at)
  unfolding value_at
  value_words =
      pick_cases (ValuedAs s at) (is_quote (byte s (past s at))) _ _
      (λ q. quoted_words s at (past s at) (past_space s at) q)
      (λ q. tt)

-- ---- an attribute, forward

abbrev pub ItemAs : List ℕ → ℕ → Item → Type 0
ItemAs s at Item.Nothing = Unit {0}
ItemAs s at (Item.Refused x) = Unit {0}
ItemAs s at (Item.Attribute a) = Shaped s at a

module _ (s : List ℕ) (at : ℕ) (name : Extent) (n : SpaceName s at name) where
  with_value_lem : (behind : ℕ) → Sign s name.to behind → (v : Valued) → ValuedAs s behind v → ItemAs s at (with_value name v)
  with_value_lem behind g (Valued.Refused x) w = tt
  with_value_lem behind g (Valued.Value value) w = record { name = n; behind = behind; equals = g; value = w; next = refl }

  with_equals_lem : (q : Equals) → EqualsAs s name.to q → ItemAs s at (with_equals s name q)
  with_equals_lem (Equals.Refused x) g = tt
  with_equals_lem (Equals.Before behind) g = with_value_lem behind g (value_at s behind) (value_words s behind)

  named_words : ItemAs s at (named s name)
  unfolding named
  named_words = with_equals_lem (equals_at s name.to) (equals_words s name.to)

with_name_lem : (s : List ℕ) (at : ℕ) (q : Named) → NamedAs s at q → ItemAs s at (with_name s q)
with_name_lem s at Named.Nothing w = tt
with_name_lem s at (Named.Refused x) w = tt
with_name_lem s at (Named.Name name) w = named_words s at name w

shape_words : (s : List ℕ) (at : ℕ) → ItemAs s at (shape_at s at)
unfolding shape_at
shape_words s at = with_name_lem s at (name_at s at) (name_words s at)

-- what is answered as an attribute has the grammar's shape
pub an_attribute's_shape : (s : List ℕ) (at : ℕ) (a : Attribute) → shape_at s at ≡ Item.Attribute a → Shaped s at a
an_attribute's_shape s at a e = rw e at (shape_words s at)

-- ---- and back

-- a byte of a name is no white space, nor are `=` and quotes
not_white_lem : (b : ℕ) → ends_name b ≡ false → is_white b ≡ false
not_white_lem b e = by (is_white b) e
  where
    by : (x : Bool) → pick x true (pick (eqb b equals_sign) true (is_quote b)) ≡ false → x ≡ false
    by true h = h
    by false h = refl

module _ (s : List ℕ) (at : ℕ) (name : Extent) (n : SpaceName s at name) where
  name_back : ends_name (byte s name.to) ≡ true → name.to < length s → name_at s at ≡ Named.Name name
  unfolding name_at name_from name_end
  name_back e l =
      let here : past s at ≡ name.from = past_is_behind s at name.from n.space (omega (arith, n.some)) (not_white_lem (byte s name.from) (n.plain name.from (omega arith) n.some)) in
      let to : name.from + until ends_name (drop name.from s) ≡ name.to = run_is ends_name s (name.to - name.from) name.from name.to (omega (arith, n.some)) n.plain l e in
      rw (here, lt-leb (length s) name.from (omega (arith, n.some)), ne_eqb name.from at (λ z. omega (arith, n.apart)), to, ne_eqb name.to name.from (λ z. omega (arith, n.some))) refl

-- a quote is neither white space nor `<`
module _ (b : ℕ) where
  by_quote : (P : ℕ → Type 0) → P quot → P apos → is_quote b ≡ true → P b
  by_quote P p q e = by (eqb b quot) refl e
    where
      by : (x : Bool) → eqb b quot ≡ x → pick x true (eqb b apos) ≡ true → P b
      by true g h = rw (eqb-true b quot g) p
      by false g h = rw (eqb-true b apos h) q

  quote_not_white : is_quote b ≡ true → is_white b ≡ false
  quote_not_white = by_quote (λ (k : ℕ). is_white k ≡ false) refl refl

  quote_not_less : is_quote b ≡ true → eqb b lt ≡ false
  quote_not_less = by_quote (λ (k : ℕ). eqb k lt ≡ false) refl refl

module _ (s : List ℕ) (at : ℕ) where
  sign_back : (behind : ℕ) → Sign s at behind → equals_at s at ≡ Equals.Before behind
  unfolding equals_at
  sign_back behind g =
      let here : past s at ≡ g.sign = past_is_behind s at g.sign g.space (omega (arith, g.next, g.within)) (ap is_white g.is) in
      rw (here, eq-eqb (byte s g.sign) equals_sign g.is) (ap Equals.Before (sym g.next))

  -- it ends a name before it
  sign_ends : (behind : ℕ) → Sign s at behind → (ends_name (byte s at) ≡ true) × (at < length s)
  sign_ends behind g = elim (dec_lt at g.sign) [
    | yes h ↦ (ap (λ (x : Bool). pick x true (pick (eqb (byte s at) equals_sign) true (is_quote (byte s at)))) (g.space.white at (omega arith) h), omega (arith, g.next, g.within))
    | no h ↦
        let z : at ≡ g.sign = omega (arith, g.space.order) in
        (ap (λ (k : ℕ). ends_name (byte s k)) z ∙ ap ends_name g.is, omega (arith, g.next, g.within))
  ]

  value_back : (value : Extent) → Quoted s at value → value_at s at ≡ Valued.Value value
  unfolding value_at quoted_from value_end
  value_back value v =
      let quote : ℕ = byte s v.opening in
      let here : past s at ≡ v.opening = past_is_behind s at v.opening v.space (omega (arith, v.first, v.order, v.within)) (quote_not_white quote v.quote) in
      let closes : ends_value quote (byte s value.to) ≡ true = ap (λ (x : Bool). pick x true (eqb (byte s value.to) lt)) (eq-eqb (byte s value.to) quote v.closed) in
      let to : value.from + until (ends_value quote) (drop value.from s) ≡ value.to =
      run_is (ends_value quote) s (value.to - value.from) value.from value.to (omega (arith, v.order)) v.plain v.within closes in
      rw (here, v.quote, ← v.first, to, lt-leb (length s) value.to v.within, v.closed, quote_not_less quote v.quote) refl

-- what has the grammar's shape is answered as an attribute
pub shape_back : (s : List ℕ) (at : ℕ) (a : Attribute) → Shaped s at a → shape_at s at ≡ Item.Attribute a
unfolding shape_at named
shape_back s at a w =
    let ends = sign_ends s a.name.to w.behind w.equals in
    rw (name_back s at a.name w.name ends.0 ends.1, sign_back s a.name.to w.behind w.equals, value_back s w.behind a.value w.value, ← w.next) refl

-- THE GRAMMAR: an attribute stands at a place exactly where the bytes have its shape
pub an_attribute_is_one_of_the_grammar : (s : List ℕ) (at : ℕ) (a : Attribute) → (shape_at s at ≡ Item.Attribute a) ↔ Shaped s at a
an_attribute_is_one_of_the_grammar s at a = (an_attribute's_shape s at a, shape_back s at a)

-- its ends stand in order in the content, and it takes five bytes at least
module _ (s : List ℕ) (at : ℕ) (a : Attribute) (w : Shaped s at a) where
  pub shape_rises : at + 5 ≤ a.next
  shape_rises =
      omega
      (arith, w.name.apart, w.name.some, w.equals.space.order, w.equals.next, w.value.space.order, w.value.first, w.value.order, w.next)

  pub shape_within : a.next ≤ length s
  shape_within = omega (arith, w.next, w.value.within)
