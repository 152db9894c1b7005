-- Texts that are written: what fits, the loop that writes a whole text, and one reference. A law for each way through the code. Assumes nothing.
use Prim.Native.Nat.{ℕ, zero, suc, ◌+◌, ◌-◌, ◌^◌, ◌≤◌, ◌<◌}
use mathlib.Core.Path.{◌≡◌, refl, sym, ap, ◌∙◌}
use mathlib.Core.Bool.{Bool, true, false}
use mathlib.Core.List.{List, [], ◌∷◌, ◌++◌}
use native.Mathlib.Omega.{arith}
use native.Mathlib.Decide.{dec_lt}
use lib.ListN.{length, get_or, take, drop, length-append, length-drop}
use lib.Seq.{drop-drop, length-take-le}
use lib.Dec.{eqb}
use mir.Val.{Fits}
use mir.Syntax.{w64}
use borrow.Author.Rules.{rules}
use borrow.Rule.Slice.PartMut.{mid_of, put_mid}
use Rattle.ground.specs.Bytes.{amp}
use Rattle.ground.specs.Part.{part}
use Rattle.ground.proofs.Choices.{by_true, pick_le, pick_nle}
use Rattle.ground.proofs.Lists.{drop_done, part_in}
use Rattle.white.specs.White.{until}
use Rattle.escape.specs.declared.answer.Fault.{Fault}
use Rattle.escape.specs.declared.answer.Refusal.{Refusal}
use Rattle.escape.specs.declared.answer.Written.{Written}
use Rattle.escape.specs.declared.reference.Reference.{Reference}
use Rattle.escape.specs.declared.text.Found.{Found}
use Rattle.escape.specs.Answers.{refused}
use Rattle.escape.specs.Scalar.{is_scalar, octets, Encoded}
use Rattle.escape.specs.Reference.{reference_of}
use Rattle.escape.specs.Text.{Text, not_written, fitting, character_of, one_text, is_byte, content_len, behind, onward, text_from, whole_text, written_of, over, left_of, Put}
use Rattle.escape.specs.Inside.{found_by, close_at, found_at, IsWhole}
use Rattle.escape.proofs.Encodes.{width_some}
use Rattle.escape.proofs.Numbers.{char_scalar, reference_proper}
use Rattle.escape.proofs.Over.{lent_length, back_over, back_same, over_nothing, over_length, over_more}
use Rattle.escape.proofs.Steps.{fitting_in, fitting_out, text_end_lem, text_amp, text_plain, run_fits, run_full, by_found, text_reference, whole_not}
use Rattle.escape.proofs.Measures.{first_after, first_within, found_closed, found_next}

-- ---- a text with no refusal, taken apart

pub record Behind (bs : List ℕ) (t : Text) (all : List ℕ) : Type 0 where
  pub bytes : List ℕ
  pub whole : t ≡ Text.Whole bytes
  pub joined : all ≡ bs ++ bytes

pub behind_whole : (bs : List ℕ) (t : Text) (all : List ℕ) → behind bs t ≡ Text.Whole all → Behind bs t all
behind_whole bs (Text.Whole cs) all e = let same : bs ++ cs ≡ all = cc in record { bytes = cs; whole = refl; joined = sym same }
behind_whole bs (Text.Refused x) all e = let z : ◌≡◌ {A = ℕ} 0 1 = cc in absurd (omega arith)

pub record Onward (t : Text) (rest : ℕ → Text) (all : List ℕ) : Type 0 where
  pub first : List ℕ
  pub item : t ≡ Text.Whole first
  pub more : Behind first (rest (length first)) all

pub onward_whole : (t : Text) (rest : ℕ → Text) (all : List ℕ) → onward t rest ≡ Text.Whole all → Onward t rest all
onward_whole (Text.Whole bs) rest all e = record { first = bs; item = refl; more = behind_whole bs (rest (length bs)) all e }
onward_whole (Text.Refused x) rest all e = let z : ◌≡◌ {A = ℕ} 0 1 = cc in absurd (omega arith)

pub fitting_whole : (size p : ℕ) (bs : List ℕ) (place : ℕ) (all : List ℕ) → fitting size p bs place ≡ Text.Whole all → (all ≡ bs) × (p + length bs ≤ size)
fitting_whole size p bs place all e =
    elim (dec_lt size (p + length bs)) [
      | yes h ↦ whole_not Fault.NoRoom place all (sym (fitting_out size p bs place h) ∙ e)
      | no h ↦
          let f : Text.Whole all ≡ Text.Whole bs = sym e ∙ fitting_in size p bs place (omega arith) in
          let same : all ≡ bs = cc in
          (same, omega arith)
    ]

character_whole : (size p place : ℕ) (r : Reference) (all : List ℕ) → character_of size p place r ≡ Text.Whole all → p + length all ≤ size
character_whole size p place Reference.NotOfForm all e = whole_not Fault.NotOfForm place all e
character_whole size p place Reference.NoCharacter all e = whole_not Fault.NoCharacter place all e
character_whole size p place (Reference.Character v) all e = let f = fitting_whole size p (octets v) place all e in omega (arith, ap length f.0)

-- ---- a text with no refusal fits

onward_fits : (size p : ℕ) (t : Text) (rest : ℕ → Text) (all : List ℕ) → onward t rest ≡ Text.Whole all
    → ((bs : List ℕ) → t ≡ Text.Whole bs → p + length bs ≤ size)
    → ((n : ℕ) (bs : List ℕ) → rest n ≡ Text.Whole bs → p + n + length bs ≤ size)
    → p + length all ≤ size
onward_fits size p t rest all e f g =
    let o = onward_whole t rest all e in
    let m = o.more in
    omega (arith, g (length o.first) m.bytes m.whole, length-append o.first m.bytes, ap length m.joined)

module _ (size : ℕ) where
  pub whole_fits : (k p i : ℕ) (bs all : List ℕ) → text_from size k p i bs ≡ Text.Whole all → p + length all ≤ size
  unfolding text_from
  whole_fits k p i [] all e = let f = fitting_whole size p [] i all e in omega (arith, ap length f.0)
  whole_fits (suc k) p i (b ∷ bs) all e = whole_fits k p (i + 1) bs all e
  whole_fits zero p i (b ∷ bs) all e = by (eqb b amp) refl (λ k q. whole_fits k q (i + 1) bs)
    where
      by : (x : Bool) → eqb b amp ≡ x → ((k q : ℕ) (all : List ℕ) → text_from size k q (i + 1) bs ≡ Text.Whole all → q + length all ≤ size) → p + length all ≤ size
      by false t r =
          onward_fits size p (fitting size p (b ∷ []) i) (λ n. text_from size 0 (p + n) (i + 1) bs) all (sym (text_plain size p i b bs t) ∙ e)
          (λ cs f. let g = fitting_whole size p (b ∷ []) i cs f in omega (arith, ap length g.0))
          (λ n cs f. r 0 (p + n) cs f)
      by true t r =
          elim (dec_lt (content_len bs) (length bs)) [
            | yes l ↦
                onward_fits size p (character_of size p i (reference_of (take (content_len bs) bs))) (λ n. text_from size (content_len bs + 1) (p + n) (i + 1) bs) all
                (pick_nle _ _ _ _ _ l refl ∙ sym (text_amp size p i b bs t) ∙ e)
                (character_whole size p i (reference_of (take (content_len bs) bs)))
                (λ n cs f. r (content_len bs + 1) (p + n) cs f)
            | no l ↦ let m : length bs ≤ content_len bs = omega arith in whole_not Fault.NotOfForm i all (pick_le _ _ _ _ _ m refl ∙ sym (text_amp size p i b bs t) ∙ e)
          ]

-- ---- the bytes of a character, where they fit and where not

module _ (v : ℕ) (out : List ℕ) (n : ℕ) (ys : List ℕ) (c : is_scalar v ≡ true) (x : Encoded v out n ys) where
  encoded_there : length (octets v) ≤ length out → (n ≡ length (octets v)) × (ys ≡ octets v ++ drop (length (octets v)) out)
  encoded_there h = (
    x.count ∙ sym (by_true _ _ _ _ c refl) ∙ sym (pick_le _ _ _ (length (octets v)) (length out) h refl),
    x.bytes ∙ sym (by_true _ _ _ _ c refl) ∙ sym (pick_le _ _ _ (length (octets v)) (length out) h refl),
  )

  encoded_nowhere : length out < length (octets v) → (n ≡ 0) × (ys ≡ out)
  encoded_nowhere h = (
    x.count ∙ sym (by_true _ _ _ _ c refl) ∙ sym (pick_nle _ _ _ (length (octets v)) (length out) h refl),
    x.bytes ∙ sym (by_true _ _ _ _ c refl) ∙ sym (pick_nle _ _ _ (length (octets v)) (length out) h refl),
  )

-- a character that was found is a scalar value
module _ (s : List ℕ) (from v next : ℕ) (f : Found) (e : f ≡ found_at s from) (g : f ≡ Found.Character v next) where
  named_scalar : (k : ℕ) (bs : List ℕ) (r : Reference) → r ≡ reference_of bs → found_by k r ≡ Found.Character v next → is_scalar v ≡ true
  named_scalar k bs Reference.NotOfForm q x = let z : ◌≡◌ {A = ℕ} 0 1 = cc in absurd (omega arith)
  named_scalar k bs Reference.NoCharacter q x = let z : ◌≡◌ {A = ℕ} 0 1 = cc in absurd (omega arith)
  named_scalar k bs (Reference.Character u) q x = let same : u ≡ v = cc in char_scalar v (reference_proper bs v (sym q ∙ ap Reference.Character same))

  found_scalar : is_scalar v ≡ true
  found_scalar = named_scalar (close_at s from + 1) (part s from (close_at s from)) (reference_of (part s from (close_at s from))) refl (found_closed s from v next f e g).1

-- ---- the loop that writes

-- what a loop knows that stands at i of the text and at p of the buffer g, where `final` is what is to be left
pub record Writing (s : List ℕ) (size : ℕ) (final : List ℕ) (i p : ℕ) (g : List ℕ) : Type 0 where
  pub rest : List ℕ
  pub whole : text_from size 0 p i (drop i s) ≡ Text.Whole rest
  pub same : final ≡ over g p rest
  pub long : length g ≡ size
  pub within : i ≤ length s

module _ (s : List ℕ) where
  pub write_start : (g : List ℕ) (at : ℕ) → IsWhole (whole_text s (length g) at) → Writing s (length g) (left_of g at (whole_text s (length g) at)) 0 at g
  write_start g at w = record { rest = w.bytes; whole = w.whole; same = ap (left_of g at) w.whole; long = refl; within = omega arith }

  module _ (size : ℕ) (final : List ℕ) (i p : ℕ) (g : List ℕ) (w : Writing s size final i p g) where
    pub writing_fits : p ≤ length g
    writing_fits = omega (arith, whole_fits size 0 p i (drop i s) w.rest w.whole, w.long)

    -- the end of the text
    pub writing_ends : length s ≤ i → g ≡ final
    writing_ends h =
        let e : fitting size p [] i ≡ Text.Whole w.rest = sym (ap (text_from size 0 p i) (drop_done s i h) ∙ text_end_lem size p i) ∙ w.whole in
        let f = fitting_whole size p [] i w.rest e in
        sym (w.same ∙ ap (over g p) f.0 ∙ over_nothing g p)

    -- plain bytes
    module _ (end : ℕ) (e : end ≡ i + until (is_byte amp) (drop i s)) where
      plain_room : p + (end - i) ≤ size
      plain_room =
          elim (dec_lt (size - p) (end - i)) [
            | yes h ↦ whole_not Fault.NoRoom (i + (size - p)) w.rest (sym (run_full size (end - i) (drop i s) p i (omega arith) h) ∙ w.whole)
            | no h ↦ omega (arith, whole_fits size 0 p i (drop i s) w.rest w.whole)
          ]

      pub plain_adds : size < 2 ^ 64 → Fits w64 (p + (end - i))
      plain_adds h = record { fits = omega (arith, plain_room) }

      module _ (bs : List ℕ) (b : bs ≡ part s i end) where
        plain_bytes : bs ≡ take (end - i) (drop i s)
        plain_bytes = b ∙ part_in s i end (first_after s amp i end e) (first_within s amp i end e w.within)

        plain_length : length bs ≡ end - i
        plain_length = ap length plain_bytes ∙ length-take-le (end - i) (drop i s) (omega (arith, length-drop i s, first_within s amp i end e w.within))

        pub plain_lent : length bs ≤ length (mid_of p (length g - p) g)
        plain_lent = omega (arith, plain_length, plain_room, lent_length g p, w.long)

        pub plain_written : (ys : List ℕ) → ys ≡ bs ++ drop (length bs) (mid_of p (length g - p) g) → Writing s size final end (p + (end - i)) (put_mid p (length g - p) g ys)
        plain_written ys f =
            record {
              rest = m.bytes;
              whole = m.whole;
              same = w.same ∙ ap (over g p) (m.joined ∙ ap (λ (r : List ℕ). r ++ m.bytes) (sym plain_bytes)) ∙ sym (over_more g p bs room m.bytes) ∙ ap (λ (k : ℕ). over (over g p bs) k m.bytes) up ∙ ap (λ (r : List ℕ). over r (p + (end - i)) m.bytes) (sym back);
              long = ap length back ∙ over_length g p bs room ∙ w.long;
              within = first_within s amp i end e w.within;
            }
          where
            room : p + length bs ≤ length g
            room = omega (arith, plain_length, plain_room, w.long)

            up : p + length bs ≡ p + (end - i)
            up = omega (arith, plain_length)

            back : put_mid p (length g - p) g ys ≡ over g p bs
            back = back_over g p bs ys f

            there : i + (end - i) ≡ end
            there = omega (arith, first_after s amp i end e)

            m : Behind (take (end - i) (drop i s)) (text_from size 0 (p + (end - i)) end (drop end s)) w.rest
            m =
                behind_whole (take (end - i) (drop i s)) (text_from size 0 (p + (end - i)) end (drop end s)) w.rest
                (ap (λ (j : ℕ). behind (take (end - i) (drop i s)) (text_from size 0 (p + (end - i)) j (drop j s))) (sym there)
                ∙ ap (λ (t : List ℕ). behind (take (end - i) (drop i s)) (text_from size 0 (p + (end - i)) (i + (end - i)) t)) (sym (drop-drop (end - i) i s))
                ∙ sym (run_fits size (end - i) (drop i s) p i (omega arith) plain_room)
                ∙ w.whole)

    -- a reference at i
    module _ (h : i < length s) (a : get_or s i 0 ≡ amp) (f : Found) (x : f ≡ found_at s (i + 1)) where
      found_whole : by_found size s p i f ≡ Text.Whole w.rest
      found_whole = ap (by_found size s p i) x ∙ sym (text_reference size s p i h a) ∙ w.whole

      pub never_refused : {A : Type 0} (fault : Fault) → f ≡ Found.Refused fault → A
      never_refused fault y = whole_not fault i w.rest (ap (by_found size s p i) (sym y) ∙ found_whole)

      module _ (v next : ℕ) (y : f ≡ Found.Character v next) where
        o : Onward (fitting size p (octets v) i) (λ n. text_from size 0 (p + n) next (drop next s)) w.rest
        o = onward_whole (fitting size p (octets v) i) (λ n. text_from size 0 (p + n) next (drop next s)) w.rest (ap (by_found size s p i) (sym y) ∙ found_whole)

        took : (o.first ≡ octets v) × (p + length (octets v) ≤ size)
        took = fitting_whole size p (octets v) i o.first o.item

        pub found_less : length s - next < length s - i
        found_less = omega (arith, found_next s (i + 1) v next f x y)

        module _ (n : ℕ) (ys : List ℕ) (z : Encoded v (mid_of p (length g - p) g) n ys) where
          wrote : (n ≡ length (octets v)) × (ys ≡ octets v ++ drop (length (octets v)) (mid_of p (length g - p) g))
          wrote = encoded_there v (mid_of p (length g - p) g) n ys (found_scalar s (i + 1) v next f x y) z (omega (arith, took.1, lent_length g p, w.long))

          pub found_adds : size < 2 ^ 64 → Fits w64 (p + n)
          found_adds l = record { fits = omega (arith, took.1, wrote.0) }

          pub found_written : Writing s size final next (p + n) (put_mid p (length g - p) g ys)
          found_written =
              record {
                rest = o.more.bytes;
                whole = ap (λ (k : ℕ). text_from size 0 (p + k) next (drop next s)) (wrote.0 ∙ ap length (sym took.0)) ∙ o.more.whole;
                same =
                    w.same
                    ∙ ap (over g p) (o.more.joined ∙ ap (λ (r : List ℕ). r ++ o.more.bytes) took.0)
                    ∙ sym (over_more g p (octets v) room o.more.bytes)
                    ∙ ap (λ (k : ℕ). over (over g p (octets v)) (p + k) o.more.bytes) (sym wrote.0)
                    ∙ ap (λ (r : List ℕ). over r (p + n) o.more.bytes) (sym back);
                long = ap length back ∙ over_length g p (octets v) room ∙ w.long;
                within = (found_next s (i + 1) v next f x y).1;
              }
            where
              room : p + length (octets v) ≤ length g
              room = omega (arith, took.1, w.long)

              back : put_mid p (length g - p) g ys ≡ over g p (octets v)
              back = back_over g p (octets v) ys wrote.1

-- ---- a text that was measured

pub measured_whole : (t : Text) (m : Written) (n : ℕ) → m ≡ written_of t → m ≡ Written.Bytes n → IsWhole t
measured_whole (Text.Whole bs) m n e f = record { bytes = bs; whole = refl }
measured_whole (Text.Refused x) m n e f = let z : ◌≡◌ {A = ℕ} 0 1 = cc in absurd (omega arith)

pub measured_refused : (t : Text) (m : Written) (x : Refusal) (g : List ℕ) (at : ℕ) → m ≡ written_of t → m ≡ Written.Refused x → Put t g at m g
measured_refused (Text.Whole bs) m x g at e f = let z : ◌≡◌ {A = ℕ} 0 1 = cc in absurd (omega arith)
measured_refused (Text.Refused y) m x g at e f = record { told = e; bytes = refl }

pub ruleset texts = (rules, measured_whole, measured_refused)

-- ---- one reference

module _ (content g : List ℕ) (at : ℕ) (c : Reference) (q : c ≡ reference_of content) where
  one_is_lem : (k : Reference) → c ≡ k → (r : Written) (g' : List ℕ) (t : Text) → character_of (length g) at 0 k ≡ t → r ≡ written_of t → g' ≡ left_of g at t → Put (one_text content (length g) at) g at r g'
  one_is_lem k x r g' t y z w =
      let e : one_text content (length g) at ≡ t = ap (character_of (length g) at 0) (sym q ∙ x) ∙ y in
      record { told = z ∙ ap written_of (sym e); bytes = w ∙ ap (left_of g at) (sym e) }

  pub one_not_of_form : c ≡ Reference.NotOfForm → (r : Written) → r ≡ refused Fault.NotOfForm 0 → Put (one_text content (length g) at) g at r g
  one_not_of_form x r z = one_is_lem Reference.NotOfForm x r g (not_written Fault.NotOfForm 0) refl z refl

  pub one_no_character : c ≡ Reference.NoCharacter → (r : Written) → r ≡ refused Fault.NoCharacter 0 → Put (one_text content (length g) at) g at r g
  one_no_character x r z = one_is_lem Reference.NoCharacter x r g (not_written Fault.NoCharacter 0) refl z refl

  module _ (v : ℕ) (x : c ≡ Reference.Character v) where
    pub one_past : length g < at → (r : Written) → r ≡ refused Fault.NoRoom 0 → Put (one_text content (length g) at) g at r g
    one_past l r z = one_is_lem (Reference.Character v) x r g (not_written Fault.NoRoom 0) (fitting_out (length g) at (octets v) 0 (omega arith)) z refl

    module _ (l : at ≤ length g) (n : ℕ) (ys : List ℕ) (y : Encoded v (mid_of at (length g - at) g) n ys) where
      scalar : is_scalar v ≡ true
      scalar = char_scalar v (reference_proper content v (sym q ∙ x))

      one_fits : Dec (length (mid_of at (length g - at) g) < length (octets v)) → (n ≡ 0 → ⊥) → length (octets v) ≤ length (mid_of at (length g - at) g)
      one_fits (yes h) s = absurd (s (encoded_nowhere v (mid_of at (length g - at) g) n ys scalar y h).0)
      one_fits (no h) s = omega arith

      one_full : Dec (length (mid_of at (length g - at) g) < length (octets v)) → n ≡ 0 → length (mid_of at (length g - at) g) < length (octets v)
      one_full (yes h) s = h
      one_full (no h) s = absurd (omega (arith, (width_some v).0, (encoded_there v (mid_of at (length g - at) g) n ys scalar y (omega arith)).0))

      pub one_no_room : n ≡ 0 → (r : Written) → r ≡ refused Fault.NoRoom 0 → Put (one_text content (length g) at) g at r (put_mid at (length g - at) g ys)
      one_no_room s r z =
          let h = one_full (dec_lt _ _) s in
          one_is_lem (Reference.Character v) x r (put_mid at (length g - at) g ys) (not_written Fault.NoRoom 0) (fitting_out (length g) at (octets v) 0 (omega (arith, lent_length g at))) z
          (back_same g at ys (encoded_nowhere v (mid_of at (length g - at) g) n ys scalar y h).1)

      pub one_written : (n ≡ 0 → ⊥) → Put (one_text content (length g) at) g at (Written.Bytes n) (put_mid at (length g - at) g ys)
      one_written s =
          let h = one_fits (dec_lt _ _) s in
          let w = encoded_there v (mid_of at (length g - at) g) n ys scalar y h in
          one_is_lem (Reference.Character v) x (Written.Bytes n) (put_mid at (length g - at) g ys) (Text.Whole (octets v)) (fitting_in (length g) at (octets v) 0 (omega (arith, lent_length g at)))
          (ap Written.Bytes w.0)
          (back_over g at (octets v) ys w.1)

pub ruleset ones = (rules, one_not_of_form, one_no_character, one_past, one_no_room, one_written)
