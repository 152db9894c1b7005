-- A whole text in words: each reference replaced and nothing else, or the first refusal from the left. Assumes nothing.
use Prim.Native.Nat.{ℕ, zero, suc, ◌+◌, ◌-◌, ◌≤◌, ◌<◌}
use mathlib.Core.Path.{◌≡◌, refl, sym, ap, ◌∙◌, subst}
use mathlib.Core.Bool.{Bool, true, false}
use mathlib.Core.Logic.{◌⊎◌, inl, inr}
use mathlib.Core.List.{List, [], ◌∷◌, ◌++◌, append_assoc, append-nil}
use native.Mathlib.Omega.{arith}
use native.Mathlib.Nat.{add-zero}
use native.Mathlib.Numerals.{add-one}
use native.Mathlib.Decide.{dec_lt}
use lib.ListN.{length, take, length-append}
use lib.Seq.{take_at, drop-append-add}
use lib.Dec.{eqb}
use borrow.Author.Tests.{eq-eqb, ne_eqb, eqb-true}
use Rattle.ground.specs.Choose.{pick}
use Rattle.ground.specs.Bytes.{amp, semicolon}
use Rattle.ground.proofs.Choices.{pick_le, pick_nle, clash}
use Rattle.white.specs.White.{until}
use Rattle.escape.specs.declared.answer.Fault.{Fault}
use Rattle.escape.specs.declared.reference.Reference.{Reference}
use Rattle.escape.specs.Scalar.{octets}
use Rattle.escape.specs.Reference.{reference_of}
use Rattle.escape.specs.Text.{Text, not_written, fitting, character_of, is_byte, content_len, behind, onward, text_from}
use Rattle.escape.specs.Words.{Without, Replaced, Placed, Fails}
use Rattle.escape.specs.Words.Without.{none, also}
use Rattle.escape.specs.Words.Replaced.{nothing, plain, reference}
use Rattle.escape.specs.Words.Fails.{unclosed, formless, valueless, character, byte, end}
use Rattle.escape.proofs.Encodes.{width_some}
use Rattle.escape.proofs.Steps.{behind_nothing, behind_more, onward_same, fitting_in, fitting_out, text_skip, text_end_lem, text_plain, text_amp}

-- ---- bytes up to the first of a kind

module _ (k : ℕ) where
  until_first : (b : ℕ) (bs : List ℕ) → (b ≡ k → ⊥) → until (is_byte k) (b ∷ bs) ≡ until (is_byte k) bs + 1
  unfolding until
  until_first b bs n = ap (λ (t : Bool). pick t 0 (until (is_byte k) bs + 1)) (ne_eqb b k n)

  until_here : (bs : List ℕ) → until (is_byte k) (k ∷ bs) ≡ 0
  unfolding until
  until_here bs = ap (λ (t : Bool). pick t 0 (until (is_byte k) bs + 1)) (eq-eqb k k refl)

  pub until_kind : (c bs : List ℕ) → Without k c → until (is_byte k) (c ++ (k ∷ bs)) ≡ length c
  until_kind c bs none = until_here bs
  until_kind c bs (also {b = b} {bs = ds} n w) = until_first b (ds ++ (k ∷ bs)) n ∙ ap (λ (m : ℕ). m + 1) (until_kind ds bs w) ∙ add-one (length ds)

  pub until_none : (bs : List ℕ) → Without k bs → length bs ≤ until (is_byte k) bs
  until_none bs none = omega arith
  until_none bs (also {b = b} {bs = ds} n w) = omega (arith, until_first b ds n, until_none ds w)

  -- any bytes: without it, or with those before its first
  pub record Cut (bs : List ℕ) : Type 0 where
    pub before : List ℕ
    pub rest : List ℕ
    pub without : Without k before
    pub joined : bs ≡ before ++ (k ∷ rest)

  pub cut : (bs : List ℕ) → Without k bs ⊎ Cut bs
  cut [] = inl none
  cut (b ∷ bs) = by (eqb b k) refl (cut bs)
    where
      more : (eqb b k ≡ false) → Without k bs ⊎ Cut bs → Without k (b ∷ bs) ⊎ Cut (b ∷ bs)
      more e (inl w) = inl (also (λ f. clash (eqb b k) (eq-eqb b k f) e) w)
      more e (inr c) = inr (record { before = b ∷ c.before; rest = c.rest; without = also (λ f. clash (eqb b k) (eq-eqb b k f) e) c.without; joined = ap (λ (l : List ℕ). b ∷ l) c.joined })

      by : (t : Bool) → eqb b k ≡ t → Without k bs ⊎ Cut bs → Without k (b ∷ bs) ⊎ Cut (b ∷ bs)
      by true e c = inr (record { before = []; rest = bs; without = none; joined = ap (λ (l : ℕ). l ∷ bs) (eqb-true b k e) })
      by false e c = more e c

-- ---- one item, in words

module _ (size p i : ℕ) where
  word_plain : (b : ℕ) (bs : List ℕ) → (b ≡ amp → ⊥) → text_from size 0 p i (b ∷ bs) ≡ onward (fitting size p (b ∷ []) i) (λ n. text_from size 0 (p + n) (i + 1) bs)
  word_plain b bs n = text_plain size p i b bs (ne_eqb b amp n)

  word_unclosed : (bs : List ℕ) → Without semicolon bs → text_from size 0 p i (amp ∷ bs) ≡ not_written Fault.NotOfForm i
  word_unclosed bs w = text_amp size p i amp bs refl ∙ sym (pick_le _ _ _ _ _ (until_none semicolon bs w) refl)

  word_reference : (c bs : List ℕ) → Without semicolon c
      → text_from size 0 p i (amp ∷ (c ++ (semicolon ∷ bs))) ≡ onward (character_of size p i (reference_of c)) (λ n. text_from size 0 (p + n) (i + (length c + 2)) bs)
  word_reference c bs w =
      let n : content_len (c ++ (semicolon ∷ bs)) ≡ length c = until_kind semicolon c bs w in
      let l : length (c ++ (semicolon ∷ bs)) ≡ length c + suc (length bs) = length-append c (semicolon ∷ bs) in
      let h : content_len (c ++ (semicolon ∷ bs)) < length (c ++ (semicolon ∷ bs)) = omega arith in
      text_amp size p i amp (c ++ (semicolon ∷ bs)) refl
      ∙ sym (pick_nle _ _ _ _ _ h refl)
      ∙ ap (λ (k : ℕ). onward (character_of size p i (reference_of (take k (c ++ (semicolon ∷ bs))))) (λ n. text_from size (k + 1) (p + n) (i + 1) (c ++ (semicolon ∷ bs)))) n
      ∙ ap (λ (d : List ℕ). onward (character_of size p i (reference_of d)) (λ n. text_from size (length c + 1) (p + n) (i + 1) (c ++ (semicolon ∷ bs)))) (take_at c (semicolon ∷ bs) (length c) refl)
      ∙ onward_same (character_of size p i (reference_of c)) (λ n. text_from size (length c + 1) (p + n) (i + 1) (c ++ (semicolon ∷ bs))) (λ n. text_from size 0 (p + n) (i + (length c + 2)) bs)
      (λ n. goes (p + n) (omega arith))
    where
      goes : (q : ℕ) → length c + 1 ≤ length (c ++ (semicolon ∷ bs)) → text_from size (length c + 1) q (i + 1) (c ++ (semicolon ∷ bs)) ≡ text_from size 0 q (i + (length c + 2)) bs
      goes q h =
          let e : i + 1 + (length c + 1) ≡ i + (length c + 2) = omega arith in
          text_skip size (length c + 1) q (i + 1) (c ++ (semicolon ∷ bs)) h
          ∙ ap (text_from size 0 q (i + 1 + (length c + 1))) (drop-append-add c (semicolon ∷ bs) 1)
          ∙ ap (λ (j : ℕ). text_from size 0 q j bs) e

  word_named : (c bs : List ℕ) (r : Reference) → Without semicolon c → reference_of c ≡ r
      → text_from size 0 p i (amp ∷ (c ++ (semicolon ∷ bs))) ≡ onward (character_of size p i r) (λ n. text_from size 0 (p + n) (i + (length c + 2)) bs)
  word_named c bs r w e = word_reference c bs w ∙ ap (λ (x : Reference). onward (character_of size p i x) (λ n. text_from size 0 (p + n) (i + (length c + 2)) bs)) e

  -- a reference with nothing behind it
  pub word_alone : (c : List ℕ) (r : Reference) → Without semicolon c → reference_of c ≡ r → text_from size 0 p i (amp ∷ (c ++ (semicolon ∷ []))) ≡ character_of size p i r
  word_alone c Reference.NotOfForm w e = word_named c [] Reference.NotOfForm w e
  word_alone c Reference.NoCharacter w e = word_named c [] Reference.NoCharacter w e
  word_alone c (Reference.Character v) w e =
      word_named c [] (Reference.Character v) w e
      ∙ elim (dec_lt size (p + length (octets v))) [
        | yes h ↦ ap (λ (t : Text). onward t rest) (fitting_out size p (octets v) i h) ∙ sym (fitting_out size p (octets v) i h)
        | no h ↦
            let l : p + length (octets v) ≤ size = omega arith in
            ap (λ (t : Text). onward t rest) (fitting_in size p (octets v) i l)
            ∙ ap (behind (octets v)) (text_end_lem size (p + length (octets v)) (i + (length c + 2)) ∙ fitting_in size (p + length (octets v)) [] (i + (length c + 2)) (omega arith))
            ∙ ap Text.Whole (append-nil (octets v))
            ∙ sym (fitting_in size p (octets v) i l)
      ]
    where
      rest : ℕ → Text
      rest n = text_from size 0 (p + n) (i + (length c + 2)) []

  -- what refuses an item refuses the text from there on
  pub fails_refused : (fault : Fault) (bs : List ℕ) → Fails size p fault bs → text_from size 0 p i bs ≡ not_written fault i
  fails_refused fault bs (unclosed {bs = ds} w) = word_unclosed ds w
  fails_refused fault bs (formless c ds w e) = word_named c ds Reference.NotOfForm w e
  fails_refused fault bs (valueless c ds w e) = word_named c ds Reference.NoCharacter w e
  fails_refused fault bs (character c ds v w e h) =
      word_named c ds (Reference.Character v) w e ∙ ap (λ (t : Text). onward t (λ n. text_from size 0 (p + n) (i + (length c + 2)) ds)) (fitting_out size p (octets v) i h)
  fails_refused fault bs (byte {bs = ds} b n h) = word_plain b ds n ∙ ap (λ (t : Text). onward t (λ n. text_from size 0 (p + n) (i + 1) ds)) (fitting_out size p (b ∷ []) i h)
  fails_refused fault bs (end h) = text_end_lem size p i ∙ fitting_out size p [] i (omega arith)

-- ---- what is replaced, in front of anything

placed_behind : (size p : ℕ) (xs ys : List ℕ) → Placed size p (xs ++ ys) → Placed size (p + length xs) ys
placed_behind size p xs ys f k h = let g = f (length xs + k) (omega (arith, length-append xs ys)) in omega arith

placed_fits : (size p : ℕ) (xs ys : List ℕ) → 0 < length xs → Placed size p (xs ++ ys) → p + length xs ≤ size
placed_fits size p xs ys h f = let g = f (length xs - 1) (omega (arith, length-append xs ys)) in omega arith

module _ (size : ℕ) where
  pub replaced_before : {before out : List ℕ} → Replaced before out → (rest : List ℕ) (p i : ℕ) → Placed size p out
      → text_from size 0 p i (before ++ rest) ≡ behind out (text_from size 0 (p + length out) (i + length before) rest)
  replaced_before nothing rest p i f =
      sym (behind_nothing (text_from size 0 (p + 0) (i + 0) rest) ∙ ap (λ (j : ℕ). text_from size 0 j (i + 0) rest) (add-zero p) ∙ ap (λ (j : ℕ). text_from size 0 p j rest) (add-zero i))
  replaced_before (plain {bs = bs} {out = out} b n r) rest p i f =
      let e : p + 1 + length out ≡ p + suc (length out) = omega arith in
      let g : i + 1 + length bs ≡ i + suc (length bs) = omega arith in
      word_plain size p i b (bs ++ rest) n
      ∙ ap (λ (t : Text). onward t (λ n. text_from size 0 (p + n) (i + 1) (bs ++ rest))) (fitting_in size p (b ∷ []) i (placed_fits size p (b ∷ []) out (omega arith) f))
      ∙ ap (behind (b ∷ [])) (replaced_before r rest (p + 1) (i + 1) (placed_behind size p (b ∷ []) out f))
      ∙ sym (behind_more (b ∷ []) out (text_from size 0 (p + 1 + length out) (i + 1 + length bs) rest))
      ∙ ap (λ (j : ℕ). behind (b ∷ out) (text_from size 0 j (i + 1 + length bs) rest)) e
      ∙ ap (λ (j : ℕ). behind (b ∷ out) (text_from size 0 (p + suc (length out)) j rest)) g
  replaced_before (reference {bs = bs} {out = out} c v w x r) rest p i f =
      let e : p + length (octets v) + length out ≡ p + length (octets v ++ out) = omega (arith, length-append (octets v) out) in
      let g : i + (length c + 2) + length bs ≡ i + suc (length (c ++ (semicolon ∷ bs))) = omega (arith, length-append c (semicolon ∷ bs)) in
      ap (λ (l : List ℕ). text_from size 0 p i (amp ∷ l)) (append_assoc c (semicolon ∷ bs) rest)
      ∙ word_named size p i c (bs ++ rest) (Reference.Character v) w x
      ∙ ap (λ (t : Text). onward t (λ n. text_from size 0 (p + n) (i + (length c + 2)) (bs ++ rest))) (fitting_in size p (octets v) i (placed_fits size p (octets v) out (width_some v).0 f))
      ∙ ap (behind (octets v)) (replaced_before r rest (p + length (octets v)) (i + (length c + 2)) (placed_behind size p (octets v) out f))
      ∙ sym (behind_more (octets v) out (text_from size 0 (p + length (octets v) + length out) (i + (length c + 2) + length bs) rest))
      ∙ ap (λ (j : ℕ). behind (octets v ++ out) (text_from size 0 j (i + (length c + 2) + length bs) rest)) e
      ∙ ap (λ (j : ℕ). behind (octets v ++ out) (text_from size 0 (p + length (octets v ++ out)) j rest)) g

  -- ---- any text: replaced throughout, or refused somewhere

  pub record First (p i : ℕ) (fault : Fault) (place : ℕ) (bs : List ℕ) : Type 0 where
    pub before : List ℕ
    pub rest : List ℕ
    pub out : List ℕ
    pub cut : bs ≡ before ++ rest
    pub here : place ≡ i + length before
    pub replaced : Replaced before out
    pub placed : Placed size p out
    pub fails : Fails size (p + length out) fault rest

  pub data Seen (p i : ℕ) (bs : List ℕ) : Text → Type 0 where
    whole : (out : List ℕ) → Replaced bs out → p + length out ≤ size → Seen p i bs (Text.Whole out)
    refused : (fault : Fault) (place : ℕ) → First p i fault place bs → Seen p i bs (not_written fault place)

  -- refused at once
  at_once : (p i : ℕ) (fault : Fault) (bs : List ℕ) → Fails size p fault bs → Seen p i bs (text_from size 0 p i bs)
  at_once p i fault bs f =
      subst (Seen p i bs) (sym (fails_refused size p i fault bs f))
      (refused fault i (record {
        before = [];
        rest = bs;
        out = [];
        cut = refl;
        here = sym (add-zero i);
        replaced = nothing;
        placed = λ k h. absurd (omega arith);
        fails = subst (λ (q : ℕ). Fails size q fault bs) (sym (add-zero p)) f;
      }))

  -- behind an item x that becomes y
  module _ (p i : ℕ) (x y : List ℕ) (step : (bs out : List ℕ) → Replaced bs out → Replaced (x ++ bs) (y ++ out)) (fits : p + length y ≤ size) where
    placed_both : (out : List ℕ) → Placed size (p + length y) out → Placed size p (y ++ out)
    placed_both out f k h =
        elim (dec_lt k (length y)) [
          | yes l ↦ omega arith
          | no l ↦ let g = f (k - length y) (omega (arith, length-append y out)) in omega arith
        ]

    one_more : (bs : List ℕ) (t : Text) → Seen (p + length y) (i + length x) bs t → Seen p i (x ++ bs) (behind y t)
    one_more bs t (whole out r h) = whole (y ++ out) (step bs out r) (omega (arith, length-append y out))
    one_more bs t (refused fault place f) =
        let e : p + length y + length f.out ≡ p + length (y ++ f.out) = omega (arith, length-append y f.out) in
        refused fault place (record {
          before = x ++ f.before;
          rest = f.rest;
          out = y ++ f.out;
          cut = ap (λ (l : List ℕ). x ++ l) f.cut ∙ sym (append_assoc x f.before f.rest);
          here = omega (arith, f.here, length-append x f.before);
          replaced = step f.before f.out f.replaced;
          placed = placed_both f.out f.placed;
          fails = subst (λ (q : ℕ). Fails size q fault f.rest) e f.fails;
        })

  plain_step : (b : ℕ) → (b ≡ amp → ⊥) → (bs out : List ℕ) → Replaced bs out → Replaced ((b ∷ []) ++ bs) ((b ∷ []) ++ out)
  plain_step b n bs out r = plain b n r

  reference_step : (c : List ℕ) (v : ℕ) → Without semicolon c → reference_of c ≡ Reference.Character v → (bs out : List ℕ) → Replaced bs out
      → Replaced ((amp ∷ (c ++ (semicolon ∷ []))) ++ bs) (octets v ++ out)
  reference_step c v w e bs out r = subst (λ (l : List ℕ). Replaced (amp ∷ l) (octets v ++ out)) (sym (append_assoc c (semicolon ∷ []) bs)) (reference c v w e r)

  -- one turn, where all shorter texts are seen
  abbrev Sees : ℕ → Type 0
  Sees n = (bs : List ℕ) → length bs < n → (p i : ℕ) → Seen p i bs (text_from size 0 p i bs)

  sees_plain : (n b : ℕ) (bs : List ℕ) → length (b ∷ bs) < suc n → Sees n → (p i : ℕ) → (b ≡ amp → ⊥) → Seen p i (b ∷ bs) (text_from size 0 p i (b ∷ bs))
  sees_plain n b bs h r p i m =
      elim (dec_lt size (p + 1)) [
        | yes l ↦ at_once p i Fault.NoRoom (b ∷ bs) (byte b m l)
        | no l ↦
            let f : p + 1 ≤ size = omega arith in
            subst (Seen p i (b ∷ bs))
            (sym (word_plain size p i b bs m ∙ ap (λ (t : Text). onward t (λ n. text_from size 0 (p + n) (i + 1) bs)) (fitting_in size p (b ∷ []) i f)))
            (one_more p i (b ∷ []) (b ∷ []) (plain_step b m) f bs (text_from size 0 (p + 1) (i + 1) bs) (r bs (omega arith) (p + 1) (i + 1)))
      ]

  sees_named : (n : ℕ) (c bs : List ℕ) → length (c ++ (semicolon ∷ bs)) < n → Sees n → (p i : ℕ) → Without semicolon c → (x : Reference) → reference_of c ≡ x
      → Seen p i (amp ∷ (c ++ (semicolon ∷ bs))) (text_from size 0 p i (amp ∷ (c ++ (semicolon ∷ bs))))
  sees_named n c bs h r p i w Reference.NotOfForm e = at_once p i Fault.NotOfForm (amp ∷ (c ++ (semicolon ∷ bs))) (formless c bs w e)
  sees_named n c bs h r p i w Reference.NoCharacter e = at_once p i Fault.NoCharacter (amp ∷ (c ++ (semicolon ∷ bs))) (valueless c bs w e)
  sees_named n c bs h r p i w (Reference.Character v) e =
      elim (dec_lt size (p + length (octets v))) [
        | yes l ↦ at_once p i Fault.NoRoom (amp ∷ (c ++ (semicolon ∷ bs))) (character c bs v w e l)
        | no l ↦
            let f : p + length (octets v) ≤ size = omega arith in
            let x : List ℕ = amp ∷ (c ++ (semicolon ∷ [])) in
            let long : i + (length c + 2) ≡ i + length x = omega (arith, length-append c (semicolon ∷ [])) in
            subst (λ (l : List ℕ). Seen p i (amp ∷ l) (text_from size 0 p i (amp ∷ (c ++ (semicolon ∷ bs))))) (append_assoc c (semicolon ∷ []) bs)
            (subst (Seen p i (x ++ bs))
            (sym (word_named size p i c bs (Reference.Character v) w e
            ∙ ap (λ (t : Text). onward t (λ n. text_from size 0 (p + n) (i + (length c + 2)) bs)) (fitting_in size p (octets v) i f)
            ∙ ap (λ (j : ℕ). behind (octets v) (text_from size 0 (p + length (octets v)) j bs)) long))
            (one_more p i x (octets v) (reference_step c v w e) f bs (text_from size 0 (p + length (octets v)) (i + length x) bs)
            (r bs (omega (arith, length-append c (semicolon ∷ bs))) (p + length (octets v)) (i + length x))))
      ]

  sees_amp : (n : ℕ) (bs : List ℕ) → length (amp ∷ bs) < suc n → Sees n → (p i : ℕ) → Seen p i (amp ∷ bs) (text_from size 0 p i (amp ∷ bs))
  sees_amp n bs h r p i = by (cut semicolon bs)
    where
      by : Without semicolon bs ⊎ Cut semicolon bs → Seen p i (amp ∷ bs) (text_from size 0 p i (amp ∷ bs))
      by (inl w) = at_once p i Fault.NotOfForm (amp ∷ bs) (unclosed w)
      by (inr c) =
          subst (λ (l : List ℕ). Seen p i (amp ∷ l) (text_from size 0 p i (amp ∷ l))) (sym c.joined)
          (sees_named n c.before c.rest (omega (arith, ap length c.joined)) r p i c.without (reference_of c.before) refl)

  sees : (n : ℕ) → Sees n
  sees zero bs h p i = absurd (omega arith)
  sees (suc n) [] h p i =
      elim (dec_lt size p) [
        | yes l ↦ at_once p i Fault.NoRoom [] (end l)
        | no l ↦ subst (Seen p i []) (sym (text_end_lem size p i ∙ fitting_in size p [] i (omega arith))) (whole [] nothing (omega arith))
      ]
  sees (suc n) (b ∷ bs) h p i = by (eqb b amp) refl (sees n)
    where
      by : (t : Bool) → eqb b amp ≡ t → Sees n → Seen p i (b ∷ bs) (text_from size 0 p i (b ∷ bs))
      by true e r = subst (λ (k : ℕ). Seen p i (k ∷ bs) (text_from size 0 p i (k ∷ bs))) (sym (eqb-true b amp e)) (sees_amp n bs h r p i)
      by false e r = sees_plain n b bs h r p i (λ f. clash (eqb b amp) (eq-eqb b amp f) e)

  pub seen : (p i : ℕ) (bs : List ℕ) → Seen p i bs (text_from size 0 p i bs)
  seen p i bs = sees (suc (length bs)) bs (omega arith) p i
