-- A text, item by item: plain bytes in a run, and a reference. Assumes nothing.
use Prim.Native.Nat.{ℕ, zero, suc, ◌+◌, ◌-◌, ◌≤◌, ◌<◌}
use mathlib.Core.Path.{◌≡◌, refl, sym, ap, ◌∙◌}
use mathlib.Core.Bool.{Bool, true, false}
use mathlib.Core.List.{List, [], ◌∷◌, ◌++◌, append_assoc}
use native.Mathlib.Omega.{arith}
use native.Mathlib.Nat.{add-zero}
use native.Mathlib.Decide.{dec_lt}
use lib.ListN.{length, get_or, take, drop, length-drop}
use lib.Seq.{drop-drop}
use lib.Dec.{leb, eqb}
use borrow.Author.Tests.{eq-eqb}
use Rattle.ground.specs.Choose.{pick}
use Rattle.ground.specs.Bytes.{amp}
use Rattle.ground.specs.Part.{part}
use Rattle.ground.proofs.Choices.{by_true, by_false, pick_le, pick_nle}
use Rattle.ground.proofs.Lists.{drop_next, part_in}
use Rattle.white.specs.White.{until}
use Rattle.white.proofs.Runs.{until_within}
use Rattle.escape.specs.declared.answer.Fault.{Fault}
use Rattle.escape.specs.declared.reference.Reference.{Reference}
use Rattle.escape.specs.declared.text.Found.{Found}
use Rattle.escape.specs.Scalar.{octets}
use Rattle.escape.specs.Reference.{reference_of}
use Rattle.escape.specs.Text.{Text, not_written, fitting, character_of, is_byte, content_len, behind, onward, text_from}
use Rattle.escape.specs.Inside.{found_by, close_at, found_at}

-- ---- what comes behind

pub behind_nothing : (t : Text) → behind [] t ≡ t
behind_nothing (Text.Whole cs) = refl
behind_nothing (Text.Refused x) = refl

pub behind_more : (bs cs : List ℕ) (t : Text) → behind (bs ++ cs) t ≡ behind bs (behind cs t)
behind_more bs cs (Text.Whole ds) = ap Text.Whole (append_assoc bs cs ds)
behind_more bs cs (Text.Refused x) = refl

pub onward_same : (t : Text) (f g : ℕ → Text) → ((n : ℕ) → f n ≡ g n) → onward t f ≡ onward t g
onward_same (Text.Whole bs) f g e = ap (behind bs) (e (length bs))
onward_same (Text.Refused x) f g e = refl

-- ---- an item that fits, and one that does not

module _ (size p : ℕ) (bs : List ℕ) (place : ℕ) where
  pub fitting_in : p + length bs ≤ size → fitting size p bs place ≡ Text.Whole bs
  fitting_in h = sym (pick_le _ _ _ (p + length bs) size h refl)

  pub fitting_out : size < p + length bs → fitting size p bs place ≡ not_written Fault.NoRoom place
  fitting_out h = sym (pick_nle _ _ _ (p + length bs) size h refl)

module _ (size : ℕ) where
  -- behind the bytes of a reference that was taken
  pub text_skip : (k p i : ℕ) (bs : List ℕ) → k ≤ length bs → text_from size k p i bs ≡ text_from size 0 p (i + k) (drop k bs)
  unfolding text_from
  text_skip zero p i bs h = ap (λ (j : ℕ). text_from size 0 p j bs) (sym (add-zero i))
  text_skip (suc k) p i [] h = absurd (omega arith)
  text_skip (suc k) p i (b ∷ bs) h =
      let e : i + 1 + k ≡ i + suc k = omega arith in
      text_skip k p (i + 1) bs (omega arith) ∙ ap (λ (j : ℕ). text_from size 0 p j (drop k bs)) e

  pub text_end_lem : (p i : ℕ) → text_from size 0 p i [] ≡ fitting size p [] i
  unfolding text_from
  text_end_lem p i = refl

  -- ---- plain bytes

  module _ (p i b : ℕ) (bs : List ℕ) where
    pub text_plain : eqb b amp ≡ false → text_from size 0 p i (b ∷ bs) ≡ onward (fitting size p (b ∷ []) i) (λ n. text_from size 0 (p + n) (i + 1) bs)
    unfolding text_from
    text_plain e = sym (by_false _ _ _ _ e refl)

    pub text_amp : eqb b amp ≡ true
        → text_from size 0 p i (b ∷ bs) ≡ pick (leb (length bs) (content_len bs)) (not_written Fault.NotOfForm i) (onward (character_of size p i (reference_of (take (content_len bs) bs))) (λ n. text_from size (content_len bs + 1) (p + n) (i + 1) bs))
    unfolding text_from
    text_amp e = sym (by_true _ _ _ _ e refl)

  -- a run of n bytes that are not `&`
  plain_first : (n b : ℕ) (bs : List ℕ) → suc n ≤ until (is_byte amp) (b ∷ bs) → (eqb b amp ≡ false) × (n ≤ until (is_byte amp) bs)
  unfolding until
  plain_first n b bs h = by (eqb b amp) refl h
    where
      by : (x : Bool) → eqb b amp ≡ x → suc n ≤ pick x 0 (until (is_byte amp) bs + 1) → (eqb b amp ≡ false) × (n ≤ until (is_byte amp) bs)
      by true e h = absurd (omega arith)
      by false e h = (e, omega arith)

  pub run_fits : (n : ℕ) (bs : List ℕ) (p i : ℕ) → n ≤ until (is_byte amp) bs → p + n ≤ size
      → text_from size 0 p i bs ≡ behind (take n bs) (text_from size 0 (p + n) (i + n) (drop n bs))
  run_fits zero bs p i h k = sym (behind_nothing (text_from size 0 (p + 0) (i + 0) bs) ∙ ap (λ (j : ℕ). text_from size 0 j (i + 0) bs) (add-zero p) ∙ ap (λ (j : ℕ). text_from size 0 p j bs) (add-zero i))
  run_fits (suc n) [] p i h k = absurd (omega (arith, until_within (is_byte amp) []))
  run_fits (suc n) (b ∷ bs) p i h k =
      let f = plain_first n b bs h in
      let e : p + 1 + n ≡ p + suc n = omega arith in
      let g : i + 1 + n ≡ i + suc n = omega arith in
      text_plain p i b bs f.0
      ∙ ap (λ (t : Text). onward t (λ n. text_from size 0 (p + n) (i + 1) bs)) (fitting_in size p (b ∷ []) i (omega arith))
      ∙ ap (behind (b ∷ [])) (run_fits n bs (p + 1) (i + 1) f.1 (omega arith))
      ∙ sym (behind_more (b ∷ []) (take n bs) (text_from size 0 (p + 1 + n) (i + 1 + n) (drop n bs)))
      ∙ ap (λ (j : ℕ). behind (b ∷ take n bs) (text_from size 0 j (i + 1 + n) (drop n bs))) e
      ∙ ap (λ (j : ℕ). behind (b ∷ take n bs) (text_from size 0 (p + suc n) j (drop n bs))) g

  -- the first of them that does not fit
  pub run_full : (n : ℕ) (bs : List ℕ) (p i : ℕ) → n ≤ until (is_byte amp) bs → size - p < n → text_from size 0 p i bs ≡ not_written Fault.NoRoom (i + (size - p))
  run_full zero bs p i h k = absurd (omega arith)
  run_full (suc n) [] p i h k = absurd (omega (arith, until_within (is_byte amp) []))
  run_full (suc n) (b ∷ bs) p i h k =
      text_plain p i b bs f.0
      ∙ elim (dec_lt p size) [
        | yes l ↦
            let e : i + 1 + (size - (p + 1)) ≡ i + (size - p) = omega arith in
            ap (λ (t : Text). onward t (λ n. text_from size 0 (p + n) (i + 1) bs)) (fitting_in size p (b ∷ []) i (omega arith))
            ∙ ap (behind (b ∷ [])) (run_full n bs (p + 1) (i + 1) f.1 (omega arith))
            ∙ ap (not_written Fault.NoRoom) e
        | no l ↦
            let e : i ≡ i + (size - p) = omega arith in
            ap (λ (t : Text). onward t (λ n. text_from size 0 (p + n) (i + 1) bs)) (fitting_out size p (b ∷ []) i (omega arith)) ∙ ap (not_written Fault.NoRoom) e
      ]
    where
      f : (eqb b amp ≡ false) × (n ≤ until (is_byte amp) bs)
      f = plain_first n b bs h

  -- ---- a reference

  -- what comes of a reference that was found
  abbrev pub by_found : List ℕ → ℕ → ℕ → Found → Text
  by_found s p i (Found.Refused fault) = not_written fault i
  by_found s p i (Found.Character v next) = onward (fitting size p (octets v) i) (λ n. text_from size 0 (p + n) next (drop next s))

  module _ (s : List ℕ) (p i : ℕ) where
    named : (next : ℕ) (rest : ℕ → Text) → ((n : ℕ) → rest n ≡ text_from size 0 (p + n) next (drop next s)) → (r : Reference)
        → onward (character_of size p i r) rest ≡ by_found s p i (found_by next r)
    named next rest e Reference.NotOfForm = refl
    named next rest e Reference.NoCharacter = refl
    named next rest e (Reference.Character v) = onward_same (fitting size p (octets v) i) rest (λ n. text_from size 0 (p + n) next (drop next s)) e

    pub text_reference : i < length s → get_or s i 0 ≡ amp → text_from size 0 p i (drop i s) ≡ by_found s p i (found_at s (i + 1))
    unfolding found_at
    text_reference h e =
        ap (text_from size 0 p i) (drop_next s i h)
        ∙ text_amp p i (get_or s i 0) rest (eq-eqb _ _ e)
        ∙ elim (dec_lt k (length rest)) [
          | yes l ↦
              let next : close + 1 ≡ i + 1 + (k + 1) = omega arith in
              let c : take k rest ≡ part s (i + 1) close = ap (λ (n : ℕ). take n rest) back ∙ sym (part_in s (i + 1) close (omega arith) (omega (arith, length-drop (i + 1) s))) in
              sym (pick_nle _ _ _ _ _ l refl)
              ∙ ap (λ (bs : List ℕ). onward (character_of size p i (reference_of bs)) (λ n. text_from size (k + 1) (p + n) (i + 1) rest)) c
              ∙ named (close + 1) (λ n. text_from size (k + 1) (p + n) (i + 1) rest) (λ n. goes (p + n) (omega arith) next) (reference_of (part s (i + 1) close))
              ∙ ap (by_found s p i) (pick_nle _ _ _ (length s) close (omega (arith, length-drop (i + 1) s)) refl)
          | no l ↦
              let m : length rest ≤ k = omega arith in
              sym (pick_le _ _ _ _ _ m refl) ∙ ap (by_found s p i) (pick_le _ _ _ (length s) close (omega (arith, length-drop (i + 1) s)) refl)
        ]
      where
        rest : List ℕ
        rest = drop (i + 1) s

        k : ℕ
        k = content_len rest

        close : ℕ
        close = close_at s (i + 1)

        back : k ≡ close - (i + 1)
        back = omega arith

        goes : (q : ℕ) → k + 1 ≤ length rest → close + 1 ≡ i + 1 + (k + 1) → text_from size (k + 1) q (i + 1) rest ≡ text_from size 0 q (close + 1) (drop (close + 1) s)
        goes q l e =
            text_skip (k + 1) q (i + 1) rest l
            ∙ ap (text_from size 0 q (i + 1 + (k + 1))) (drop-drop (k + 1) (i + 1) s)
            ∙ ap (λ (j : ℕ). text_from size 0 q j (drop j s)) (sym e)

-- ---- a text with no refusal

pub whole_not : {A : Type 0} (fault : Fault) (place : ℕ) (bs : List ℕ) → not_written fault place ≡ Text.Whole bs → A
whole_not fault place bs e = let z : ◌≡◌ {A = ℕ} 0 1 = cc in absurd (omega arith)
