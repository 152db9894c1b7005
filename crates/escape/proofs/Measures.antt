-- The loop that measures a text: a law for each way through a turn. Assumes nothing.
use Prim.Native.Nat.{ℕ, ◌+◌, ◌-◌, ◌^◌, ◌≤◌, ◌<◌}
use mathlib.Core.Path.{◌≡◌, refl, sym, ap, ◌∙◌}
use mathlib.Core.Bool.{true}
use mathlib.Core.Logic.{◌⊎◌, inl, inr}
use mathlib.Core.List.{List, []}
use native.Mathlib.Omega.{arith}
use native.Mathlib.Nat.{zero-add}
use native.Mathlib.Decide.{dec_lt}
use lib.ListN.{length, get_or, take, drop, length-append, length-drop}
use lib.Seq.{get_or-drop, length-take-le, drop-drop}
use mir.Val.{Fits}
use mir.Syntax.{w64}
use borrow.Author.Rules.{rules}
use borrow.Author.Tests.{eqb-true}
use Rattle.ground.specs.Bytes.{amp, semicolon}
use Rattle.ground.specs.Part.{part}
use Rattle.ground.proofs.Choices.{pick_le, pick_nle}
use Rattle.ground.proofs.Lists.{drop_done}
use Rattle.white.specs.White.{until}
use Rattle.white.proofs.Runs.{until_inside}
use Rattle.white.proofs.Words.{until_at}
use Rattle.escape.specs.declared.answer.Fault.{Fault}
use Rattle.escape.specs.declared.answer.Written.{Written}
use Rattle.escape.specs.declared.reference.Reference.{Reference}
use Rattle.escape.specs.declared.text.Found.{Found}
use Rattle.escape.specs.Answers.{refused}
use Rattle.escape.specs.Scalar.{octets}
use Rattle.escape.specs.Reference.{reference_of}
use Rattle.escape.specs.Text.{Text, fitting, is_byte, behind, onward, text_from, whole_text, written_of}
use Rattle.escape.specs.Inside.{found_by, close_at, found_at}
use Rattle.escape.proofs.Encodes.{width_some}
use Rattle.escape.proofs.Steps.{behind_nothing, fitting_in, fitting_out, text_end_lem, run_fits, run_full, by_found, text_reference}

-- ---- places

-- where the next `&` stands, or the end
module _ (s : List ℕ) (k i end : ℕ) (e : end ≡ i + until (is_byte k) (drop i s)) where
  pub first_after : i ≤ end
  first_after = omega arith

  pub first_within : i ≤ length s → end ≤ length s
  first_within h = omega (arith, until_inside (is_byte k) s i)

  pub first_is : i ≤ length s → end < length s → get_or s end 0 ≡ k
  first_is h l = by (until_at (is_byte k) (drop i s))
    where
      by : (until (is_byte k) (drop i s) ≡ length (drop i s)) ⊎ ((until (is_byte k) (drop i s) < length (drop i s)) × (is_byte k (get_or (drop i s) (until (is_byte k) (drop i s)) 0) ≡ true)) → get_or s end 0 ≡ k
      by (inl x) = absurd (omega (arith, length-drop i s))
      by (inr x) = ap (λ (j : ℕ). get_or s j 0) e ∙ sym (get_or-drop i s (until (is_byte k) (drop i s)) 0) ∙ eqb-true _ _ x.1

-- where a text goes on behind a reference
module _ (s : List ℕ) (from v next : ℕ) (f : Found) (e : f ≡ found_at s from) (g : f ≡ Found.Character v next) where
  found_close : (close : ℕ) (r : Reference) → found_by (close + 1) r ≡ Found.Character v next → close + 1 ≡ next
  found_close close Reference.NotOfForm e = let z : ◌≡◌ {A = ℕ} 0 1 = cc in absurd (omega arith)
  found_close close Reference.NoCharacter e = let z : ◌≡◌ {A = ℕ} 0 1 = cc in absurd (omega arith)
  found_close close (Reference.Character w) e = cc

  -- its `;` stands there, and what its content names is the character
  pub found_closed : (close_at s from < length s) × (found_by (close_at s from + 1) (reference_of (part s from (close_at s from))) ≡ Found.Character v next)
  unfolding found_at
  found_closed =
      elim (dec_lt (close_at s from) (length s)) [
        | yes l ↦ (l, pick_nle _ _ _ _ _ l refl ∙ sym e ∙ g)
        | no l ↦
            let m : length s ≤ close_at s from = omega arith in
            let x : Found.Refused Fault.NotOfForm ≡ Found.Character v next = pick_le _ _ _ _ _ m refl ∙ sym e ∙ g in
            let z : ◌≡◌ {A = ℕ} 0 1 = cc in
            absurd (omega arith)
      ]

  pub found_next : (from < next) × (next ≤ length s)
  found_next =
      let c = found_closed in
      let n = found_close (close_at s from) (reference_of (part s from (close_at s from))) c.1 in
      (omega arith, omega (arith, c.0))

-- ---- a reference that is looked for

module _ (s : List ℕ) (from end : ℕ) (e : end ≡ from + until (is_byte semicolon) (drop from s)) where
  pub found_open : length s ≤ end → Found.Refused Fault.NotOfForm ≡ found_at s from
  unfolding found_at
  found_open h = pick_le _ _ _ (length s) (close_at s from) (omega arith) refl

  pub found_named : end < length s → (bs : List ℕ) → bs ≡ part s from end → (r : Reference) → r ≡ reference_of bs → (k : Reference) → r ≡ k → (x : Found) → x ≡ found_by (end + 1) k → x ≡ found_at s from
  unfolding found_at
  found_named h bs f r g k y x z =
      let c : reference_of (part s from end) ≡ k = ap reference_of (sym f) ∙ sym g ∙ y in
      pick_nle _ _ _ (length s) (close_at s from) (omega arith)
      (z ∙ ap (found_by (end + 1)) (sym c) ∙ ap (λ (j : ℕ). found_by (j + 1) (reference_of (part s from j))) e)

pub ruleset founds = (rules, found_open, found_named)

-- ---- measuring

-- the answer when so many bytes were counted before
abbrev written_by : ℕ → Text → Written
written_by k (Text.Whole bs) = Written.Bytes (k + length bs)
written_by k (Text.Refused x) = Written.Refused x

by_none : (t : Text) → written_of t ≡ written_by 0 t
by_none (Text.Whole bs) = ap Written.Bytes (sym (zero-add (length bs)))
by_none (Text.Refused x) = refl

by_behind : (k : ℕ) (bs : List ℕ) (t : Text) → written_by k (behind bs t) ≡ written_by (k + length bs) t
by_behind k bs (Text.Whole cs) = ap Written.Bytes (omega (arith, length-append bs cs))
by_behind k bs (Text.Refused x) = refl

-- what a loop knows that stands at i of the text and at p of the buffer, where w is the answer
pub record Measured (s : List ℕ) (size at : ℕ) (w : Written) (i p : ℕ) : Type 0 where
  pub same : w ≡ written_by (p - at) (text_from size 0 p i (drop i s))
  pub low : at ≤ p
  pub within : i ≤ length s
  pub small : p < 2 ^ 64

module _ (s : List ℕ) (size at : ℕ) where
  pub measure_start : at < 2 ^ 64 → Measured s size at (written_of (whole_text s size at)) 0 at
  measure_start h =
      let e : 0 ≡ at - at = omega arith in
      record { same = by_none (whole_text s size at) ∙ ap (λ (k : ℕ). written_by k (whole_text s size at)) e; low = omega arith; within = omega arith; small = h }

  module _ (w : Written) (i p : ℕ) (m : Measured s size at w i p) (end : ℕ) (e : end ≡ i + until (is_byte amp) (drop i s)) (room : ℕ) (q : room ≡ size - p) where
    -- plain bytes, of which one does not fit
    pub plain_fits : length s < 2 ^ 64 → room < end - i → Fits w64 (i + room)
    plain_fits h l = record { fits = omega (arith, first_within s amp i end e m.within) }

    pub plain_full : room < end - i → (r : Written) → r ≡ refused Fault.NoRoom (i + room) → r ≡ w
    plain_full l r f =
        f ∙ ap (λ (k : ℕ). refused Fault.NoRoom (i + k)) q ∙ sym (m.same ∙ ap (written_by (p - at)) (run_full size (end - i) (drop i s) p i (omega arith) (omega arith)))

    -- plain bytes that fit
    module _ (l : end - i ≤ room) where
      pub plain_small : size < 2 ^ 64 → Fits w64 (p + (end - i))
      plain_small h = record { fits = omega (arith, m.small) }

      plain_text_lem : text_from size 0 p i (drop i s) ≡ behind (take (end - i) (drop i s)) (text_from size 0 (p + (end - i)) end (drop end s))
      plain_text_lem =
          elim (dec_lt size p) [
            | no h ↦
                run_fits size (end - i) (drop i s) p i (omega arith) (omega arith)
                ∙ ap (λ (t : List ℕ). behind (take (end - i) (drop i s)) (text_from size 0 (p + (end - i)) (i + (end - i)) t)) (drop-drop (end - i) i s)
                ∙ ap (λ (j : ℕ). behind (take (end - i) (drop i s)) (text_from size 0 (p + (end - i)) j (drop j s))) back
            | yes h ↦
                let n : 0 ≡ end - i = omega arith in
                let a : i ≡ end = omega arith in
                let b : p ≡ p + (end - i) = omega arith in
                sym (behind_nothing (text_from size 0 p i (drop i s)))
                ∙ ap (λ (k : ℕ). behind (take k (drop i s)) (text_from size 0 p i (drop i s))) n
                ∙ ap (λ (k : ℕ). behind (take (end - i) (drop i s)) (text_from size 0 k i (drop i s))) b
                ∙ ap (λ (k : ℕ). behind (take (end - i) (drop i s)) (text_from size 0 (p + (end - i)) k (drop k s))) a
          ]
        where
          back : i + (end - i) ≡ end
          back = omega (arith, first_after s amp i end e)

      plain_count : length (take (end - i) (drop i s)) ≡ end - i
      plain_count = length-take-le (end - i) (drop i s) (omega (arith, length-drop i s, first_within s amp i end e m.within))

      plain_same : w ≡ written_by (p + (end - i) - at) (text_from size 0 (p + (end - i)) end (drop end s))
      plain_same =
          let k : p - at + length (take (end - i) (drop i s)) ≡ p + (end - i) - at = omega (arith, plain_count, m.low) in
          m.same
          ∙ ap (written_by (p - at)) plain_text_lem
          ∙ by_behind (p - at) (take (end - i) (drop i s)) (text_from size 0 (p + (end - i)) end (drop end s))
          ∙ ap (λ (j : ℕ). written_by j (text_from size 0 (p + (end - i)) end (drop end s))) k

      -- the end of the text
      module _ (h : length s ≤ end) where
        end_text : text_from size 0 (p + (end - i)) end (drop end s) ≡ fitting size (p + (end - i)) [] end
        end_text = ap (text_from size 0 (p + (end - i)) end) (drop_done s end h) ∙ text_end_lem size (p + (end - i)) end

        pub end_full : size < p + (end - i) → (r : Written) → r ≡ refused Fault.NoRoom end → r ≡ w
        end_full k r f = f ∙ sym (plain_same ∙ ap (written_by (p + (end - i) - at)) (end_text ∙ fitting_out size (p + (end - i)) [] end (omega arith)))

        pub end_after : at ≤ p + (end - i)
        end_after = omega (arith, m.low)

        pub end_whole : p + (end - i) ≤ size → Written.Bytes (p + (end - i) - at) ≡ w
        end_whole k =
            let n : p + (end - i) - at ≡ p + (end - i) - at + 0 = omega arith in
            ap Written.Bytes n ∙ sym (plain_same ∙ ap (written_by (p + (end - i) - at)) (end_text ∙ fitting_in size (p + (end - i)) [] end (omega arith)))

      -- a reference
      module _ (h : end < length s) where
        pub reference_fits : length s < 2 ^ 64 → Fits w64 (end + 1)
        reference_fits k = record { fits = omega arith }

        module _ (f : Found) (g : f ≡ found_at s (end + 1)) where
          reference_text : text_from size 0 (p + (end - i)) end (drop end s) ≡ by_found size s (p + (end - i)) end f
          reference_text = text_reference size s (p + (end - i)) end h (first_is s amp i end e m.within h) ∙ ap (by_found size s (p + (end - i)) end) (sym g)

          pub reference_refused : (fault : Fault) → f ≡ Found.Refused fault → (r : Written) → r ≡ refused fault end → r ≡ w
          reference_refused fault x r z = z ∙ sym (plain_same ∙ ap (written_by (p + (end - i) - at)) (reference_text ∙ ap (by_found size s (p + (end - i)) end) x))

          module _ (v next : ℕ) (x : f ≡ Found.Character v next) (n : ℕ) (y : n ≡ length (octets v)) (left : ℕ) (z : left ≡ size - (p + (end - i))) where
            named_text : text_from size 0 (p + (end - i)) end (drop end s) ≡ onward (fitting size (p + (end - i)) (octets v) end) (λ n. text_from size 0 (p + (end - i) + n) next (drop next s))
            named_text = reference_text ∙ ap (by_found size s (p + (end - i)) end) x

            pub reference_full : left < n → (r : Written) → r ≡ refused Fault.NoRoom end → r ≡ w
            reference_full l r c =
                c
                ∙ sym (plain_same
                ∙ ap (written_by (p + (end - i) - at))
                (named_text ∙ ap (λ (t : Text). onward t (λ n. text_from size 0 (p + (end - i) + n) next (drop next s))) (fitting_out size (p + (end - i)) (octets v) end (omega arith))))

            module _ (k : n ≤ left) where
              character_in : p + (end - i) + n ≤ size
              character_in = omega (arith, (width_some v).0)

              pub character_fits : size < 2 ^ 64 → Fits w64 (p + (end - i) + n)
              character_fits c = record { fits = omega (arith, character_in) }

              pub character_less : length s - next < length s - i
              character_less = omega (arith, found_next s (end + 1) v next f g x, first_after s amp i end e)

              pub character_on : size < 2 ^ 64 → Measured s size at w next (p + (end - i) + n)
              character_on c =
                  let a : p + (end - i) - at + length (octets v) ≡ p + (end - i) + n - at = omega (arith, m.low) in
                  record {
                    same =
                        plain_same
                        ∙ ap (written_by (p + (end - i) - at))
                        (named_text ∙ ap (λ (t : Text). onward t (λ n. text_from size 0 (p + (end - i) + n) next (drop next s))) (fitting_in size (p + (end - i)) (octets v) end (omega (arith, character_in))))
                        ∙ by_behind (p + (end - i) - at) (octets v) (text_from size 0 (p + (end - i) + length (octets v)) next (drop next s))
                        ∙ ap (λ (j : ℕ). written_by j (text_from size 0 (p + (end - i) + length (octets v)) next (drop next s))) a
                        ∙ ap (λ (j : ℕ). written_by (p + (end - i) + n - at) (text_from size 0 (p + (end - i) + j) next (drop next s))) (sym y);
                    low = omega (arith, m.low);
                    within = (found_next s (end + 1) v next f g x).1;
                    small = omega (arith, character_in);
                  }

pub ruleset measures = (rules, first_after, measure_start, plain_fits, plain_full, plain_small, end_full, end_after, end_whole, reference_fits, reference_refused, reference_full, character_fits, character_less, character_on)
