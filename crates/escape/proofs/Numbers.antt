-- Digits, and the number that they make: a law for each way through the code that reads them. Assumes nothing.
use Prim.Native.Nat.{ℕ, ◌+◌, ◌*◌, ◌≤◌, ◌<◌}
use mathlib.Core.Path.{◌≡◌, refl, sym, ap, ◌∙◌}
use mathlib.Core.Bool.{Bool, true, false}
use mathlib.Core.List.{List, [], ◌∷◌}
use native.Mathlib.Omega.{arith}
use native.Mathlib.Nat.{mul-le-mul, mul-le-mul_left}
use native.Mathlib.Decide.{dec_lt}
use lib.ListN.{length, get_or, drop}
use lib.Dec.{leb, ltb}
use mir.Val.{Fits}
use mir.Syntax.{w32}
use borrow.Author.Rules.{rules}
use Rattle.ground.specs.Choose.{pick}
use Rattle.ground.specs.Bytes.{quot, amp, apos, lt, gt}
use Rattle.ground.specs.Equal.{begins, same}
use Rattle.ground.proofs.Choices.{by_true, by_false, pick_le, pick_nle, pick_lt, pick_nlt, pick_cases, clash, choices}
use Rattle.ground.proofs.Lists.{drop_next, drop_done}
use Rattle.escape.specs.declared.reference.Reference.{Reference}
use Rattle.escape.specs.Scalar.{among, is_char, is_scalar}
use Rattle.escape.specs.Reference.{digit, char_of, number_from, number_of, lt_name, gt_name, amp_name, apos_name, quot_name, hash, lower_x, reference_of}
use Rattle.escape.specs.Inside.{past}
use Rattle.escape.proofs.Ranges.{range_under, range_over}
use Rattle.escape.proofs.Encodes.{scalar_low, scalar_high}

-- ---- the character of a number

-- where t is what a call says of it
module _ (v : ℕ) (t : Bool) (q : t ≡ is_char v) where
  pub char_is : t ≡ true → Reference.Character v ≡ char_of v
  unfolding char_of
  char_is e = by_true _ _ _ _ (sym q ∙ e) refl

  pub char_not : t ≡ false → Reference.NoCharacter ≡ char_of v
  unfolding char_of
  char_not e = by_false _ _ _ _ (sym q ∙ e) refl

pub ruleset chars = (rules, char_is, char_not)

-- from the surrogates on only the last two ranges count
char_high : (v : ℕ) → 0xD800 ≤ v → (r : Bool) → r ≡ among ((0xE000, 0xFFFD) ∷ (0x10000, 0x10FFFF) ∷ []) v → r ≡ is_char v
char_high v h r e =
    range_over _ _ _ v 0x9 0x9 0xA refl (omega arith)
    (range_over _ _ _ v 0xA 0xA 0xB refl (omega arith)
    (range_over _ _ _ v 0xD 0xD 0xE refl (omega arith) (range_over _ _ _ v 0x20 0xD7FF 0xD800 refl h e)))

-- no number from `past` on is one's
past_char : (v : ℕ) → past ≤ v → is_char v ≡ false
past_char v h =
    sym (char_high v (omega arith) false
    (range_over _ _ _ v 0xE000 0xFFFD 0xFFFE refl (omega arith) (range_over _ _ _ v 0x10000 0x10FFFF 0x110000 refl (omega arith) refl)))

-- nor is a surrogate
gap_char : (v : ℕ) → 0xD800 ≤ v → v < 0xE000 → is_char v ≡ false
gap_char v h k = sym (char_high v h false (range_under _ _ _ v 0xE000 0xFFFD 0xE000 refl k (range_under _ _ _ v 0x10000 0x10FFFF 0xE000 refl k refl)))

-- so a character's number is a scalar value
pub char_scalar : (v : ℕ) → is_char v ≡ true → is_scalar v ≡ true
char_scalar v e =
    elim (dec_lt v 0xD800) [
      | yes h ↦ scalar_low v h
      | no h ↦ elim (dec_lt v 0xE000) [
        | yes k ↦ clash (is_char v) e (gap_char v (omega arith) k)
        | no k ↦ elim (dec_lt v past) [
          | yes l ↦ scalar_high v (omega arith) l
          | no l ↦ clash (is_char v) e (past_char v (omega arith))
        ]
      ]
    ]

pub past_none : (v : ℕ) → past ≤ v → char_of v ≡ Reference.NoCharacter
unfolding char_of
past_none v h = sym (by_false _ _ _ _ (past_char v h) refl)

-- ---- one digit more

module _ (v base d : ℕ) (b : base ≤ 16) (h : v < past) where
  product_fits : v * base ≤ past * 16
  product_fits = let k : v ≤ past = omega arith in mul-le-mul k b

  pub more_fits : Fits w32 (v * base)
  more_fits = record { fits = omega (arith, product_fits) }

  pub more_sum_fits : d < base → Fits w32 (v * base + d)
  more_sum_fits l = record { fits = omega (arith, product_fits) }

pub ruleset mores = (choices, more_fits, more_sum_fits)

-- ---- the loop over the digits

-- what a loop knows that stands at i with the value v: the number is that of the digits from i on behind a number that is v, or past all characters as v is
pub record Reads (s : List ℕ) (base from i v : ℕ) : Type 0 where
  pub real : ℕ
  pub same : number_of base (drop from s) ≡ number_from base real (drop i s)
  pub low : v < past → v ≡ real
  pub high : past ≤ v → past ≤ real

module _ (s : List ℕ) (base from : ℕ) where
  pub reads_none : length s ≤ from → Reference.NotOfForm ≡ number_of base (drop from s)
  unfolding number_of
  reads_none h = rw (drop_done s from h)

  pub reads_start : from < length s → Reads s base from from 0
  unfolding number_of
  reads_start h = record { real = 0; same = rw (drop_next s from h); low = λ _. refl; high = λ l. absurd (omega arith) }

  module _ (i v : ℕ) (r : Reads s base from i v) where
    pub reads_end : length s ≤ i → (c : Reference) → c ≡ char_of v → c ≡ number_of base (drop from s)
    unfolding number_from
    reads_end h c e = e ∙ by (dec_lt v past) ∙ sym (r.same ∙ rw (drop_done s i h))
      where
        by : Dec (v < past) → char_of v ≡ char_of r.real
        by (yes l) = ap char_of (r.low l)
        by (no l) = past_none v (omega arith) ∙ sym (past_none r.real (r.high (omega arith)))

    module _ (h : i < length s) (d : ℕ) (q : d ≡ digit (get_or s i 0)) where
      next : number_from base r.real (drop i s) ≡ pick (leb base d) Reference.NotOfForm (number_from base (r.real * base + d) (drop (i + 1) s))
      unfolding number_from
      next = rw (drop_next s i h, q)

      pub reads_stop : base ≤ d → Reference.NotOfForm ≡ number_of base (drop from s)
      reads_stop l = sym (r.same ∙ next ∙ sym (pick_le _ _ _ _ _ l refl))

      pub reads_turn : 1 ≤ base → d < base → (w : ℕ) → w ≡ pick (ltb v past) (v * base + d) v → Reads s base from (i + 1) w
      reads_turn one l w e = by (dec_lt v past)
        where
          same : number_of base (drop from s) ≡ number_from base (r.real * base + d) (drop (i + 1) s)
          same = r.same ∙ next ∙ sym (pick_nle _ _ _ _ _ l refl)

          by : Dec (v < past) → Reads s base from (i + 1) w
          by (yes k) =
              let f : w ≡ r.real * base + d = e ∙ sym (pick_lt _ _ _ _ _ k refl) ∙ ap (λ (x : ℕ). x * base + d) (r.low k) in
              record { real = r.real * base + d; same = same; low = λ _. f; high = λ m. omega arith }
          by (no k) =
              let f : w ≡ v = e ∙ sym (pick_nlt _ _ _ v past (omega arith) refl) in
              let g : past ≤ r.real = r.high (omega arith) in
              let m : r.real * 1 ≤ r.real * base = mul-le-mul_left r.real one in
              record { real = r.real * base + d; same = same; low = λ x. absurd (omega arith); high = λ x. omega arith }

pub ruleset numbers = (rules, reads_none, reads_start, reads_end, reads_stop, reads_turn)

-- ---- what a reference names is an XML character

-- a reference that names one, if it names any
abbrev Proper : Reference → Type 0
Proper r = (v : ℕ) → r ≡ Reference.Character v → is_char v ≡ true

char_proper : (w : ℕ) → Proper (char_of w)
unfolding char_of
char_proper w =
    pick_cases Proper (is_char w) (Reference.Character w) Reference.NoCharacter (λ t v e. let same : w ≡ v = cc in ap is_char (sym same) ∙ t)
    (λ t v e. let z : ◌≡◌ {A = ℕ} 0 1 = cc in absurd (omega arith))

none_proper : Proper Reference.NotOfForm
none_proper v e = let z : ◌≡◌ {A = ℕ} 0 1 = cc in absurd (omega arith)

known_proper : (w : ℕ) → is_char w ≡ true → Proper (Reference.Character w)
known_proper w t v e = let same : w ≡ v = cc in ap is_char (sym same) ∙ t

numbers_proper : (base w : ℕ) (bs : List ℕ) → Proper (number_from base w bs)
unfolding number_from
numbers_proper base w [] = char_proper w
numbers_proper base w (b ∷ bs) =
    pick_cases Proper (leb base (digit b)) Reference.NotOfForm (number_from base (w * base + digit b) bs) (λ _. none_proper) (λ _. numbers_proper base (w * base + digit b) bs)

number_proper : (base : ℕ) (bs : List ℕ) → Proper (number_of base bs)
unfolding number_of
number_proper base [] = none_proper
number_proper base (b ∷ bs) = numbers_proper base 0 (b ∷ bs)

pub reference_proper : (content : List ℕ) → Proper (reference_of content)
unfolding reference_of
reference_proper c =
    pick_cases Proper (same c lt_name) _ _ (λ _. known_proper lt refl)
    (λ _. pick_cases Proper (same c gt_name) _ _ (λ _. known_proper gt refl)
    (λ _. pick_cases Proper (same c amp_name) _ _ (λ _. known_proper amp refl)
    (λ _. pick_cases Proper (same c apos_name) _ _ (λ _. known_proper apos refl)
    (λ _. pick_cases Proper (same c quot_name) _ _ (λ _. known_proper quot refl)
    (λ _. pick_cases Proper (begins c (hash ∷ lower_x ∷ [])) _ _ (λ _. number_proper 16 (drop 2 c))
    (λ _. pick_cases Proper (begins c (hash ∷ [])) _ _ (λ _. number_proper 10 (drop 1 c)) (λ _. none_proper)))))))
