-- The order of values is the order of hours and minutes, and no two times have one value. Assumes nothing.
use Prim.Native.Nat.{ℕ, zero, suc, ◌+◌, ◌-◌, ◌*◌, ◌/◌, ◌%◌, ◌≤◌, ◌<◌}
use mathlib.Core.Path.{◌≡◌, refl, sym, ◌∙◌}
use mathlib.Core.List.{List}
use mathlib.Core.Bool.{true}
use mathlib.Core.Logic.{◌↔◌, inl, inr, ⊎_elim}
use native.Mathlib.Omega.{arith}
use native.Mathlib.Decide.{dec_lt}
use lib.ListN.{length}
use lib.Seq.{ext_get_or}
use lib.Dec.{eqb, leb}
use borrow.Author.Tests.{eqb-true, leb-true, le-leb}
use Rattle.ground.proofs.Choices.{both}
use Rattle.columns.specs.Time.{colon, is_digit, two_digits, byte, is_clock, hours, minutes, is_time, value, spelt_at, spelt}
use Rattle.columns.specs.Words.{Before}

-- what a digit's test says
digit_range : (b : ℕ) → is_digit b ≡ true → (0x30 ≤ b) × (b ≤ 0x39)
digit_range b e = let h = both (leb 0x30 b) (leb b 0x39) e in (leb-true 0x30 b h.0, leb-true b 0x39 h.1)

-- what the test of a time says
pub record Clock (s : List ℕ) : Type 0 where
  pub five : length s ≡ 5
  pub d0 : is_digit (byte s 0) ≡ true
  pub d1 : is_digit (byte s 1) ≡ true
  pub mark : byte s 2 ≡ colon
  pub d3 : is_digit (byte s 3) ≡ true
  pub d4 : is_digit (byte s 4) ≡ true
  pub late : hours s ≤ 47
  pub long : minutes s ≤ 59

pub clock : (s : List ℕ) → is_time s ≡ true → Clock s
unfolding is_time is_clock
clock s e =
    let a = both (is_clock s) _ e in
    let b = both (leb (hours s) 47) _ a.1 in
    let c = both (leb (minutes s) 59) _ b.1 in
    let f = both (eqb (length s) 5) _ a.0 in
    let d0 = both (is_digit (byte s 0)) _ f.1 in
    let d1 = both (is_digit (byte s 1)) _ d0.1 in
    let d2 = both (eqb (byte s 2) colon) _ d1.1 in
    let d3 = both (is_digit (byte s 3)) _ d2.1 in
    let d4 = both (is_digit (byte s 4)) _ d3.1 in
    record {
      five = eqb-true (length s) 5 f.0;
      d0 = d0.0;
      d1 = d1.0;
      mark = eqb-true (byte s 2) colon d2.0;
      d3 = d3.0;
      d4 = d4.0;
      late = leb-true (hours s) 47 b.0;
      long = leb-true (minutes s) 59 c.0;
    }

-- two digits tell which they are
two_apart : (a b c d : ℕ) → is_digit a ≡ true → is_digit b ≡ true → is_digit c ≡ true → is_digit d ≡ true → two_digits a b ≡ two_digits c d → (a ≡ c) × (b ≡ d)
unfolding two_digits
two_apart a b c d ea eb ec ed e =
    let ra = digit_range a ea in
    let rb = digit_range b eb in
    let rc = digit_range c ec in
    let rd = digit_range d ed in
    (omega arith, omega arith)

-- bytes that are five, and the same at each place
five_same : (a b : List ℕ) → length a ≡ 5 → length b ≡ 5 → byte a 0 ≡ byte b 0 → byte a 1 ≡ byte b 1 → byte a 2 ≡ byte b 2 → byte a 3 ≡ byte b 3
    → byte a 4 ≡ byte b 4 → a ≡ b
five_same a b la lb e0 e1 e2 e3 e4 = ext_get_or 0 a b (la ∙ sym lb) (λ i l. at i (omega arith))
  where
    at : (i : ℕ) → i < 5 → byte a i ≡ byte b i
    at zero l = e0
    at (suc zero) l = e1
    at (suc (suc zero)) l = e2
    at (suc (suc (suc zero))) l = e3
    at (suc (suc (suc (suc zero)))) l = e4
    at (suc (suc (suc (suc (suc i))))) l = absurd (omega arith)

module _ (a b : List ℕ) (ta : is_time a ≡ true) (tb : is_time b ≡ true) where
  -- THEOREM: "24:10 sorts after 23:50": value order is the order of hours and minutes, for all times
  pub value_order_is_the_order_of_hours_and_minutes : (value a < value b) ↔ Before a b
  value_order_is_the_order_of_hours_and_minutes = (to, from)
    where
      to : value a < value b → Before a b
      to l = elim (dec_lt (hours a) (hours b)) [
        | yes h ↦ inl h
        | no h ↦ inr (omega (arith, (clock a ta).long, (clock b tb).long), omega (arith, (clock a ta).long, (clock b tb).long))
      ]

      from : Before a b → value a < value b
      from = ⊎_elim (λ h. omega (arith, (clock a ta).long, (clock b tb).long)) (λ h. omega arith)

  -- THEOREM: no two times have one value
  pub one_value_one_time : value a ≡ value b → a ≡ b
  one_value_one_time e =
      let x = clock a ta in
      let y = clock b tb in
      let h : hours a ≡ hours b = omega (arith, x.long, y.long) in
      let m : minutes a ≡ minutes b = omega (arith, x.long, y.long) in
      let p = two_apart (byte a 0) (byte a 1) (byte b 0) (byte b 1) x.d0 x.d1 y.d0 y.d1 h in
      let q = two_apart (byte a 3) (byte a 4) (byte b 3) (byte b 4) x.d3 x.d4 y.d3 y.d4 m in
      five_same a b x.five y.five p.0 p.1 (x.mark ∙ sym y.mark) q.0 q.1

-- THEOREM: a value is below two days' minutes
pub a_value_is_below_two_days : (a : List ℕ) → is_time a ≡ true → value a ≤ 2879
a_value_is_below_two_days a t = omega (arith, (clock a t).late, (clock a t).long)

-- ---- printed

digit_spelt : (n : ℕ) → n ≤ 9 → is_digit (0x30 + n) ≡ true
digit_spelt n l = rw (le-leb 0x30 (0x30 + n) (omega arith), le-leb (0x30 + n) 0x39 (omega arith)) refl

module _ (v : ℕ) (low : v ≤ 2879) where
  -- THEOREM: what is printed of a value is a time with that value
  pub a_value_is_printed_as_its_time : (is_time (spelt v) ≡ true) × (value (spelt v) ≡ v)
  unfolding is_time is_clock two_digits spelt_at
  a_value_is_printed_as_its_time =
      let h : 10 * (0x30 + v / 60 / 10 % 10 - 0x30) + (0x30 + v / 60 % 10 - 0x30) ≤ 47 = omega arith in
      let m : 10 * (0x30 + v % 60 / 10 - 0x30) + (0x30 + v % 60 % 10 - 0x30) ≤ 59 = omega arith in (
        rw (
          digit_spelt (v / 60 / 10 % 10) (omega arith),
          digit_spelt (v / 60 % 10) (omega arith),
          digit_spelt (v % 60 / 10) (omega arith),
          digit_spelt (v % 60 % 10) (omega arith),
          le-leb (10 * (0x30 + v / 60 / 10 % 10 - 0x30) + (0x30 + v / 60 % 10 - 0x30)) 47 h,
          le-leb (10 * (0x30 + v % 60 / 10 - 0x30) + (0x30 + v % 60 % 10 - 0x30)) 59 m,
        )
            refl,
        omega arith,
      )

-- THEOREM: so a time that is read is printed as it stood
pub a_time_is_printed_as_it_stood : (a : List ℕ) → is_time a ≡ true → spelt (value a) ≡ a
a_time_is_printed_as_it_stood a t =
    let p = a_value_is_printed_as_its_time (value a) (a_value_is_below_two_days a t) in
    one_value_one_time (spelt (value a)) a p.0 t p.1
