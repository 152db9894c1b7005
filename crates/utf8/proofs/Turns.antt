-- The turns and the ends of the loops, and the arms of the match, over plain variables: what `search` answers the needs of the code
-- with. Assumes nothing.
use Prim.Native.Nat.{ℕ, zero, suc, ◌+◌, ◌-◌, ◌^◌, ◌≤◌, ◌<◌}
use mathlib.Core.Path.{◌≡◌, refl, sym, ap, ◌∙◌}
use mathlib.Core.List.{List, [], ◌∷◌}
use mathlib.Core.Bool.{Bool, false}
use native.Mathlib.Numerals.{sub-one}
use native.Mathlib.Omega.{arith}
use lib.ListN.{length, get_or, drop, replicate, length-drop}
use lib.Seq.{drop-drop}
use mir.Val.{Fits}
use mir.Syntax.{w64}
use borrow.Author.Rules.{rules}
use Rattle.ground.specs.Choose.{pick}
use Rattle.ground.specs.Part.{part}
use Rattle.ground.proofs.Lists.{drop_next, drop_done, part_end}
use Rattle.utf8.specs.Utf8.{in_range, utf8_tail, in_ranges, rows, char_len, check}
use Rattle.utf8.specs.declared.Utf8.{Utf8}
use Rattle.utf8.specs.declared.Utf8.TheVariants.{WellFormed, IllFormed}
use Rattle.utf8.proofs.Table.{in_range_lem, under_range, over_range, in_ranges_all, in_ranges_end, in_ranges_out, in_ranges_in}
use Rattle.utf8.proofs.Table.{left, rest, rest_len, One, left_one, left_none}
use Rattle.utf8.proofs.Chars.{same, check_char, check_stuck, check_end}
use Rattle.utf8.proofs.Rfc.{char_within, further, shift, ill_within}

-- ---- `tail_len`: what is asked at `at` is what is now asked at i

-- a byte of lo .. hi, and then `more` of 80 .. BF
abbrev pub follow : ℕ → ℕ → ℕ → List ℕ → Bool
follow lo hi more bs = in_ranges ((lo, hi) ∷ replicate more utf8_tail) bs

-- the length of a character that ends in those
abbrev pub follow_len : ℕ → ℕ → ℕ → List ℕ → ℕ
follow_len lo hi more bs = pick (follow lo hi more bs) (more + 2) 0

module _ (s : List ℕ) (at lo hi more i low high left : ℕ) (v : follow lo hi more (drop at s) ≡ follow low high left (drop i s)) where
  tail_no : follow low high left (drop i s) ≡ false → 0 ≡ follow_len lo hi more (drop at s)
  tail_no e = rw (v ∙ e)

  pub tail_end : length s ≤ i → 0 ≡ follow_len lo hi more (drop at s)
  tail_end h = tail_no (in_ranges_end (low, high) (replicate left utf8_tail) s i h)

  module _ (h : i < length s) where
    tail_out : in_range (low, high) (get_or s i 0) ≡ false → 0 ≡ follow_len lo hi more (drop at s)
    tail_out e = tail_no (in_ranges_out (low, high) (replicate left utf8_tail) s i h e)

    pub tail_low : get_or s i 0 < low → 0 ≡ follow_len lo hi more (drop at s)
    tail_low l = tail_out (under_range low high (get_or s i 0) l)

    pub tail_high : high < get_or s i 0 → 0 ≡ follow_len lo hi more (drop at s)
    tail_high l = tail_out (over_range low high (get_or s i 0) l)

    module _ (l : low ≤ get_or s i 0) (u : get_or s i 0 ≤ high) where
      tail_in : follow lo hi more (drop at s) ≡ in_ranges (replicate left utf8_tail) (drop (i + 1) s)
      tail_in = v ∙ in_ranges_in (low, high) (replicate left utf8_tail) s i h (in_range_lem low high (get_or s i 0) l u)

      pub tail_last : left ≡ 0 → more + 2 ≡ follow_len lo hi more (drop at s)
      tail_last z = rw (tail_in, z, in_ranges_all (drop (i + 1) s))

      pub tail_turn : (left ≡ 0 → ⊥) → follow lo hi more (drop at s) ≡ follow 0x80 0xBF (left - 1) (drop (i + 1) s)
      tail_turn z = tail_in ∙ go left z
        where
          go : (n : ℕ) → (n ≡ 0 → ⊥) → in_ranges (replicate n utf8_tail) (drop (i + 1) s) ≡ follow 0x80 0xBF (n - 1) (drop (i + 1) s)
          go zero z = absurd (z refl)
          go (suc n) z = rw sub-one

pub ruleset tail_turns = (rules, tail_end, tail_low, tail_high, tail_last, tail_turn)

-- ---- `char_len`: the arms, by what the tests of the match say of the first byte

pub char_end : (s : List ℕ) (i : ℕ) → length s ≤ i → 0 ≡ char_len (drop i s)
char_end s i h = let e = length-drop i s in omega (arith, (char_within (drop i s)).1)

module _ (s : List ℕ) (i : ℕ) (h : i < length s) where
  -- it is at least lo and below to: the table has one row for that, or none
  pub row_mid : (lo to : ℕ) → lo ≤ get_or s i 0 → get_or s i 0 < to → One rows lo to
      → (r : ℕ) → r ≡ rest_len (left rows lo to) (drop (i + 1) s) → r ≡ char_len (drop i s)
  row_mid lo to l u e r f = f ∙ sym (ap char_len (drop_next s i h) ∙ left_one lo to (get_or s i 0) (drop (i + 1) s) l u rows e)

  pub none_mid : (lo to : ℕ) → lo ≤ get_or s i 0 → get_or s i 0 < to → left rows lo to ≡ [] → 0 ≡ char_len (drop i s)
  none_mid lo to l u e = sym (ap char_len (drop_next s i h) ∙ left_none lo to (get_or s i 0) (drop (i + 1) s) l u rows e)

  -- it is below to, and a character by itself
  pub row_low : (to : ℕ) → get_or s i 0 < to → One rows 0 to → rest (left rows 0 to) ≡ [] → 1 ≡ char_len (drop i s)
  row_low to u e z = row_mid 0 to (omega arith) u e 1 (rw (z, in_ranges_all (drop (i + 1) s)))

  -- it is k
  pub row_key : (k : ℕ) → get_or s i 0 ≡ k → One rows k (suc k)
      → (r : ℕ) → r ≡ rest_len (left rows k (suc k)) (drop (i + 1) s) → r ≡ char_len (drop i s)
  row_key k z = row_mid k (suc k) (omega arith) (omega arith)

  -- it is past k, which has an arm of its own
  module _ (k : ℕ) (l : k ≤ get_or s i 0) (z : get_or s i 0 ≡ k → ⊥) where
    pub row_past : (to : ℕ) → get_or s i 0 < to → One rows (suc k) to
        → (r : ℕ) → r ≡ rest_len (left rows (suc k) to) (drop (i + 1) s) → r ≡ char_len (drop i s)
    row_past to = row_mid (suc k) to (omega arith)

    pub none_past : left rows (suc k) (suc (get_or s i 0)) ≡ [] → 0 ≡ char_len (drop i s)
    none_past = none_mid (suc k) (suc (get_or s i 0)) (omega arith) (omega arith)

pub ruleset char_turns = (rules, refl, char_end, row_low, row_key, row_mid, row_past, none_mid, none_past)

-- ---- `check_all`: the answer is that of the check from i on

module _ (s : List ℕ) (i n : ℕ) (e : n ≡ char_len (drop i s)) where
  pub all_room : i ≤ length s → i + n ≤ length s
  all_room h = omega (arith, (char_within (drop i s)).1, length-drop i s)

  pub all_fits : i ≤ length s → length s < 2 ^ 64 → Fits w64 (i + n)
  all_fits h b = record { fits = omega (arith, all_room h) }

  module _ (v : check 0 s ≡ check i (drop i s)) where
    pub all_ill : i < length s → n ≡ 0 → IllFormed i ≡ check 0 s
    all_ill h z = sym (v ∙ check_stuck i (drop i s) (omega (arith, length-drop i s)) (sym e ∙ z))

    pub all_turn : (n ≡ 0 → ⊥) → check 0 s ≡ check (i + n) (drop (i + n) s)
    all_turn z = v ∙ check_char i (drop i s) (omega arith) ∙ rw (← e, drop-drop n i s)

pub all_end : (s : List ℕ) (i : ℕ) → check 0 s ≡ check i (drop i s) → length s ≤ i → WellFormed ≡ check 0 s
all_end s i v h = sym (v ∙ ap (check i) (drop_done s i h) ∙ check_end i)

pub ruleset all_turns = (rules, all_room, all_fits, all_ill, all_turn, all_end)

-- ---- `check`: the answer for the part, counted in the whole

module _ (s bs : List ℕ) (from to : ℕ) (u : Utf8) (e : u ≡ check 0 bs) (p : bs ≡ part s from to) where
  pub span_is : (k x : Utf8) → u ≡ k → x ≡ further from k → x ≡ check from (part s from to)
  span_is k x f g =
      let q = same from (from + 0) (part s from to) (omega arith) ∙ shift 0 (part s from to) from in
      g ∙ ap (further from) (sym f ∙ e ∙ ap (check 0) p) ∙ sym q

  pub span_fits : (k : ℕ) → u ≡ IllFormed k → from < 2 ^ 64 → to < 2 ^ 64 → Fits w64 (from + k)
  span_fits k f h l =
      let w = ill_within 0 (part s from to) k (ap (check 0) (sym p) ∙ sym e ∙ f) in
      record { fits = omega (arith, part_end s from to) }

pub ruleset span_turns = (rules, refl, span_is, span_fits)
