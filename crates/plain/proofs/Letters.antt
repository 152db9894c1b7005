-- What the bytes do to the character at hand comes to what the check says of them, wherever it stands. Assumes nothing.
use Prim.Native.Nat.{ℕ, zero, suc, ◌+◌, ◌-◌, ◌≤◌, ◌<◌}
use mathlib.Core.Path.{◌≡◌, refl, sym, ap, ◌∙◌, subst}
use mathlib.Core.List.{List, [], ◌∷◌}
use mathlib.Core.Bool.{Bool, true, false, ◌&&◌}
use native.Mathlib.Numerals.{sub-one}
use native.Mathlib.Omega.{arith}
use lib.ListN.{length, get_or, take, drop, replicate}
use lib.Dec.{eqb, leb}
use borrow.Author.Tests.{eq-eqb, ne_eqb, lt-leb, leb-true}
use Rattle.ground.specs.Choose.{pick}
use Rattle.ground.specs.Part.{part}
use Rattle.ground.proofs.Choices.{both, pick_cases}
use Rattle.ground.proofs.Lists.{part_in, part_next}
use Rattle.utf8.specs.Utf8.{Range, in_range, in_ranges, utf8_tail, rows, row_len, char_len, at_char, check_from, check}
use Rattle.utf8.specs.declared.Utf8.{Utf8}
use Rattle.utf8.specs.declared.Utf8.TheVariants.{WellFormed, IllFormed}
use Rattle.utf8.proofs.Table.{in_range_lem, left, rest, One, left_one}
use Rattle.plain.specs.declared.known.Letters.{Letters}
use Rattle.plain.specs.Letters.{owing, ill, lead, letter, owes, onward}
use Rattle.plain.proofs.Flags.{and_none}

-- ---- a byte that no byte is

no_byte : (b : ℕ) → in_range (1, 0) b ≡ false
no_byte b = pick_cases (λ (x : Bool). x ≡ false) (leb 1 b) _ _ (λ e. lt-leb b 0 (omega (arith, leb-true 1 b e))) (λ e. refl)

ill_on : (at i : ℕ) (bs : List ℕ) → onward (ill at) i bs ≡ IllFormed at
unfolding in_ranges
ill_on at i [] = refl
ill_on at i (b ∷ bs) = rw (no_byte b)

-- ---- a byte of ASCII is never owed

abbrev Past : Letters → Type 0
Past l = (l.owed ≡ 0 → ⊥) → (b : ℕ) → b < 0x80 → (leb l.low b && leb b l.top) ≡ false

high_past : (at owed low top : ℕ) → leb 0x80 low ≡ true → Past (owing at owed low top)
high_past at owed low top h n b u = rw (lt-leb low b (omega (arith, leb-true 0x80 low h)))

ill_past : (at : ℕ) → Past (ill at)
ill_past at n zero u = refl
ill_past at n (suc b) u = and_none (leb 1 (suc b)) (leb (suc b) 0) (lt-leb (suc b) 0 (omega arith))

-- ---- the first byte of a character

module _ (at b : ℕ) where
  -- the check comes to what is known of the character, whatever bytes follow; and no byte of ASCII is owed
  record Led (l : Letters) : Type 0 where
    comes : (bs : List ℕ) → at_char (char_len (b ∷ bs)) at (λ k. check_from k (at + 1) bs) ≡ onward l (at + 1) bs
    past : Past l

  -- a row whose first range is lo .. hi
  row_length : (bs : List ℕ) (lo hi n : ℕ) (other : List Range) → One rows lo (suc hi) → rest (left rows lo (suc hi)) ≡ other → length other ≡ n
      → in_range (lo, hi) b ≡ true → char_len (b ∷ bs) ≡ pick (in_ranges other bs) (suc n) 0
  row_length bs lo hi n other one f g e =
      let q = both (leb lo b) (leb b hi) e in
      let under = leb-true b hi q.1 in
      left_one lo (suc hi) b bs (leb-true lo b q.0) (omega arith) rows one
      ∙ ap (λ (r : List Range). pick (in_ranges r bs) (suc (length r)) 0) f
      ∙ ap (λ (k : ℕ). pick (in_ranges other bs) (suc k) 0) g

  row : (lo hi n low top : ℕ) → One rows lo (suc hi) → rest (left rows lo (suc hi)) ≡ owes n low top → length (owes n low top) ≡ n → leb 0x80 low ≡ true
      → in_range (lo, hi) b ≡ true → Led (owing at n low top)
  row lo hi n low top one f g h e =
      record {
        comes = λ bs.
            ap (λ (k : ℕ). at_char k at (λ k. check_from k (at + 1) bs)) (row_length bs lo hi n (owes n low top) one f g e)
            ∙ by bs (in_ranges (owes n low top) bs);
        past = high_past at n low top h;
      }
    where
      by : (bs : List ℕ) (x : Bool) → at_char (pick x (suc n) 0) at (λ k. check_from k (at + 1) bs) ≡ pick x (check_from n (at + 1) bs) (IllFormed at)
      by bs true = refl
      by bs false = refl

  -- no row
  no_row : in_range (0x00, 0x7F) b ≡ false → in_range (0xC2, 0xDF) b ≡ false → in_range (0xE0, 0xE0) b ≡ false → in_range (0xE1, 0xEC) b ≡ false
      → in_range (0xED, 0xED) b ≡ false → in_range (0xEE, 0xEF) b ≡ false → in_range (0xF0, 0xF0) b ≡ false → in_range (0xF1, 0xF3) b ≡ false
      → in_range (0xF4, 0xF4) b ≡ false → Led (ill at)
  unfolding row_len in_ranges
  no_row e₁ e₂ e₃ e₄ e₅ e₆ e₇ e₈ e₉ =
      record { comes = λ bs. rw (e₁, e₂, e₃, e₄, e₅, e₆, e₇, e₈, e₉) (sym (ill_on at (at + 1) bs)); past = ill_past at }

  led : Led (lead at b)
  unfolding lead
  led =
      pick_cases Led (in_range (0x00, 0x7F) b) _ _ (row 0x00 0x7F 0 0x80 0xBF refl refl refl refl)
      (λ e₁. pick_cases Led (in_range (0xC2, 0xDF) b) _ _ (row 0xC2 0xDF 1 0x80 0xBF refl refl refl refl)
      (λ e₂. pick_cases Led (in_range (0xE0, 0xE0) b) _ _ (row 0xE0 0xE0 2 0xA0 0xBF refl refl refl refl)
      (λ e₃. pick_cases Led (in_range (0xE1, 0xEC) b) _ _ (row 0xE1 0xEC 2 0x80 0xBF refl refl refl refl)
      (λ e₄. pick_cases Led (in_range (0xED, 0xED) b) _ _ (row 0xED 0xED 2 0x80 0x9F refl refl refl refl)
      (λ e₅. pick_cases Led (in_range (0xEE, 0xEF) b) _ _ (row 0xEE 0xEF 2 0x80 0xBF refl refl refl refl)
      (λ e₆. pick_cases Led (in_range (0xF0, 0xF0) b) _ _ (row 0xF0 0xF0 3 0x90 0xBF refl refl refl refl)
      (λ e₇. pick_cases Led (in_range (0xF1, 0xF3) b) _ _ (row 0xF1 0xF3 3 0x80 0xBF refl refl refl refl)
      (λ e₈. pick_cases Led (in_range (0xF4, 0xF4) b) _ _ (row 0xF4 0xF4 3 0x80 0x8F refl refl refl refl)
      (λ e₉. no_row e₁ e₂ e₃ e₄ e₅ e₆ e₇ e₈ e₉)))))))))

-- ---- any byte

owes_tails : (k : ℕ) → owes k 0x80 0xBF ≡ replicate k utf8_tail
owes_tails zero = refl
owes_tails (suc k) = refl

module _ (at i b : ℕ) (bs : List ℕ) where
  -- one that is owed, by what the tests of its range say
  by_range : (k : ℕ) (x y : Bool)
      → pick (pick (pick x y false) (in_ranges (replicate k utf8_tail) bs) false) (check_from k (i + 1) bs) (IllFormed at)
      ≡ onward (pick (x && y) (owing at (suc k - 1) 0x80 0xBF) (ill at)) (i + 1) bs
  by_range k true true = rw (sub-one, owes_tails k)
  by_range k true false = sym (ill_on at (i + 1) bs)
  by_range k false y = sym (ill_on at (i + 1) bs)

  by_owed : (k low top : ℕ) → onward (owing at k low top) i (b ∷ bs) ≡ onward (letter (owing at k low top) i b) (i + 1) bs
  unfolding letter in_ranges check_from
  by_owed zero low top = (led i b).comes bs
  by_owed (suc k) low top = rw (ne_eqb (suc k) 0 (λ e. omega arith)) (by_range k (leb low b) (leb b top))

-- a byte more: what the check comes to stays the same
letters_more : (l : Letters) (i b : ℕ) (bs : List ℕ) → onward l i (b ∷ bs) ≡ onward (letter l i b) (i + 1) bs
letters_more l i b bs = by_owed l.at i b bs l.owed l.low l.top

letter_past : (l : Letters) (i b : ℕ) → Past (letter l i b)
unfolding letter
letter_past l i b =
    pick_cases Past (eqb l.owed 0) _ _ (λ e. (led i b).past)
    (λ e. pick_cases Past (leb l.low b && leb b l.top) _ _ (λ e. high_past l.at (l.owed - 1) 0x80 0xBF refl) (λ e. ill_past l.at))

-- ---- no byte more

-- what the check says then: all is well where no byte is owed, and else the character at hand is ill-formed
pub record Said (l : Letters) (u : Utf8) : Type 0 where
  pub well : l.owed ≡ 0 → u ≡ WellFormed
  pub ill_from : (l.owed ≡ 0 → ⊥) → u ≡ IllFormed l.at

none_said : (at i low top k : ℕ) → Said (owing at k low top) (onward (owing at k low top) i [])
unfolding in_ranges check_from
none_said at i low top zero = record { well = λ e. refl; ill_from = λ n. absurd (n refl) }
none_said at i low top (suc k) = record { well = λ e. absurd (omega arith); ill_from = λ n. refl }

-- ---- a part of a document

-- what is known of the characters of a part of a document that begins at `from` and was read up to i, however far it goes on
pub record Spelt (doc : List ℕ) (from i : ℕ) (l : Letters) : Type 0 where
  pub on : (to : ℕ) → i ≤ to → to ≤ length doc → check from (part doc from to) ≡ onward l i (part doc i to)
  -- and a byte of ASCII is not one that is owed
  pub bounds : Past l

pub spelt_start : (doc : List ℕ) (from : ℕ) → Spelt doc from from (owing from 0 0x80 0xBF)
unfolding in_ranges
spelt_start doc from = record { on = λ to h k. refl; bounds = λ n. absurd (n refl) }

pub spelt_more : (doc : List ℕ) (from i : ℕ) (l : Letters) → i < length doc → Spelt doc from i l → Spelt doc from (i + 1) (letter l i (get_or doc i 0))
spelt_more doc from i l h s =
    record {
      on = λ to u k.
          s.on to (omega arith) k
          ∙ ap (onward l i) (part_next doc i to (omega arith) k)
          ∙ letters_more l i (get_or doc i 0) (part doc (i + 1) to);
      bounds = letter_past l i (get_or doc i 0);
    }

part_none : (doc : List ℕ) (i : ℕ) → i ≤ length doc → part doc i i ≡ []
part_none doc i h =
    let e : i - i ≡ 0 = omega arith in
    part_in doc i i (omega arith) h ∙ ap (λ (n : ℕ). take n (drop i doc)) e

pub spelt_said : (doc : List ℕ) (from i : ℕ) (l : Letters) → i ≤ length doc → Spelt doc from i l → Said l (check from (part doc from i))
spelt_said doc from i l h s =
    subst (Said l) (sym (s.on i (omega arith) h ∙ ap (onward l i) (part_none doc i h))) (none_said l.at i l.low l.top l.owed)

-- ---- one byte of ASCII more (the `>` with which a piece ends): it changes neither answer

letter_well : (l : Letters) (i b : ℕ) → b < 0x80 → l.owed ≡ 0 → letter l i b ≡ owing i 0 0x80 0xBF
unfolding letter lead
letter_well l i b u e = rw (eq-eqb l.owed 0 e, in_range_lem 0x00 0x7F b (omega arith) (omega arith))

letter_ill : (l : Letters) (i b : ℕ) → (l.owed ≡ 0 → ⊥) → (leb l.low b && leb b l.top) ≡ false → letter l i b ≡ ill l.at
unfolding letter
letter_ill l i b n e = rw (ne_eqb l.owed 0 n, e)

pub spelt_said_more : (doc : List ℕ) (from i : ℕ) (l : Letters) → i < length doc → get_or doc i 0 < 0x80 → Spelt doc from i l → Said l (check from (part doc from (i + 1)))
spelt_said_more doc from i l h u s =
    let b = get_or doc i 0 in
    let said = spelt_said doc from (i + 1) (letter l i b) (omega arith) (spelt_more doc from i l h s) in
    record {
      well = λ e. said.well (ap (λ (m : Letters). m.owed) (letter_well l i b u e));
      ill_from = λ n.
          let f = letter_ill l i b n (s.bounds n b u) in
          let g = ap (λ (m : Letters). m.owed) f in
          said.ill_from (λ e. omega arith) ∙ ap (λ (m : Letters). IllFormed m.at) f;
    }
