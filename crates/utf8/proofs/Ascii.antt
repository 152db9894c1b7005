-- Blocks of ASCII that the check passes at once. Assumes nothing.
use Prim.Native.Nat.{ℕ, ◌+◌, ◌-◌, ◌≤◌, ◌<◌}
use mathlib.Core.Path.{◌≡◌, refl, sym, ap, ap₂, ◌∙◌, subst}
use mathlib.Core.List.{List}
use mathlib.Core.Bool.{Bool, true, false}
use native.Mathlib.Omega.{arith}
use native.Mathlib.Decide.{dec_lt}
use borrow.Author.Tests.{leb-false}
use lib.Dec.{leb}
use lib.ListN.{length, get_or, take, drop, length-take, length-drop, take-append-drop}
use lib.Seq.{get_or-take, get_or-drop, drop-drop}
use Rattle.ground.specs.Part.{part}
use Rattle.ground.proofs.Choices.{clash}
use Rattle.ground.proofs.Lists.{part_length, part_byte, part_end}
use Rattle.blocks.specs.Blocks.{NoneOf, YesWhere}
use Rattle.blocks.proofs.Flags.{block_fits, block_less}
use Rattle.utf8.specs.Utf8.{char_len, check}
use Rattle.utf8.specs.Ascii.{Ascii, Sure, Reached}
use Rattle.utf8.specs.declared.Utf8.TheVariants.{WellFormed, IllFormed}
use Rattle.utf8.proofs.Rfc.{ascii_run, ascii_octets, well_formed}
use Rattle.utf8.proofs.Turns.{all_turns, all_end, all_ill}

-- ---- blocks

-- n bytes at i are below `top`, which is 128 at most, and what goes before them is ASCII
module _ (s : List ℕ) (top n : ℕ) (t : top ≤ 128) where
  byte_in : (i : ℕ) → NoneOf (leb top) s i n → (p : ℕ) → i ≤ p → p < i + n → get_or s p 0 < 128
  byte_in i b p h l =
      let e : i + (p - i) ≡ p = omega arith in
      subst (λ (k : ℕ). get_or s k 0 < 128) e (let m = leb-false top (get_or s (i + (p - i)) 0) (b.none (p - i) (omega arith)) in omega arith)

  -- blocks one after the other
  more : (from i : ℕ) → Ascii s from i → NoneOf (leb top) s i n → Ascii s from (i + n)
  more from i a b = record {
    low = omega (arith, a.low);
    within = λ h. b.within;
    ascii = λ p h l. elim (dec_lt p i) [
      | yes m ↦ a.ascii p h m
      | no m ↦ byte_in i b p (omega arith) l
    ];
  }

  -- a span that ends in the block at i, or at its end, and is ASCII up to some place from i on
  covers : (from to i : ℕ) → from ≤ to → Ascii s from i → (k : ℕ) → k ≤ i → NoneOf (leb top) s k n → to ≤ k + n → Ascii s from to
  covers from to i h a k l b m = record {
    low = h;
    within = λ g. omega (arith, b.within);
    ascii = λ p g q. elim (dec_lt p i) [
      | yes w ↦ a.ascii p g w
      | no w ↦ byte_in k b p (omega arith) (omega arith)
    ];
  }

module _ (s : List ℕ) (from : ℕ) where
  pub ascii_none : Ascii s from from
  ascii_none = record { low = omega arith; within = λ h. absurd (omega arith); ascii = λ p h l. absurd (omega arith) }

  pub ascii_block : (top n i : ℕ) (q : Bool) → Ascii s from i → YesWhere q (NoneOf (leb top) s i n) → top ≤ 128 → q ≡ true → Ascii s from (i + n)
  ascii_block top n i q a b t e = more s top n t from i a (b.yes e)

-- ---- `plain` and `long_plain`

module _ (s : List ℕ) (from to : ℕ) where
  pub sure_not : Sure false s from to
  sure_not = record { yes = λ e. clash false e refl }

  module _ (top : ℕ) (q : Bool) (t : top ≤ 128) where
    -- a span that is no longer than the block at its start
    pub sure_short : (n : ℕ) → from < to → to - from ≤ n → YesWhere q (NoneOf (leb top) s from n) → Sure q s from to
    sure_short n h l b = record { yes = λ e. covers s top n t from to from (omega arith) (ascii_none s from) from (omega arith) (b.yes e) (omega arith) }

    -- one that is as long at least, and the block at its end
    pub sure_long : (n i : ℕ) → Ascii s from i → n ≤ to - from → to - i < n → YesWhere q (NoneOf (leb top) s (to - n) n) → Sure q s from to
    sure_long n i a h l b = record { yes = λ e. covers s top n t from to i (omega arith) a (to - n) (omega arith) (b.yes e) (omega arith) }

-- ---- the check over ASCII

module _ (s : List ℕ) where
  passed : (i p : ℕ) → check 0 s ≡ check i (drop i s) → Ascii s i p → check 0 s ≡ check p (drop p s)
  passed i p v a = elim (dec_lt i p) [
    | yes h ↦ let l = a.within h in
        let n : length (take (p - i) (drop i s)) ≡ p - i = simp (length-take, length-drop) (omega arith) in
        let e : i + length (take (p - i) (drop i s)) ≡ p = omega arith in
        let w : i + (p - i) ≡ p = omega arith in
        v ∙ ap (check i) (sym (take-append-drop (p - i) (drop i s)))
        ∙ ascii_run i (take (p - i) (drop i s)) (drop (p - i) (drop i s))
        (λ k m. let z : get_or (take (p - i) (drop i s)) k 0 ≡ get_or s (i + k) 0 = get_or-take (p - i) (drop i s) k 0 (omega arith) ∙ get_or-drop i s k 0 in
        let y = a.ascii (i + k) (omega arith) (omega arith) in omega arith)
        ∙ ap₂ check e (drop-drop (p - i) i s ∙ ap (λ (m : ℕ). drop m s) w)
    | no h ↦ let e : i ≡ p = omega (arith, a.low) in v ∙ ap (λ (n : ℕ). check n (drop n s)) e
  ]

  -- ---- `by_chars`

  module _ (from end i : ℕ) (low : from ≤ i) (within : i ≤ length s) (v : check 0 s ≡ check i (drop i s)) where
    pub reached_end : end ≤ i → Reached s from end i
    reached_end h = record { low = low; within = within; same = v; stuck = λ l. absurd (omega arith) }

    pub reached_stuck : (n : ℕ) → n ≡ char_len (drop i s) → n ≡ 0 → Reached s from end i
    reached_stuck n e z = record { low = low; within = within; same = v; stuck = λ l. sym e ∙ z }

  pub ascii_one : (i end : ℕ) → end ≤ length s → check 0 s ≡ check i (drop i s) → i < end → get_or s i 0 < 128 → check 0 s ≡ check (i + 1) (drop (i + 1) s)
  ascii_one i end m v h l = passed i (i + 1) v (record {
    low = omega arith;
    within = λ g. omega arith;
    ascii = λ k g j. let e : i ≡ k = omega arith in subst (λ (n : ℕ). get_or s n 0 < 128) e l;
  })

  -- ---- `check_all`, which is told that r is reached

  module _ (from end r : ℕ) (w : Reached s from end r) where
    pub reached_all : length s ≤ r → WellFormed ≡ check 0 s
    reached_all h = all_end s r w.same h

    pub reached_ill : r < length s → r < end → IllFormed r ≡ check 0 s
    reached_ill h l = all_ill s r 0 (sym (w.stuck l)) w.same h refl

    module _ (p : ℕ) (a : Ascii s r p) where
      pub past_room : p ≤ length s
      past_room = elim (dec_lt r p) [
        | yes l ↦ a.within l
        | no l ↦ omega (arith, a.low, w.within)
      ]

      pub past_same : check 0 s ≡ check p (drop p s)
      past_same = passed r p w.same a

-- ---- `check`

module _ (s : List ℕ) (from to : ℕ) (a : Ascii s from to) where
  bytes : (p : ℕ) → p < length (part s from to) → get_or (part s from to) p 0 ≤ 0x7F
  bytes p l = elim (dec_lt from to) [
    | yes h ↦ let m = part_length s from to a.low (a.within h) in
        let k = a.ascii (from + p) (omega arith) (omega arith) in
        omega (arith, part_byte s from to p (a.within h) (omega arith))
    | no h ↦ absurd (omega (arith, part_end s from to))
  ]

pub sure_well : (s : List ℕ) (from to : ℕ) (q : Bool) → Sure q s from to → q ≡ true → WellFormed ≡ check from (part s from to)
sure_well s from to q u e = sym ((well_formed from (part s from to)).1 (ascii_octets (part s from to) (bytes s from to (u.yes e))))

pub ruleset ascii_turns = (all_turns, ascii_none, ascii_block, block_fits, block_less, sure_not, sure_short, sure_long, ascii_one, reached_end, reached_stuck, reached_all, reached_ill, past_room, past_same, sure_well)
