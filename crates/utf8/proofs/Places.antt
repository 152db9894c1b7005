-- Where a part of a document is ill formed: what the check of the part tells holds in the document too, as no character goes across the part's end.
-- Assumes nothing.
use Prim.Native.Nat.{ℕ, zero, suc, ◌+◌, ◌-◌, ◌≤◌, ◌<◌}
use mathlib.Core.Path.{◌≡◌, sym, ap, ◌∙◌, subst}
use mathlib.Core.Logic.{◌⊎◌, inl, inr}
use mathlib.Core.List.{List, [], ◌∷◌, ◌++◌, append_assoc}
use native.Mathlib.Omega.{arith}
use native.Mathlib.Decide.{dec_lt}
use lib.ListN.{length, get_or, take, drop}
use lib.Seq.{take_all}
use Rattle.ground.specs.Least.{Least}
use Rattle.ground.specs.Part.{part}
use Rattle.ground.proofs.Lists.{part_in, part_crossed, part_past, part_length, part_first, part_byte, part_cut, part_rest}
use Rattle.utf8.specs.Utf8.{Range, rows, Matches, MatchesOne, Char, Octets, Stuck, IllAt, check}
use Rattle.utf8.specs.Utf8.Octets.{none, char}
use Rattle.utf8.specs.declared.Utf8.TheVariants.{IllFormed}
use Rattle.utf8.proofs.Table.{matches_length}
use Rattle.utf8.proofs.Chars.{char_some}
use Rattle.utf8.proofs.Rfc.{first_ill, stuck_least, ill_within}

-- ---- a character of two bytes or more has none up to 7F

-- no range of the row reaches below 80
abbrev High : List Range → Type 0
High [] = Unit {0}
High (r ∷ rs) = (0x80 ≤ r.0) × High rs

matches_high : (rs : List Range) (c : List ℕ) → High rs → Matches rs c → (k : ℕ) → k < length c → 0x80 ≤ get_or c k 0
matches_high [] [] h m k l = absurd (omega arith)
matches_high [] (b ∷ bs) h m k l = absurd m
matches_high (r ∷ rs) [] h m k l = absurd m
matches_high (r ∷ rs) (b ∷ bs) h m zero l = omega (arith, h.0, m.0)
matches_high (r ∷ rs) (b ∷ bs) h m (suc k) l = matches_high rs bs h.1 m.2 k (omega arith)

-- each row has one byte, or none of its ranges reaches below 80
abbrev HighRows : List (List Range) → Type 0
HighRows [] = Unit {0}
HighRows (r ∷ rs) = ((length r ≤ 1) ⊎ High r) × HighRows rs

rows_high : (rs : List (List Range)) (c : List ℕ) → HighRows rs → MatchesOne rs c → 2 ≤ length c → (k : ℕ) → k < length c → 0x80 ≤ get_or c k 0
rows_high [] c h m two = absurd m
rows_high (r ∷ rs) c (inl short, h) (inl m) two = absurd (omega (arith, matches_length r c m))
rows_high (r ∷ rs) c (inr high, h) (inl m) two = matches_high r c high m
rows_high (r ∷ rs) c (x, h) (inr m) two = rows_high rs c h m two

pub char_high : (c : List ℕ) → Char c → 2 ≤ length c → (k : ℕ) → k < length c → 0x80 ≤ get_or c k 0
char_high c h two = rows_high rows c high h.matches two
  where
    high : HighRows rows
    high = (inl (omega arith), (inr (omega arith), (inr (omega arith), (inr (omega arith), (inr (omega arith), (inr (omega arith), (inr (omega arith), (inr (omega arith), (inr (omega arith), tt)))))))))

-- ---- parts

-- the bytes of a part before the place `mid`
part_start : (s : List ℕ) (from mid to : ℕ) → from ≤ mid → mid ≤ to → to ≤ length s → take (mid - from) (part s from to) ≡ part s from mid
part_start s from mid to h k l =
    let e : from + (mid - from) ≡ mid = omega arith in
    sym (part_first s from to (mid - from) (omega arith) l (omega arith)) ∙ ap (part s from) e

-- ---- characters one after the other

pub octets_join : {xs ys : List ℕ} → Octets xs → Octets ys → Octets (xs ++ ys)
octets_join none o = o
octets_join {ys = ys} (char {c = c} {bs = bs} h x) o = subst Octets (sym (append_assoc c bs ys)) (char h (octets_join x o))

pub octets_nothing : (s : List ℕ) (p : ℕ) → p ≤ length s → Octets (part s p p)
octets_nothing s p h =
    let e : p - p ≡ 0 = omega arith in
    subst Octets (sym (part_in s p p (omega arith) h ∙ ap (λ (n : ℕ). take n (drop p s)) e)) none

pub octets_parts : (s : List ℕ) (from mid to : ℕ) → from ≤ mid → mid ≤ to → to ≤ length s → Octets (part s from mid) → Octets (part s mid to) → Octets (part s from to)
octets_parts s from mid to h k l x y = subst Octets (sym (part_cut s from mid to h k l)) (octets_join x y)

-- ---- places that no character goes across

-- a byte up to 7F stands there or just before; the end is one too, since a byte past it reads as 0
abbrev pub Border : List ℕ → ℕ → Type 0
Border s p = (get_or s p 0 ≤ 0x7F) ⊎ (get_or s (p - 1) 0 ≤ 0x7F)

-- the bytes of a character of two bytes or more, where they stand
bytes_high : (s : List ℕ) (from end : ℕ) → end ≤ length s → from + 2 ≤ end → Char (part s from end) → (p : ℕ) → from ≤ p → p < end → 0x80 ≤ get_or s p 0
bytes_high s from end l two c p h k =
    let e : from + (p - from) ≡ p = omega arith in
    let n = part_length s from end (omega arith) l in
    let same = part_byte s from end (p - from) l (omega arith) ∙ ap (λ (q : ℕ). get_or s q 0) e in
    omega (arith, char_high (part s from end) c (omega arith) (p - from) (omega arith))

-- a character that starts before a border ends there, or before
within_border : (s : List ℕ) (from to : ℕ) → Border s to → from < to → (end : ℕ) → Char (part s from end) → end ≤ to
within_border s from to b h end c =
    elim (dec_lt to end) [
      | no n ↦ omega arith
      | yes n ↦ elim (dec_lt (length s) end) [
        | yes m ↦ absurd (omega (arith, char_some (part s from end) c, ap length (part_past s from end m)))
        | no m ↦ let high = bytes_high s from end (omega arith) (omega arith) c in
            absurd (by b (high to (omega arith) n) (high (to - 1) (omega arith) (omega arith)))
      ]
    ]
  where
    by : Border s to → 0x80 ≤ get_or s to 0 → 0x80 ≤ get_or s (to - 1) 0 → ⊥
    by (inl x) y z = omega arith
    by (inr x) y z = omega arith

module _ (s : List ℕ) (from to : ℕ) where
  -- what the check of a part that ends at a border tells
  pub ill_here : to ≤ length s → Border s to → from ≤ to → (p : ℕ) → check from (part s from to) ≡ IllFormed p → IllAt s from to p
  ill_here within b h p e =
      let w = ill_within from (part s from to) p e in
      let n : length (part s from to) ≡ to - from = part_length s from to h within in
      let back : from + (p - from) ≡ p = omega arith in
      let stuck = (((first_ill from (part s from to)).found (p - from)).0 (e ∙ ap IllFormed (sym back))).has in
      record {
        after = w.0;
        before = omega arith;
        within = within;
        well_formed = subst Octets (part_start s from p to w.0 (omega arith) within) stuck.before;
        no_char = no_char p (omega arith) (omega arith) stuck.no_char;
      }
    where
      no_char : (p : ℕ) → from ≤ p → p < to → ((n : ℕ) → Char (take n (drop (p - from) (part s from to))) → ⊥) → (end : ℕ) → Char (part s p end) → ⊥
      no_char p h l f end c =
          elim (dec_lt end p) [
            | yes x ↦ omega (arith, char_some (part s p end) c, ap length (part_crossed s p end x))
            | no x ↦ let m : end ≤ to = within_border s p to b l end c in
                f (end - p) (subst Char (sym (ap (take (end - p)) (part_rest s from p to h (omega arith) within) ∙ part_start s p end to (omega arith) m within)) c)
          ]

  -- the part gets stuck there
  ill_stuck : (p : ℕ) → IllAt s from to p → Stuck (part s from to) (p - from)
  ill_stuck p x =
      let a = x.after in
      let b = x.before in
      let l = x.within in
      let n = part_length s from to (omega arith) l in
      record {
        within = omega arith;
        before = subst Octets (sym (part_start s from p to a (omega arith) l)) x.well_formed;
        no_char = λ n c. here b l n (subst (λ (bs : List ℕ). Char (take n bs)) (part_rest s from p to a (omega arith) l) c);
      }
    where
      here : p < to → to ≤ length s → (n : ℕ) → Char (take n (part s p to)) → ⊥
      here b within n c =
          elim (dec_lt n (to - p)) [
            | yes l ↦ x.no_char (p + n) (subst Char (sym (part_first s p to n (omega arith) within (omega arith))) c)
            | no l ↦ x.no_char to (subst Char (take_all n (part s p to) (omega (arith, part_length s p to (omega arith) within))) c)
          ]

  -- a part has one such place, which is therefore the least
  pub ill_first : (p : ℕ) → IllAt s from to p → Least (IllAt s from to) p
  ill_first p x = record {
    has = x;
    before = λ k h y. (stuck_least from (part s from to) (p - from) (ill_stuck p x)).before (k - from) (omega (arith, y.after)) (ill_stuck k y);
  }

-- it is one of a longer part too, where what goes before is well formed
pub ill_wider : (s : List ℕ) (from to low high p : ℕ) → low ≤ from → to ≤ high → high ≤ length s → Octets (part s low from) → IllAt s from to p → IllAt s low high p
ill_wider s from to low high p h k l o x =
    let a = x.after in
    let b = x.before in
    record {
      after = omega arith;
      before = omega arith;
      within = l;
      well_formed = octets_parts s low from p h a (omega arith) o x.well_formed;
      no_char = x.no_char;
    }
