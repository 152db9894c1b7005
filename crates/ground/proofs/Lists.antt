-- A list from a position on, a byte further. Assumes nothing.
use Prim.Native.Nat.{ℕ, zero, suc, ◌+◌, ◌-◌, ◌≤◌, ◌<◌, max}
use mathlib.Core.Path.{◌≡◌, refl, sym, ap, ◌∙◌}
use mathlib.Core.List.{List, [], ◌∷◌, ◌++◌}
use native.Mathlib.Numerals.{add-one}
use native.Mathlib.Omega.{arith}
use native.Mathlib.Decide.{dec_lt}
use lib.ListN.{length, get_or, take, drop, drop_of_length-le, length-take, length-drop, get_or-eq_default}
use lib.Seq.{drop-cons, drop-length, drop-drop, drop_at, take-nil, take-suc, take-length, take-add, get_or-take, get_or-drop}
use lib.Dec.{ltb}
use borrow.Author.Tests.{le-ltb, lt-ltb}
use Rattle.ground.specs.Part.{part}
use Rattle.ground.proofs.Choices.{pick_same}

-- what is left at i is the byte at i and what is left at i + 1
pub drop_next : (a : List ℕ) (i : ℕ) → i < length a → drop i a ≡ get_or a i 0 ∷ drop (i + 1) a
drop_next a i h = rw (add-one, drop-cons a i 0)

-- nothing is left at the end or past it
pub drop_done : (a : List ℕ) (i : ℕ) → length a ≤ i → drop i a ≡ []
drop_done a i h = drop_of_length-le a h

-- and the byte there is 0
pub byte_past : (a : List ℕ) (i : ℕ) → length a ≤ i → 0 ≡ get_or a i 0
byte_past a i h = sym (get_or-eq_default a 0 h)

-- so a byte other than 0 stands before the end
pub stands_in : (a : List ℕ) (i k : ℕ) → get_or a i 0 ≡ k → 0 < k → i < length a
stands_in a i k e h = elim (dec_lt i (length a)) [
  | yes g ↦ g
  | no g ↦ let z : 0 ≡ get_or a i 0 = byte_past a i (omega arith) in omega arith
]

-- the part that starts at the end is empty
pub at_end : (s : List ℕ) (n : ℕ) → take n (drop (length s) s) ≡ []
at_end s n = ap (take n) (drop-length s) ∙ take-nil n

-- the bytes from `from` up to i + 1 are those up to i and the byte at i
pub take_next : (s : List ℕ) (from i : ℕ) → from ≤ i → i < length s
    → take (i + 1 - from) (drop from s) ≡ take (i - from) (drop from s) ++ (get_or s i 0 ∷ [])
take_next s from i h k =
    let up : i + 1 - from ≡ suc (i - from) = omega arith in
    let back : from + (i - from) ≡ i = omega arith in
    ap (λ (n : ℕ). take n (drop from s)) up
    ∙ take-suc (drop from s) (i - from) 0 (omega (arith, length-drop from s))
    ∙ ap (λ (b : ℕ). take (i - from) (drop from s) ++ (b ∷ [])) (get_or-drop from s (i - from) 0 ∙ ap (λ (n : ℕ). get_or s n 0) back)

take_take : (n m : ℕ) (l : List ℕ) → n ≤ m → take n (take m l) ≡ take n l
take_take zero m l h = refl
take_take (suc n) zero l h = absurd (omega arith)
take_take (suc n) (suc m) [] h = refl
take_take (suc n) (suc m) (b ∷ l) h = ap (λ (t : List ℕ). b ∷ t) (take_take n m l (omega arith))

module _ (s : List ℕ) (from to : ℕ) where
  -- a span that lies in the slice
  pub part_in : from ≤ to → to ≤ length s → part s from to ≡ take (to - from) (drop from s)
  part_in h k = simp (le-ltb to from h, le-ltb (length s) to k)

  -- one whose ends are in the wrong order, or that ends past the slice
  pub part_crossed : to < from → part s from to ≡ []
  part_crossed h = simp (lt-ltb to from h)

  pub part_past : length s < to → part s from to ≡ []
  part_past h = simp (lt-ltb (length s) to h) (pick_same (ltb to from) [])

  pub part_length : from ≤ to → to ≤ length s → length (part s from to) ≡ to - from
  part_length h k = ap length (part_in h k) ∙ simp (length-take, length-drop) (omega arith)

  -- where a part ends lies within its span, whatever the span
  pub part_end : from + length (part s from to) ≤ max from to
  part_end =
      elim (dec_lt to from) [
        | yes h ↦ rw (part_crossed h) (omega arith)
        | no h ↦ elim (dec_lt (length s) to) [
          | yes k ↦ rw (part_past k) (omega arith)
          | no k ↦ omega (arith, part_length (omega arith) (omega arith))
        ]
      ]

-- a span up to the slice's end is what is left there, wherever it starts
pub part_from : (s : List ℕ) (from : ℕ) → part s from (length s) ≡ drop from s
part_from s from =
    elim (dec_lt (length s) from) [
      | yes h ↦ part_crossed s from (length s) h ∙ sym (drop_done s from (omega arith))
      | no h ↦
          part_in s from (length s) (omega arith) (omega arith)
          ∙ ap (λ (n : ℕ). take n (drop from s)) (sym (length-drop from s))
          ∙ take-length (drop from s)
    ]

-- the first n bytes of a span are a span of their own
pub part_first : (s : List ℕ) (from to n : ℕ) → from ≤ to → to ≤ length s → n ≤ to - from → part s from (from + n) ≡ take n (part s from to)
part_first s from to n h k l =
    let e : from + n - from ≡ n = omega arith in
    part_in s from (from + n) (omega arith) (omega arith)
    ∙ ap (λ (i : ℕ). take i (drop from s)) e
    ∙ sym (ap (take n) (part_in s from to h k) ∙ take_take n (to - from) (drop from s) l)

-- the first byte of a span, and the others
pub part_next : (s : List ℕ) (from to : ℕ) → from < to → to ≤ length s → part s from to ≡ get_or s from 0 ∷ part s (from + 1) to
part_next s from to h k =
    let e : to - from ≡ suc (to - (from + 1)) = omega arith in
    part_in s from to (omega arith) k
    ∙ rw (e, drop_next s from (omega arith)) (ap (λ (bs : List ℕ). get_or s from 0 ∷ bs) (sym (part_in s (from + 1) to (omega arith) k)))

-- the byte at p of a span
pub part_byte : (s : List ℕ) (from to p : ℕ) → to ≤ length s → p < to - from → get_or (part s from to) p 0 ≡ get_or s (from + p) 0
part_byte s from to p k h =
    ap (λ (bs : List ℕ). get_or bs p 0) (part_in s from to (omega arith) k)
    ∙ get_or-take (to - from) (drop from s) p 0 h
    ∙ get_or-drop from s p 0

-- a span in two
module _ (s : List ℕ) (from mid to : ℕ) (h : from ≤ mid) (k : mid ≤ to) (l : to ≤ length s) where
  pub part_cut : part s from to ≡ part s from mid ++ part s mid to
  part_cut =
      let e : to - from ≡ mid - from + (to - mid) = omega arith in
      let f : from + (mid - from) ≡ mid = omega arith in
      part_in s from to (omega arith) l
      ∙ ap (λ (n : ℕ). take n (drop from s)) e
      ∙ take-add (mid - from) (to - mid) (drop from s)
      ∙ rw (drop-drop (mid - from) from s, f, part_in s from mid h (omega arith), part_in s mid to k l) refl

  -- the second of the two
  pub part_rest : drop (mid - from) (part s from to) ≡ part s mid to
  part_rest = ap (drop (mid - from)) part_cut ∙ drop_at (part s from mid) (part s mid to) (mid - from) (part_length s from mid h (omega arith))
