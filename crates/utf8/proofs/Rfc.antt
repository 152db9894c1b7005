-- What a reader of RFC 3629 expects of the definitions of specs/Utf8. Assumes nothing.
use Prim.Native.Nat.{ℕ, suc, ◌+◌, ◌≤◌, ◌<◌}
use mathlib.Core.Path.{◌≡◌, refl, sym, ap, ◌∙◌}
use mathlib.Core.Logic.{◌↔◌, inl, inr}
use mathlib.Core.List.{List, [], ◌∷◌, ◌++◌, append_assoc, append-nil}
use native.Mathlib.Omega.{arith}
use lib.ListN.{length, get_or, take, drop, length-append, length-drop, take-append-drop}
use lib.Seq.{length-take-le}
use Rattle.ground.specs.Least.{Least, Gives}
use Rattle.ground.proofs.First.{gives_at, gives_none}
use Rattle.utf8.specs.Utf8.{rows, char_len, Char, Octets, Stuck, check}
use Rattle.utf8.specs.Utf8.Octets.{none, char}
use Rattle.utf8.specs.declared.Utf8.{Utf8}
use Rattle.utf8.specs.declared.Utf8.TheVariants.{WellFormed, IllFormed}
use Rattle.utf8.proofs.Table.{row_len_fits, row_len_most}
use Rattle.utf8.proofs.Chars.{char_whole, char_some, nothing_taken, same, check_before, check_stuck, check_end, Read, read}

-- What the table takes of any bytes is at most four of them, and lies within them.
pub char_within : (bs : List ℕ) → (char_len bs ≤ 4) × (char_len bs ≤ length bs)
char_within bs = (row_len_most 4 rows bs refl, row_len_fits rows bs)

-- A character has one to four bytes.
pub char_size : {c : List ℕ} → Char c → (1 ≤ length c) × (length c ≤ 4)
char_size {c} h =
    let e = char_whole c h in
    (char_some c h, omega (arith, (char_within c).0))

-- Characters that stand in front are passed over: bytes that are cut between two characters are checked part by part.
pub cut : (i : ℕ) {xs : List ℕ} (ys : List ℕ) → Octets xs → check i (xs ++ ys) ≡ check (i + length xs) ys
cut i ys none = same i (i + 0) ys (omega arith)
cut i ys (char {c = c} {bs = bs} h o) =
    ap (check i) (append_assoc c bs ys)
    ∙ check_before i c (bs ++ ys) h
    ∙ cut (i + length c) ys o
    ∙ same (i + length c + length bs) (i + length (c ++ bs)) ys (omega (arith, length-append c bs))

-- A byte up to 7F is a character by itself.
pub ascii_char : (b : ℕ) → b ≤ 0x7F → Char (b ∷ [])
ascii_char b h = record { matches = inl (omega arith, h, tt) }

-- So bytes up to 7F are characters,
pub ascii_octets : (xs : List ℕ) → ((k : ℕ) → k < length xs → get_or xs k 0 ≤ 0x7F) → Octets xs
ascii_octets [] h = none
ascii_octets (x ∷ xs) h = char (ascii_char x (h 0 (omega arith))) (ascii_octets xs (λ k l. h (suc k) (omega arith)))

-- and are passed over one by one.
pub ascii : (i b : ℕ) (bs : List ℕ) → b ≤ 0x7F → check i (b ∷ bs) ≡ check (i + 1) bs
ascii i b bs h = cut i bs (char (ascii_char b h) none)

pub ascii_run : (i : ℕ) (xs ys : List ℕ) → ((k : ℕ) → k < length xs → get_or xs k 0 ≤ 0x7F)
    → check i (xs ++ ys) ≡ check (i + length xs) ys
ascii_run i xs ys h = cut i ys (ascii_octets xs h)

-- the same answer with an ill position a further on
abbrev pub further : ℕ → Utf8 → Utf8
further a WellFormed = WellFormed
further a (IllFormed p) = IllFormed (a + p)

-- ---- what the two answers mean

check_whole : (i : ℕ) {bs : List ℕ} → Octets bs → check i bs ≡ WellFormed
check_whole i {bs} o = ap (check i) (sym (append-nil bs)) ∙ cut i [] o ∙ check_end (i + length bs)

check_ill : (i : ℕ) {bs : List ℕ} {p : ℕ} → Stuck bs p → check i bs ≡ IllFormed (i + p)
check_ill i {bs} {p} s =
    let h = s.within in
    let l : length (take p bs) ≡ p = length-take-le p bs (omega arith) in
    ap (check i) (sym (take-append-drop p bs))
    ∙ cut i (drop p bs) s.before
    ∙ same (i + length (take p bs)) (i + p) (drop p bs) (omega arith)
    ∙ check_stuck (i + p) (drop p bs) (omega (arith, length-drop p bs)) (nothing_taken (drop p bs) s.no_char)

never : (p : ℕ) → WellFormed ≡ IllFormed p → ⊥
never p e = let z : ◌≡◌ {A = ℕ} 0 1 = cc in omega arith

apart : (i p q : ℕ) → IllFormed (i + p) ≡ IllFormed (i + q) → p ≡ q
apart i p q e = let h : i + p ≡ i + q = cc in omega arith

module _ (i : ℕ) (bs : List ℕ) where
  -- The answer is "well formed" exactly when the bytes are UTF8-octets.
  pub well_formed : (check i bs ≡ WellFormed) ↔ Octets bs
  well_formed = (go (read bs), check_whole i)
    where
      go : Read bs → check i bs ≡ WellFormed → Octets bs
      go (inl o) e = o
      go (inr s) e = absurd (never (i + s.0) (sym e ∙ check_ill i s.1))

  -- No bytes get stuck at two positions, so the one is the least.
  pub stuck_least : (p : ℕ) → Stuck bs p → Least (Stuck bs) p
  stuck_least p s = record {
    has = s;
    before = λ k h t. let e = apart i p k (sym (check_ill i s) ∙ check_ill i t) in omega arith;
  }

  -- An ill position is the first from which no character starts, all before it being characters.
  pub first_ill : Gives (λ p. IllFormed (i + p)) (check i bs) (Stuck bs)
  first_ill = go (read bs)
    where
      go : Read bs → Gives (λ p. IllFormed (i + p)) (check i bs) (Stuck bs)
      go (inl o) =
          gives_none (λ p. IllFormed (i + p)) (apart i) (Stuck bs) (check i bs)
          (λ p e. never (i + p) (sym (check_whole i o) ∙ e))
          (λ p s. never (i + p) (sym (check_whole i o) ∙ check_ill i s))
      go (inr s) = rw (check_ill i s.1) (gives_at (λ p. IllFormed (i + p)) (apart i) (Stuck bs) s.0 (stuck_least s.0 s.1))

  -- The same bytes further on give the same answer further on.
  pub shift : (a : ℕ) → check (a + i) bs ≡ further a (check i bs)
  shift a = go (read bs)
    where
      go : Read bs → check (a + i) bs ≡ further a (check i bs)
      go (inl o) = rw (check_whole (a + i) o, check_whole i o)
      go (inr s) = rw (check_ill (a + i) s.1, check_ill i s.1) (ap IllFormed (omega arith))

  -- An ill position lies within the bytes.
  pub ill_within : (p : ℕ) → check i bs ≡ IllFormed p → (i ≤ p) × (p < i + length bs)
  ill_within p e = go (read bs)
    where
      go : Read bs → (i ≤ p) × (p < i + length bs)
      go (inl o) = absurd (never p (sym (check_whole i o) ∙ e))
      go (inr s) =
          let h : i + s.0 ≡ p = cc (check_ill i s.1) in
          let l = s.1.within in
          omega arith
