-- One character: the bytes that the table takes are one, and it is one whatever comes after it; what the check does there. So any bytes
-- are characters throughout, or get stuck somewhere. Assumes nothing.
use Prim.Native.Nat.{ℕ, zero, suc, ◌+◌, ◌<◌}
use mathlib.Core.Path.{◌≡◌, refl, sym, ap, ◌∙◌, subst}
use mathlib.Core.Logic.{◌⊎◌, inl, inr}
use mathlib.Core.List.{List, [], ◌∷◌, ◌++◌}
use native.Mathlib.Omega.{arith}
use native.Mathlib.Decide.{dec_lt}
use lib.ListN.{length, take, drop, length-drop, take-append-drop}
use lib.Seq.{length-take-le, take-add, drop-drop, drop-append_seam}
use Rattle.utf8.specs.Utf8.{rows, char_len, Char, Octets, Stuck, at_char, check_from, check}
use Rattle.utf8.specs.Utf8.Octets.{none, char}
use Rattle.utf8.specs.declared.Utf8.TheVariants.{WellFormed, IllFormed}
use Rattle.utf8.proofs.Table.{in_ranges_cut, row_len_fits, row_len_alike, row_len_matches, Alone, matches_taken, none_empty}

-- ---- the character that bytes begin with

-- the first byte tells the row
alone : Alone rows rows
alone = (refl, (refl, (refl, (refl, (refl, (refl, (refl, (refl, (refl, tt)))))))))

-- a character is what the table takes whole
pub char_whole : (c : List ℕ) → Char c → char_len c ≡ length c
char_whole c h = matches_taken rows rows c alone h.matches

pub char_some : (c : List ℕ) → Char c → 0 < length c
char_some [] h = absurd (none_empty rows rows alone h.matches)
char_some (b ∷ bs) h = omega arith

module _ (c zs : List ℕ) where
  -- a character is one whatever comes after it
  pub char_before : Char c → char_len (c ++ zs) ≡ length c
  char_before h =
      let e = char_whole c h in
      let s = char_some c h in
      row_len_alike c (c ++ zs) (length c) (in_ranges_cut c zs) 1 rows refl (omega arith) (omega arith) ∙ e

  -- the bytes that the table takes are a character
  pub char_taken : 0 < length c → char_len (c ++ zs) ≡ length c → Char c
  char_taken h e =
      let f = row_len_alike (c ++ zs) c (length c) (λ r l. sym (in_ranges_cut c zs r l)) 1 rows refl (omega arith) (omega arith) ∙ e in
      record { matches = row_len_matches rows c h f }

pub char_first : (bs : List ℕ) → 0 < char_len bs → Char (take (char_len bs) bs)
char_first bs h =
    let n = char_len bs in
    let l : length (take n bs) ≡ n = length-take-le n bs (row_len_fits rows bs) in
    char_taken (take n bs) (drop n bs) (omega arith) (ap char_len (take-append-drop n bs) ∙ sym l)

-- no character starts where the table takes nothing
pub no_char_here : (bs : List ℕ) → char_len bs ≡ 0 → (n : ℕ) → Char (take n bs) → ⊥
no_char_here bs e n h =
    let s = char_some (take n bs) h in
    let f : char_len bs ≡ length (take n bs) = ap char_len (sym (take-append-drop n bs)) ∙ char_before (take n bs) (drop n bs) h in
    omega arith

pub nothing_taken : (bs : List ℕ) → ((n : ℕ) → Char (take n bs) → ⊥) → char_len bs ≡ 0
nothing_taken bs f =
    elim (dec_lt 0 (char_len bs)) [
      | yes h ↦ absurd (f (char_len bs) (char_first bs h))
      | no h ↦ omega arith
    ]

-- ---- the check of one character

pub same : (i j : ℕ) (bs : List ℕ) → i ≡ j → check i bs ≡ check j bs
same i j bs e = ap (λ (k : ℕ). check k bs) e

check_skip : (k i : ℕ) (bs : List ℕ) → check_from k i bs ≡ check (i + k) (drop k bs)
unfolding check_from
check_skip zero i bs = same i (i + zero) bs (omega arith)
check_skip (suc k) i [] = refl
check_skip (suc k) i (b ∷ bs) = check_skip k (i + 1) bs ∙ same (i + 1 + k) (i + suc k) (drop k bs) (omega arith)

pub check_char : (i : ℕ) (bs : List ℕ) → 0 < char_len bs → check i bs ≡ check (i + char_len bs) (drop (char_len bs) bs)
unfolding check_from
check_char i [] h = absurd (omega (arith, row_len_fits rows []))
check_char i (b ∷ bs) h = go (char_len (b ∷ bs)) h
  where
    go : (n : ℕ) → 0 < n → at_char n i (λ k. check_from k (i + 1) bs) ≡ check (i + n) (drop n (b ∷ bs))
    go zero h = absurd (omega arith)
    go (suc k) h = check_skip (suc k) i (b ∷ bs)

pub check_stuck : (i : ℕ) (bs : List ℕ) → 0 < length bs → char_len bs ≡ 0 → check i bs ≡ IllFormed i
unfolding check_from
check_stuck i [] h e = absurd (omega arith)
check_stuck i (b ∷ bs) h e = ap (λ (n : ℕ). at_char n i (λ k. check_from k (i + 1) bs)) e

pub check_end : (i : ℕ) → check i [] ≡ WellFormed
unfolding check_from
check_end i = refl

pub check_before : (i : ℕ) (c zs : List ℕ) → Char c → check i (c ++ zs) ≡ check (i + length c) zs
check_before i c zs h =
    let e = char_before c zs h in
    let s = char_some c h in
    check_char i (c ++ zs) (omega arith) ∙ rw e (ap (check (i + length c)) (drop-append_seam c zs))

-- ---- any bytes

-- one character more in front
module _ (bs : List ℕ) (h : 0 < char_len bs) where
  more_whole : Octets (drop (char_len bs) bs) → Octets bs
  more_whole o = subst Octets (take-append-drop (char_len bs) bs) (char (char_first bs h) o)

  more_stuck : (p : ℕ) → Stuck (drop (char_len bs) bs) p → Stuck bs (char_len bs + p)
  more_stuck p s =
      let l = s.within in
      record {
        within = omega (arith, length-drop (char_len bs) bs);
        before = rw (take-add (char_len bs) p bs) (char (char_first bs h) s.before);
        no_char = λ n. subst (λ (l : List ℕ). Char (take n l) → ⊥) (drop-drop p (char_len bs) bs) (s.no_char n);
      }

-- characters throughout, or stuck somewhere
abbrev pub Read : List ℕ → Type 0
Read bs = Octets bs ⊎ ((p : ℕ) × Stuck bs p)

read_on_lem : (n : ℕ) (bs : List ℕ) → length bs < suc n → ((l : List ℕ) → length l < n → Read l) → Read bs
read_on_lem n [] h f = inl none
read_on_lem n (b ∷ bs) h f =
    elim (dec_lt 0 (char_len (b ∷ bs))) [
      | yes k ↦ elim (f (drop (char_len (b ∷ bs)) (b ∷ bs)) (omega (arith, length-drop (char_len (b ∷ bs)) (b ∷ bs)))) [
        | inl o ↦ inl (more_whole (b ∷ bs) k o)
        | inr s ↦ inr (char_len (b ∷ bs) + s.0, more_stuck (b ∷ bs) k s.0 s.1)
      ]
      | no k ↦ inr (0, record { within = omega arith; before = none; no_char = no_char_here (b ∷ bs) (omega arith) })
    ]

read_by : (n : ℕ) (bs : List ℕ) → length bs < n → Read bs
read_by zero bs h = absurd (omega arith)
read_by (suc n) bs h = read_on_lem n bs h (read_by n)

pub read : (bs : List ℕ) → Read bs
read bs = read_by (suc (length bs)) bs (omega arith)
