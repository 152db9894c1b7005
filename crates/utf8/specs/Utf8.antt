-- Well-formed UTF-8: RFC 3629, section 4.
use Rattle.std.specs.Prelude.{ℕ, zero, suc, ◌+◌, ◌≤◌, ◌<◌, List, [], ◌∷◌, ◌++◌, Bool, true, false, ◌⊎◌, length, take, drop, leb}
use Rattle.ground.specs.Choose.{pick}
use Rattle.ground.specs.Part.{part}
use Rattle.utf8.specs.declared.Utf8.{Utf8}
use Rattle.utf8.specs.declared.Utf8.TheVariants.{WellFormed, IllFormed}

-- %xLO-HI: a byte from lo up to hi, both included
abbrev pub Range : Type 0
Range = ℕ × ℕ

abbrev pub in_range : Range → ℕ → Bool
in_range r b = pick (leb r.0 b) (leb b r.1) false

-- UTF8-tail = %x80-BF
abbrev pub utf8_tail : Range
utf8_tail = (0x80, 0xBF)

-- UTF8-char = UTF8-1 / UTF8-2 / UTF8-3 / UTF8-4: the rows of the RFC, each with its ranges
abbrev pub rows : List (List Range)
rows =
    -- UTF8-1
    ((0x00, 0x7F) ∷ [])
    -- UTF8-2
    ∷ ((0xC2, 0xDF) ∷ utf8_tail ∷ [])
    -- UTF8-3
    ∷ ((0xE0, 0xE0) ∷ (0xA0, 0xBF) ∷ utf8_tail ∷ [])
    ∷ ((0xE1, 0xEC) ∷ utf8_tail ∷ utf8_tail ∷ [])
    ∷ ((0xED, 0xED) ∷ (0x80, 0x9F) ∷ utf8_tail ∷ [])
    ∷ ((0xEE, 0xEF) ∷ utf8_tail ∷ utf8_tail ∷ [])
    -- UTF8-4
    ∷ ((0xF0, 0xF0) ∷ (0x90, 0xBF) ∷ utf8_tail ∷ utf8_tail ∷ [])
    ∷ ((0xF1, 0xF3) ∷ utf8_tail ∷ utf8_tail ∷ utf8_tail ∷ [])
    ∷ ((0xF4, 0xF4) ∷ (0x80, 0x8F) ∷ utf8_tail ∷ utf8_tail ∷ [])
    ∷ []

-- the bytes begin with a byte of each range in turn
unfoldable pub in_ranges : List Range → List ℕ → Bool
in_ranges [] bs = true
in_ranges (r ∷ rs) [] = false
in_ranges (r ∷ rs) (b ∷ bs) = pick (in_range r b) (in_ranges rs bs) false

-- how many bytes the first row takes that the bytes begin with; 0 where they begin with none
unfoldable pub row_len : List (List Range) → List ℕ → ℕ
row_len [] bs = 0
row_len (r ∷ rs) bs = pick (in_ranges r bs) (length r) (row_len rs bs)

-- the length of the well-formed character that the bytes begin with, or 0
abbrev pub char_len : List ℕ → ℕ
char_len bs = row_len rows bs

-- what comes of a character of n bytes at i: with none the bytes are ill formed there, else n - 1 bytes more belong to it
abbrev pub at_char : ℕ → ℕ → (ℕ → Utf8) → Utf8
at_char zero i pass = IllFormed i
at_char (suc k) i pass = pass k

-- bytes that start at position i, of which the first k belong to a character that was taken already
unfoldable pub check_from : ℕ → ℕ → List ℕ → Utf8
check_from k i [] = WellFormed
check_from (suc k) i (b ∷ bs) = check_from k (i + 1) bs
check_from zero i (b ∷ bs) = at_char (char_len (b ∷ bs)) i (λ k. check_from k (i + 1) bs)

-- the check of bytes that start at position i
abbrev pub check : ℕ → List ℕ → Utf8
check i bs = check_from 0 i bs

-- by cases on the answer
module _ {A : Type 0} where
  abbrev pub by_utf8 : Utf8 → A → (ℕ → A) → A
  by_utf8 WellFormed a f = a
  by_utf8 (IllFormed p) a f = f p

-- ---- the same in the RFC's words

-- a byte of each range in turn, and no more
abbrev pub Matches : List Range → List ℕ → Type 0
Matches [] [] = Unit {0}
Matches [] (b ∷ bs) = ⊥
Matches (r ∷ rs) [] = ⊥
Matches (r ∷ rs) (b ∷ bs) = (r.0 ≤ b) × (b ≤ r.1) × Matches rs bs

-- the bytes match a row
abbrev pub MatchesOne : List (List Range) → List ℕ → Type 0
MatchesOne [] c = ⊥
MatchesOne (r ∷ rs) c = Matches r c ⊎ MatchesOne rs c

-- UTF8-char
pub record Char (c : List ℕ) : Type 0 where
  pub matches : MatchesOne rows c

-- UTF8-octets = *( UTF8-char )
pub data Octets : List ℕ → Type 0 where
  none : Octets []
  char : {c bs : List ℕ} → Char c → Octets bs → Octets (c ++ bs)

-- a position from which no well-formed character starts, all before it being well formed
pub record Stuck (bs : List ℕ) (p : ℕ) : Type 0 where
  pub within : p < length bs
  pub before : Octets (take p bs)
  pub no_char : (n : ℕ) → Char (take n (drop p bs)) → ⊥

-- such a place in a part of a document: it lies in the part, and the part in the document; all of the part before it is well formed, and no well-formed
-- character of the document starts there
pub record IllAt (doc : List ℕ) (from to place : ℕ) : Type 0 where
  pub after : from ≤ place
  pub before : place < to
  pub within : to ≤ length doc
  pub well_formed : Octets (part doc from place)
  pub no_char : (end : ℕ) → Char (part doc place end) → ⊥
