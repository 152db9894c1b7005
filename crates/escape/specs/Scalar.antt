-- A character by its number: XML's characters (XML 1.0, production 2), and the UTF-8 bytes of a scalar value (RFC 3629, section 3).
use Rattle.std.specs.Prelude.{ℕ, ◌+◌, ◌/◌, ◌%◌, ◌≡◌, Bool, true, false, List, [], ◌∷◌, ◌++◌, length, drop, leb}
use Rattle.ground.specs.Choose.{pick}
use Rattle.utf8.specs.Utf8.{Range, in_range}

-- a number of one of the ranges
abbrev pub among : List Range → ℕ → Bool
among [] v = false
among (r ∷ rs) v = pick (in_range r v) true (among rs v)

-- Char ::= #x9 | #xA | #xD | [#x20-#xD7FF] | [#xE000-#xFFFD] | [#x10000-#x10FFFF] (production 2)
abbrev pub is_char : ℕ → Bool
is_char v = among ((0x9, 0x9) ∷ (0xA, 0xA) ∷ (0xD, 0xD) ∷ (0x20, 0xD7FF) ∷ (0xE000, 0xFFFD) ∷ (0x10000, 0x10FFFF) ∷ []) v

-- U+0000 to U+10FFFF but for the surrogates, U+D800 to U+DFFF
abbrev pub is_scalar : ℕ → Bool
is_scalar v = among ((0x0, 0xD7FF) ∷ (0xE000, 0x10FFFF) ∷ []) v

-- ---- the bytes of a scalar value

-- 10xxxxxx, with the six bits of the value from that of weight `by` on
abbrev pub tail : ℕ → ℕ → ℕ
tail by v = 0x80 + v / by % 0x40

-- the rows of the RFC's table
unfoldable pub octets : ℕ → List ℕ
octets v =
    -- up to 7F: 0xxxxxxx
    pick (leb v 0x7F)
    (v ∷ [])
    -- up to 7FF: 110xxxxx 10xxxxxx
    (pick (leb v 0x7FF)
    ((0xC0 + v / 0x40) ∷ tail 1 v ∷ [])
    -- up to FFFF: 1110xxxx 10xxxxxx 10xxxxxx
    (pick (leb v 0xFFFF)
    ((0xE0 + v / 0x1000) ∷ tail 0x40 v ∷ tail 1 v ∷ [])
    -- up to 10FFFF: 11110xxx 10xxxxxx 10xxxxxx 10xxxxxx
    ((0xF0 + v / 0x40000) ∷ tail 0x1000 v ∷ tail 0x40 v ∷ tail 1 v ∷ [])))

-- THE PROMISE of the writer: how many bytes were written, and every byte of what was lent; none where the number is no scalar value or they do not fit
pub record Encoded (v : ℕ) (out : List ℕ) (n : ℕ) (out' : List ℕ) : Type 0 where
  pub count : n ≡ pick (is_scalar v) (pick (leb (length (octets v)) (length out)) (length (octets v)) 0) 0
  pub bytes : out' ≡ pick (is_scalar v) (pick (leb (length (octets v)) (length out)) (octets v ++ drop (length (octets v)) out) out) out
