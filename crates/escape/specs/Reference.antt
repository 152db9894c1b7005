-- What a reference names: "`lt`, `gt`, `amp`, `apos`, `quot` (XML 1.0 section 4.6) and decimal or hexadecimal character references (production 66)". A reference
-- is told by its content, the bytes between `&` and `;`.
use Rattle.std.specs.Prelude.{ℕ, ◌+◌, ◌-◌, ◌*◌, List, [], ◌∷◌, drop, leb}
use Rattle.ground.specs.Choose.{pick}
use Rattle.ground.specs.Bytes.{quot, amp, apos, lt, gt}
use Rattle.ground.specs.Equal.{begins, same}
use Rattle.utf8.specs.Utf8.{in_range}
use Rattle.escape.specs.declared.reference.Reference.{Reference}
use Rattle.escape.specs.Scalar.{is_char}

-- ---- the five names

abbrev pub lt_name : List ℕ
lt_name = 0x6C ∷ 0x74 ∷ []

abbrev pub gt_name : List ℕ
gt_name = 0x67 ∷ 0x74 ∷ []

abbrev pub amp_name : List ℕ
amp_name = 0x61 ∷ 0x6D ∷ 0x70 ∷ []

abbrev pub apos_name : List ℕ
apos_name = 0x61 ∷ 0x70 ∷ 0x6F ∷ 0x73 ∷ []

abbrev pub quot_name : List ℕ
quot_name = 0x71 ∷ 0x75 ∷ 0x6F ∷ 0x74 ∷ []

-- ---- numbers

-- `#`, and the `x` behind it
abbrev pub hash : ℕ
hash = 0x23

abbrev pub lower_x : ℕ
lower_x = 0x78

-- [0-9], [A-F] and [a-f]: the value of a digit, and 16 for any other byte
unfoldable pub digit : ℕ → ℕ
digit b =
    pick (in_range (0x30, 0x39) b)
    (b - 0x30)
    (pick (in_range (0x41, 0x46) b) (b - 0x41 + 10) (pick (in_range (0x61, 0x66) b) (b - 0x61 + 10) 16))

-- "the value within production 2"
unfoldable pub char_of : ℕ → Reference
char_of v = pick (is_char v) (Reference.Character v) Reference.NoCharacter

-- digits of a base behind others that make v, the highest first; a byte that is none is not of the form
unfoldable pub number_from : ℕ → ℕ → List ℕ → Reference
number_from base v [] = char_of v
number_from base v (b ∷ bs) = pick (leb base (digit b)) Reference.NotOfForm (number_from base (v * base + digit b) bs)

-- one digit or more
unfoldable pub number_of : ℕ → List ℕ → Reference
number_of base [] = Reference.NotOfForm
number_of base (b ∷ bs) = number_from base 0 (b ∷ bs)

-- ---- a reference

unfoldable pub reference_of : List ℕ → Reference
reference_of content =
    pick (same content lt_name)
    (Reference.Character lt)
    (pick (same content gt_name)
    (Reference.Character gt)
    (pick (same content amp_name)
    (Reference.Character amp)
    (pick (same content apos_name)
    (Reference.Character apos)
    (pick (same content quot_name)
    (Reference.Character quot)
    -- CharRef ::= '&#' [0-9]+ ';' | '&#x' [0-9a-fA-F]+ ';'
    (pick (begins content (hash ∷ lower_x ∷ []))
    (number_of 16 (drop 2 content))
    (pick (begins content (hash ∷ [])) (number_of 10 (drop 1 content)) Reference.NotOfForm))))))
