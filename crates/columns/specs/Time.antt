-- The text of a time (document 02).
use Rattle.std.specs.Prelude.{ℕ, ◌+◌, ◌-◌, ◌*◌, ◌/◌, ◌%◌, List, [], ◌∷◌, Bool, false, length, get_or, take, drop, eqb, leb}
use Rattle.ground.specs.Choose.{pick, all_of}
use Rattle.white.specs.White.{leading, kept}
use Rattle.columns.specs.declared.text.Text.{Text}

-- `0`, `9` and `:`
abbrev pub zero_digit : ℕ
zero_digit = 0x30

abbrev pub nine_digit : ℕ
nine_digit = 0x39

abbrev pub colon : ℕ
colon = 0x3A

abbrev pub is_digit : ℕ → Bool
is_digit b = pick (leb zero_digit b) (leb b nine_digit) false

-- what a digit stands for, and two of them
abbrev pub digit : ℕ → ℕ
digit b = b - zero_digit

unfoldable pub two_digits : ℕ → ℕ → ℕ
two_digits tens ones = 10 * digit tens + digit ones

-- the byte at a place
abbrev pub byte : List ℕ → ℕ → ℕ
byte s i = get_or s i 0

-- "two digits, colon, two digits"
unfoldable pub is_clock : List ℕ → Bool
is_clock s = pick (eqb (length s) 5) (all_of (is_digit (byte s 0) ∷ is_digit (byte s 1) ∷ eqb (byte s 2) colon ∷ is_digit (byte s 3) ∷ is_digit (byte s 4) ∷ [])) false

abbrev pub hours : List ℕ → ℕ
hours s = two_digits (byte s 0) (byte s 1)

abbrev pub minutes : List ℕ → ℕ
minutes s = two_digits (byte s 3) (byte s 4)

-- "two digits, colon, two digits, hours 00 to 47, minutes 00 to 59"
unfoldable pub is_time : List ℕ → Bool
is_time s = all_of (is_clock s ∷ leb (hours s) 47 ∷ leb (minutes s) 59 ∷ [])

-- "Value: 60 times hours plus minutes"
abbrev pub value : List ℕ → ℕ
value s = 60 * hours s + minutes s

-- "after both ends are cleared of white space"
abbrev pub cleared_end : List ℕ → List ℕ
cleared_end s = take (kept s) s

unfoldable pub cleared : List ℕ → List ℕ
cleared s = cleared_end (drop (leading s) s)

-- what text tells: nothing where that leaves it empty, a time's value, or that it is no time
unfoldable pub read_time : List ℕ → Text
read_time s = pick (eqb (length (cleared s)) 0) Text.Empty (pick (is_time (cleared s)) (Text.Time (value (cleared s))) Text.Other)

-- ---- a value printed

-- a byte of a value's time by its index, and all five
unfoldable pub spelt_at : ℕ → ℕ → ℕ
spelt_at v index =
    pick (eqb index 0)
    (zero_digit + v / 60 / 10 % 10)
    (pick (eqb index 1) (zero_digit + v / 60 % 10) (pick (eqb index 2) colon (pick (eqb index 3) (zero_digit + v % 60 / 10) (zero_digit + v % 60 % 10))))

abbrev pub spelt : ℕ → List ℕ
spelt v = spelt_at v 0 ∷ spelt_at v 1 ∷ spelt_at v 2 ∷ spelt_at v 3 ∷ spelt_at v 4 ∷ []
