-- The limits as the definitions have them; `src/limits` has them for the code. No other definition says the numbers.
use Rattle.std.specs.Prelude.{ℕ, ◌/◌, ltb}
use Rattle.ground.specs.Choose.{pick}

-- the longest document, in bytes (document 01, as document 02 raises it)
abbrev pub longest : ℕ
longest = 268435456

-- the most names open at once (so too)
abbrev pub most : ℕ
most = 65535

-- "the lent stack holds two numbers to a name, start and end"
abbrev pub slots : ℕ
slots = 2

-- "capacity is half its count rounded down, at most" the most names
unfoldable pub capacity : ℕ → ℕ
capacity n = pick (ltb (n / slots) most) (n / slots) most
