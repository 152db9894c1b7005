-- What a byte does to what is known of the character at hand, by the rows of RFC 3629, section 4. No promise of `advance` names what stands here.
use Rattle.std.specs.Prelude.{ℕ, zero, suc, ◌-◌, List, [], ◌∷◌, ◌&&◌, replicate, eqb, leb}
use Rattle.ground.specs.Choose.{pick}
use Rattle.utf8.specs.Utf8.{Range, in_range, in_ranges, utf8_tail, check_from}
use Rattle.utf8.specs.declared.Utf8.{Utf8}
use Rattle.utf8.specs.declared.Utf8.TheVariants.{IllFormed}
use Rattle.plain.specs.declared.known.Letters.{Letters}

abbrev pub owing : ℕ → ℕ → ℕ → ℕ → Letters
owing at owed low top = record { owed = owed; low = low; top = top; at = at }

-- it owes a byte that no byte is
abbrev pub ill : ℕ → Letters
ill at = owing at 1 1 0

-- the first byte of a character
unfoldable pub lead : ℕ → ℕ → Letters
lead at b =
    pick (in_range (0x00, 0x7F) b) (owing at 0 0x80 0xBF)
    (pick (in_range (0xC2, 0xDF) b) (owing at 1 0x80 0xBF)
    (pick (in_range (0xE0, 0xE0) b) (owing at 2 0xA0 0xBF)
    (pick (in_range (0xE1, 0xEC) b) (owing at 2 0x80 0xBF)
    (pick (in_range (0xED, 0xED) b) (owing at 2 0x80 0x9F)
    (pick (in_range (0xEE, 0xEF) b) (owing at 2 0x80 0xBF)
    (pick (in_range (0xF0, 0xF0) b) (owing at 3 0x90 0xBF)
    (pick (in_range (0xF1, 0xF3) b) (owing at 3 0x80 0xBF)
    (pick (in_range (0xF4, 0xF4) b) (owing at 3 0x80 0x8F) (ill at)))))))))

-- a byte more
unfoldable pub letter : Letters → ℕ → ℕ → Letters
letter l at b =
    pick (eqb l.owed 0) (lead at b)
    (pick (leb l.low b && leb b l.top) (owing l.at (l.owed - 1) 0x80 0xBF) (ill l.at))

-- ---- what that means

-- the ranges of the bytes that are owed
abbrev pub owes : ℕ → ℕ → ℕ → List Range
owes zero low top = []
owes (suc k) low top = (low, top) ∷ replicate k utf8_tail

-- what the check comes to, where the bytes yet to come start at i
abbrev pub onward : Letters → ℕ → List ℕ → Utf8
onward l i bs = pick (in_ranges (owes l.owed l.low l.top) bs) (check_from l.owed i bs) (IllFormed l.at)
