-- White space (XML 1.0, production 3), and the runs of bytes that it bounds.
use Rattle.std.specs.Prelude.{ℕ, zero, suc, ◌+◌, ◌<◌, ◌≤◌, ◌≡◌, List, [], ◌∷◌, Bool, true, false, not, ◌⊎◌, length, get_or, eqb}
use Rattle.ground.specs.Choose.{pick}
use Rattle.ground.specs.Bytes.{tab, lf, cr, space}

-- S: space, tab, LF or CR
abbrev pub is_white : ℕ → Bool
is_white b = pick (eqb b space) true (pick (eqb b tab) true (pick (eqb b lf) true (pick (eqb b cr) true false)))

abbrev pub not_white : ℕ → Bool
not_white b = not (is_white b)

-- how many bytes stand before the first that passes the test
unfoldable pub until : (ℕ → Bool) → List ℕ → ℕ
until test [] = 0
until test (b ∷ bs) = pick (test b) 0 (until test bs + 1)

-- name length: the bytes before the first white space (document 01, "Port order", 1)
abbrev pub name_len : List ℕ → ℕ
name_len bs = until is_white bs

-- how many bytes of white space stand in front
abbrev pub leading : List ℕ → ℕ
leading bs = until not_white bs

-- how many of the first n bytes are left when white space is cut from their end
unfoldable pub kept_of : List ℕ → ℕ → ℕ
kept_of bs zero = 0
kept_of bs (suc n) = pick (is_white (get_or bs n 0)) (kept_of bs n) (suc n)

-- how many bytes are left when trailing white space is cut
abbrev pub kept : List ℕ → ℕ
kept bs = kept_of bs (length bs)

-- ---- the same in words

-- the bytes end at n, or a byte stands there that passes the test
abbrev pub EndsAt : (ℕ → Bool) → List ℕ → ℕ → Type 0
EndsAt test bs n = (n ≡ length bs) ⊎ ((n < length bs) × (test (get_or bs n 0) ≡ true))

-- from n up to m only white space stands
abbrev pub WhiteWithin : List ℕ → ℕ → ℕ → Type 0
WhiteWithin bs n m = (k : ℕ) → n ≤ k → k < m → is_white (get_or bs k 0) ≡ true

-- from n on only white space stands
abbrev pub WhiteFrom : List ℕ → ℕ → Type 0
WhiteFrom bs n = (k : ℕ) → n ≤ k → k < length bs → is_white (get_or bs k 0) ≡ true
