-- A scalar value and its bytes determine each other. Assumes nothing.
use Prim.Native.Nat.{ℕ, ◌+◌, ◌-◌, ◌*◌, ◌/◌, ◌%◌, ◌≤◌, ◌<◌}
use mathlib.Core.Path.{◌≡◌, ap, ◌∙◌}
use mathlib.Core.Bool.{true}
use mathlib.Core.Logic.{inl, inr}
use mathlib.Core.List.{List, [], ◌∷◌}
use native.Mathlib.Omega.{arith}
use native.Mathlib.Decide.{dec_lt}
use Rattle.utf8.specs.Utf8.{Range, utf8_tail, rows, Matches, MatchesOne, Char}
use Rattle.escape.specs.Scalar.{is_scalar, tail, octets}
use Rattle.escape.specs.Words.{value_of}
use Rattle.escape.proofs.Encodes.{scalar_most, scalar_gap, scalar_low, scalar_high, octets_1, octets_2, octets_3, octets_4}

-- ---- from the value to the bytes and back

-- a value in one of the four rows
abbrev InRow : (ℕ → Type 0) → Type 0
InRow P = (v : ℕ) → is_scalar v ≡ true → P v

by_row : (P : ℕ → Type 0)
    → ((v : ℕ) → v < 0x80 → P v)
    → ((v : ℕ) → 0x80 ≤ v → v < 0x800 → P v)
    → ((v : ℕ) → 0x800 ≤ v → v < 0x10000 → is_scalar v ≡ true → P v)
    → ((v : ℕ) → 0x10000 ≤ v → v < 0x110000 → P v) → InRow P
by_row P one two three four v e =
    elim (dec_lt v 0x80) [
      | yes h ↦ one v h
      | no h ↦ elim (dec_lt v 0x800) [
        | yes k ↦ two v (omega arith) k
        | no k ↦ elim (dec_lt v 0x10000) [
          | yes l ↦ three v (omega arith) l e
          | no l ↦ four v (omega arith) (omega (arith, scalar_most v e))
        ]
      ]
    ]

-- six bits each, without their marks
two_sum : (v : ℕ) → (0xC0 + v / 0x40 - 0xC0) * 0x40 + (tail 1 v - 0x80) ≡ v
two_sum v = omega arith

three_plain : (a b c : ℕ) → (0xE0 + a - 0xE0) * 0x1000 + (0x80 + b - 0x80) * 0x40 + (0x80 + c - 0x80) ≡ a * 0x1000 + b * 0x40 + c
three_plain a b c = omega arith

three_sum : (v : ℕ) → (0xE0 + v / 0x1000 - 0xE0) * 0x1000 + (tail 0x40 v - 0x80) * 0x40 + (tail 1 v - 0x80) ≡ v
three_sum v = three_plain (v / 0x1000) (v / 0x40 % 0x40) (v / 1 % 0x40) ∙ omega arith

four_plain : (a b c d : ℕ) → (0xF0 + a - 0xF0) * 0x40000 + (0x80 + b - 0x80) * 0x1000 + (0x80 + c - 0x80) * 0x40 + (0x80 + d - 0x80) ≡ a * 0x40000 + b * 0x1000 + c * 0x40 + d
four_plain a b c d = omega arith

four_sum : (v : ℕ) → (0xF0 + v / 0x40000 - 0xF0) * 0x40000 + (tail 0x1000 v - 0x80) * 0x1000 + (tail 0x40 v - 0x80) * 0x40 + (tail 1 v - 0x80) ≡ v
four_sum v = four_plain (v / 0x40000) (v / 0x1000 % 0x40) (v / 0x40 % 0x40) (v / 1 % 0x40) ∙ omega arith

pub bytes_value : (v : ℕ) → is_scalar v ≡ true → value_of (octets v) ≡ v
bytes_value =
    by_row (λ (v : ℕ). value_of (octets v) ≡ v)
    (λ v h. ap value_of (octets_1 v h))
    (λ v h k. ap value_of (octets_2 v h k) ∙ two_sum v)
    (λ v h k _. ap value_of (octets_3 v h k) ∙ three_sum v)
    (λ v h k. ap value_of (octets_4 v h) ∙ four_sum v)

-- the bytes match a row of the RFC's grammar
row_2 : (v : ℕ) → 0x80 ≤ v → v < 0x800 → MatchesOne rows ((0xC0 + v / 0x40) ∷ tail 1 v ∷ [])
row_2 v h k = inr (inl (omega arith, omega arith, (omega arith, omega arith, tt)))

row_3 : (v : ℕ) → 0x800 ≤ v → v < 0x10000 → is_scalar v ≡ true → MatchesOne rows ((0xE0 + v / 0x1000) ∷ tail 0x40 v ∷ tail 1 v ∷ [])
row_3 v h k e =
    elim (dec_lt v 0x1000) [
      | yes l ↦ inr (inr (inl (omega arith, omega arith, (omega arith, omega arith, (omega arith, omega arith, tt)))))
      | no l ↦ elim (dec_lt v 0xD000) [
        | yes m ↦ inr (inr (inr (inl (omega arith, omega arith, (omega arith, omega arith, (omega arith, omega arith, tt))))))
        | no m ↦ elim (dec_lt v 0xD800) [
          | yes n ↦ inr (inr (inr (inr (inl (omega arith, omega arith, (omega arith, omega arith, (omega arith, omega arith, tt)))))))
          | no n ↦
              let g = scalar_gap v e (omega arith) in
              inr (inr (inr (inr (inr (inl (omega arith, omega arith, (omega arith, omega arith, (omega arith, omega arith, tt))))))))
        ]
      ]
    ]

row_4 : (v : ℕ) → 0x10000 ≤ v → v < 0x110000 → MatchesOne rows ((0xF0 + v / 0x40000) ∷ tail 0x1000 v ∷ tail 0x40 v ∷ tail 1 v ∷ [])
row_4 v h k =
    elim (dec_lt v 0x40000) [
      | yes l ↦ inr (inr (inr (inr (inr (inr (inl (omega arith, omega arith, (omega arith, omega arith, (omega arith, omega arith, (omega arith, omega arith, tt))))))))))
      | no l ↦ elim (dec_lt v 0x100000) [
        | yes m ↦ inr (inr (inr (inr (inr (inr (inr (inl (omega arith, omega arith, (omega arith, omega arith, (omega arith, omega arith, (omega arith, omega arith, tt)))))))))))
        | no m ↦ inr (inr (inr (inr (inr (inr (inr (inr (inl (omega arith, omega arith, (omega arith, omega arith, (omega arith, omega arith, (omega arith, omega arith, tt))))))))))))
      ]
    ]

pub bytes_char : (v : ℕ) → is_scalar v ≡ true → Char (octets v)
bytes_char =
    by_row (λ (v : ℕ). Char (octets v))
    (λ v h. rw (octets_1 v h) (record { matches = inl (omega arith, omega arith, tt) }))
    (λ v h k. rw (octets_2 v h k) (record { matches = row_2 v h k }))
    (λ v h k e. rw (octets_3 v h k) (record { matches = row_3 v h k e }))
    (λ v h k. rw (octets_4 v h) (record { matches = row_4 v h k }))

-- ---- from the bytes to the value and back

abbrev pub Back : List ℕ → Type 0
Back c = (is_scalar (value_of c) ≡ true) × (octets (value_of c) ≡ c)

-- 80 to BF
abbrev Tail : ℕ → Type 0
Tail b = (0x80 ≤ b) × (b ≤ 0xBF)

back_1 : (a : ℕ) → a ≤ 0x7F → Back (a ∷ [])
back_1 a h = (scalar_low a (omega arith), octets_1 a (omega arith))

back_2 : (a b : ℕ) → 0xC2 ≤ a → a ≤ 0xDF → Tail b → Back (a ∷ b ∷ [])
back_2 a b h k (m, n) =
    let v : ℕ = (a - 0xC0) * 0x40 + (b - 0x80) in
    let e : 0xC0 + v / 0x40 ≡ a = omega arith in
    let f : tail 1 v ≡ b = omega arith in
    (scalar_low v (omega arith), octets_2 v (omega arith) (omega arith) ∙ ap (λ (x : ℕ). x ∷ tail 1 v ∷ []) e ∙ ap (λ (x : ℕ). a ∷ x ∷ []) f)

back_3 : (a b c : ℕ) → 0xE0 ≤ a → a ≤ 0xEF → Tail b → Tail c → 0x800 ≤ value_of (a ∷ b ∷ c ∷ []) → octets (value_of (a ∷ b ∷ c ∷ [])) ≡ a ∷ b ∷ c ∷ []
back_3 a b c h k (m, n) (o, p) low =
    let v : ℕ = (a - 0xE0) * 0x1000 + (b - 0x80) * 0x40 + (c - 0x80) in
    let e : 0xE0 + v / 0x1000 ≡ a = omega arith in
    let f : tail 0x40 v ≡ b = omega arith in
    let g : tail 1 v ≡ c = omega arith in
    octets_3 v low (omega arith)
    ∙ ap (λ (x : ℕ). x ∷ tail 0x40 v ∷ tail 1 v ∷ []) e
    ∙ ap (λ (x : ℕ). a ∷ x ∷ tail 1 v ∷ []) f
    ∙ ap (λ (x : ℕ). a ∷ b ∷ x ∷ []) g

back_4 : (a b c d : ℕ) → 0xF0 ≤ a → a ≤ 0xF4 → Tail b → Tail c → Tail d → 0x10000 ≤ value_of (a ∷ b ∷ c ∷ d ∷ []) → octets (value_of (a ∷ b ∷ c ∷ d ∷ [])) ≡ a ∷ b ∷ c ∷ d ∷ []
back_4 a b c d h k (m, n) (o, p) (q, r) low =
    let v : ℕ = (a - 0xF0) * 0x40000 + (b - 0x80) * 0x1000 + (c - 0x80) * 0x40 + (d - 0x80) in
    let e : 0xF0 + v / 0x40000 ≡ a = omega arith in
    let f : tail 0x1000 v ≡ b = omega arith in
    let g : tail 0x40 v ≡ c = omega arith in
    let i : tail 1 v ≡ d = omega arith in
    octets_4 v low
    ∙ ap (λ (x : ℕ). x ∷ tail 0x1000 v ∷ tail 0x40 v ∷ tail 1 v ∷ []) e
    ∙ ap (λ (x : ℕ). a ∷ x ∷ tail 0x40 v ∷ tail 1 v ∷ []) f
    ∙ ap (λ (x : ℕ). a ∷ b ∷ x ∷ tail 1 v ∷ []) g
    ∙ ap (λ (x : ℕ). a ∷ b ∷ c ∷ x ∷ []) i

-- what matches a row, byte by byte
each : (P : List ℕ → Type 0) (r : Range) (rs : List Range) → ((a : ℕ) → r.0 ≤ a → a ≤ r.1 → (c : List ℕ) → Matches rs c → P (a ∷ c)) → (c : List ℕ) → Matches (r ∷ rs) c → P c
each P r rs f [] m = absurd m
each P r rs f (a ∷ c) m = f a m.0 m.1 c m.2

last : (P : List ℕ → Type 0) → P [] → (c : List ℕ) → Matches [] c → P c
last P e [] m = e
last P e (b ∷ bs) m = absurd m

-- a row of three ranges, and one of four, by what has to be shown of its bytes
row_of_three : (r s : Range)
    → ((a b c : ℕ) → r.0 ≤ a → a ≤ r.1 → s.0 ≤ b → b ≤ s.1 → Tail c → Back (a ∷ b ∷ c ∷ []))
    → (c : List ℕ) → Matches (r ∷ s ∷ utf8_tail ∷ []) c → Back c
row_of_three r s f =
    each Back r (s ∷ utf8_tail ∷ []) (λ a h k. each (λ c. Back (a ∷ c)) s (utf8_tail ∷ []) (λ b m n. each (λ c. Back (a ∷ b ∷ c)) utf8_tail []
    (λ c o p. last (λ d. Back (a ∷ b ∷ c ∷ d)) (f a b c h k m n (o, p)))))

row_of_four : (r s : Range)
    → ((a b c d : ℕ) → r.0 ≤ a → a ≤ r.1 → s.0 ≤ b → b ≤ s.1 → Tail c → Tail d → Back (a ∷ b ∷ c ∷ d ∷ []))
    → (c : List ℕ) → Matches (r ∷ s ∷ utf8_tail ∷ utf8_tail ∷ []) c → Back c
row_of_four r s f =
    each Back r (s ∷ utf8_tail ∷ utf8_tail ∷ []) (λ a h k. each (λ c. Back (a ∷ c)) s (utf8_tail ∷ utf8_tail ∷ []) (λ b m n. each (λ c. Back (a ∷ b ∷ c)) utf8_tail (utf8_tail ∷ [])
    (λ c o p. each (λ d. Back (a ∷ b ∷ c ∷ d)) utf8_tail [] (λ d q t. last (λ e. Back (a ∷ b ∷ c ∷ d ∷ e)) (f a b c d h k m n (o, p) (q, t))))))

-- below the surrogates, behind them, and in the rows of four
low : (a b c : ℕ) → 0xE0 ≤ a → a ≤ 0xED → Tail b → Tail c → 0x800 ≤ value_of (a ∷ b ∷ c ∷ []) → value_of (a ∷ b ∷ c ∷ []) < 0xD800 → Back (a ∷ b ∷ c ∷ [])
low a b c h k m n v w = (scalar_low (value_of (a ∷ b ∷ c ∷ [])) w, back_3 a b c h (omega arith) m n v)

high : (a b c : ℕ) → 0xEE ≤ a → a ≤ 0xEF → Tail b → Tail c → Back (a ∷ b ∷ c ∷ [])
high a b c h k (m, n) (o, p) = (scalar_high (value_of (a ∷ b ∷ c ∷ [])) (omega arith) (omega arith), back_3 a b c (omega arith) k (m, n) (o, p) (omega arith))

four : (a b c d : ℕ) → 0xF0 ≤ a → a ≤ 0xF4 → Tail b → Tail c → Tail d → 0x10000 ≤ value_of (a ∷ b ∷ c ∷ d ∷ []) → value_of (a ∷ b ∷ c ∷ d ∷ []) < 0x110000 → Back (a ∷ b ∷ c ∷ d ∷ [])
four a b c d h k m n o v w = (scalar_high (value_of (a ∷ b ∷ c ∷ d ∷ [])) (omega arith) w, back_4 a b c d h k m n o v)

by_rows : (c : List ℕ) → MatchesOne rows c → Back c
by_rows c (inl m) = each Back (0x00, 0x7F) [] (λ a h k. last (λ d. Back (a ∷ d)) (back_1 a k)) c m
by_rows c (inr (inl m)) =
    each Back (0xC2, 0xDF) (utf8_tail ∷ []) (λ a h k. each (λ d. Back (a ∷ d)) utf8_tail [] (λ b n o. last (λ d. Back (a ∷ b ∷ d)) (back_2 a b h k (n, o)))) c m
by_rows c (inr (inr (inl m))) =
    row_of_three (0xE0, 0xE0) (0xA0, 0xBF) (λ a b c h k n o (p, q). low a b c h (omega arith) (omega arith, o) (p, q) (omega arith) (omega arith)) c m
by_rows c (inr (inr (inr (inl m)))) =
    row_of_three (0xE1, 0xEC) utf8_tail (λ a b c h k n o (p, q). low a b c (omega arith) (omega arith) (n, o) (p, q) (omega arith) (omega arith)) c m
by_rows c (inr (inr (inr (inr (inl m))))) =
    row_of_three (0xED, 0xED) (0x80, 0x9F) (λ a b c h k n o (p, q). low a b c (omega arith) (omega arith) (n, omega arith) (p, q) (omega arith) (omega arith)) c m
by_rows c (inr (inr (inr (inr (inr (inl m)))))) = row_of_three (0xEE, 0xEF) utf8_tail (λ a b c h k n o p. high a b c h k (n, o) p) c m
by_rows c (inr (inr (inr (inr (inr (inr (inl m))))))) =
    row_of_four (0xF0, 0xF0) (0x90, 0xBF) (λ a b c d h k n o (p, q) (r, t). four a b c d h (omega arith) (omega arith, o) (p, q) (r, t) (omega arith) (omega arith)) c m
by_rows c (inr (inr (inr (inr (inr (inr (inr (inl m)))))))) =
    row_of_four (0xF1, 0xF3) utf8_tail (λ a b c d h k n o (p, q) (r, t). four a b c d (omega arith) (omega arith) (n, o) (p, q) (r, t) (omega arith) (omega arith)) c m
by_rows c (inr (inr (inr (inr (inr (inr (inr (inr (inl m))))))))) =
    row_of_four (0xF4, 0xF4) (0x80, 0x8F) (λ a b c d h k n o (p, q) (r, t). four a b c d (omega arith) k (n, omega arith) (p, q) (r, t) (omega arith) (omega arith)) c m
by_rows c (inr (inr (inr (inr (inr (inr (inr (inr (inr m))))))))) = absurd m

pub value_bytes : (c : List ℕ) → Char c → Back c
value_bytes c h = by_rows c h.matches
