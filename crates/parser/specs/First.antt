-- The scans of text and references: the first byte of a kind (document 01, "Text" and "Reference").
use Rattle.std.specs.Prelude.{ℕ, ◌+◌, ◌≤◌, ◌<◌, ◌≡◌, List, [], ◌∷◌, Bool, true, false, ◌⊎◌, length, get_or, eqb}
use Rattle.ground.specs.Choose.{pick}
use Rattle.ground.specs.Bytes.{amp, lt, semicolon}
use Rattle.parser.specs.Machine.{Next, go, halt, Scan, found, going, scan_at}
use Rattle.parser.specs.declared.first.Found.{Found}
use Rattle.parser.specs.declared.first.Found.TheVariants.{At, End}

-- a byte that passes the test stops the scan
abbrev pub first_step : (ℕ → Bool) → Unit {0} → ℕ → Next (Unit {0})
first_step test u b = pick (test b) halt (go tt)

-- the scan as the answer that it gives
abbrev pub first_answer : Scan (Unit {0}) → Found
first_answer (found p) = At p
first_answer (going u) = End

-- from `from` on
abbrev pub first_found : (ℕ → Bool) → List ℕ → ℕ → Found
first_found test s from = first_answer (scan_at (first_step test) tt s from)

-- by cases on the answer
module _ {A : Type 0} where
  abbrev pub by_first : Found → (ℕ → A) → A → A
  by_first (At p) f a = f p
  by_first End f a = a

-- the byte is one of those listed
abbrev pub one_of : List ℕ → ℕ → Bool
one_of [] b = false
one_of (k ∷ ks) b = pick (eqb b k) true (one_of ks b)

-- `<` and `&`
abbrev pub text_ends : List ℕ
text_ends = lt ∷ amp ∷ []

abbrev pub text_found : List ℕ → ℕ → Found
text_found s from = first_found (one_of text_ends) s from

-- `;`, `&` and `<`
abbrev pub reference_ends : List ℕ
reference_ends = semicolon ∷ amp ∷ lt ∷ []

-- after the `&` at `from`
abbrev pub reference_found : List ℕ → ℕ → Found
reference_found s from = first_found (one_of reference_ends) s (from + 1)

-- ---- the same in words

-- the byte is one of those listed
abbrev pub Among : List ℕ → ℕ → Type 0
Among [] b = ⊥
Among (k ∷ ks) b = (b ≡ k) ⊎ Among ks b

-- at p, which is `from` or later, stands a byte of those listed
pub record ByteAmong (ks : List ℕ) (s : List ℕ) (from p : ℕ) : Type 0 where
  pub after : from ≤ p
  pub within : p < length s
  pub among : Among ks (get_or s p 0)

-- "the next `<` or `&`"
abbrev pub TextEnd : List ℕ → ℕ → ℕ → Type 0
TextEnd s from = ByteAmong text_ends s from

-- "the first of `;`, `&`, `<` after it", the `&` at `from`
abbrev pub ReferenceEnd : List ℕ → ℕ → ℕ → Type 0
ReferenceEnd s from = ByteAmong reference_ends s (from + 1)
