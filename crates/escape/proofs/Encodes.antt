-- The bytes of a scalar value, a law for each way through the code that writes them. Assumes nothing.
use Prim.Native.Nat.{ℕ, ◌+◌, ◌/◌, ◌≤◌, ◌<◌}
use mathlib.Core.Path.{◌≡◌, refl, sym, ap, ◌∙◌}
use mathlib.Core.Bool.{Bool, true, false}
use mathlib.Core.List.{List, [], ◌∷◌, ◌++◌}
use native.Mathlib.Omega.{arith}
use native.Mathlib.Nat.{zero-add}
use native.Mathlib.Decide.{dec_lt}
use lib.ListN.{length, drop, set}
use lib.Seq.{sets, sets-eq}
use mir.Val.{Fits}
use mir.Syntax.{w8}
use lib.Dec.{leb}
use borrow.Author.Rules.{rules}
use borrow.Author.Tests.{le-leb, lt-leb}
use Rattle.ground.specs.Choose.{pick}
use Rattle.ground.proofs.Choices.{by_true, by_false, pick_le, pick_nle, pick_cases, clash}
use Rattle.ground.proofs.Slots.{slot_still, slots}
use Rattle.escape.specs.Scalar.{is_scalar, tail, octets, Encoded}
use Rattle.escape.proofs.Ranges.{range_in, range_under, range_over, range_low}

-- ---- scalar values

-- the last scalar value
pub scalar_most : (v : ℕ) → is_scalar v ≡ true → v ≤ 0x10FFFF
scalar_most v e =
    elim (dec_lt 0x10FFFF v) [
      | no h ↦ omega arith
      | yes h ↦ clash _ e (sym (range_over _ _ _ v 0 0xD7FF 0xD800 refl (omega arith) (range_over _ _ _ v 0xE000 0x10FFFF 0x110000 refl (omega arith) refl)))
    ]

-- no surrogate is one
pub scalar_gap : (v : ℕ) → is_scalar v ≡ true → 0xD800 ≤ v → 0xE000 ≤ v
scalar_gap v e h =
    elim (dec_lt v 0xE000) [
      | no k ↦ omega arith
      | yes k ↦ clash (is_scalar v) e (sym (range_over _ _ _ v 0 0xD7FF 0xD800 refl h (range_under _ _ _ v 0xE000 0x10FFFF 0xE000 refl k refl)))
    ]

pub scalar_low : (v : ℕ) → v < 0xD800 → is_scalar v ≡ true
scalar_low v h = sym (range_low _ _ _ v 0xD7FF 0xD800 refl h refl)

pub scalar_high : (v : ℕ) → 0xE000 ≤ v → v < 0x110000 → is_scalar v ≡ true
scalar_high v h k = sym (range_over _ _ _ v 0 0xD7FF 0xD800 refl (omega arith) (range_in _ _ _ v 0xE000 0x10FFFF 0x110000 refl h k refl))

-- ---- the four rows

abbrev Some : List ℕ → Type 0
Some bs = (1 ≤ length bs) × (length bs ≤ 4)

module _ (v : ℕ) where
  pub octets_1 : v < 0x80 → octets v ≡ v ∷ []
  unfolding octets
  octets_1 h = rw (le-leb v 0x7F (omega arith))

  pub octets_2 : 0x80 ≤ v → v < 0x800 → octets v ≡ (0xC0 + v / 0x40) ∷ tail 1 v ∷ []
  unfolding octets
  octets_2 h k = rw (lt-leb v 0x7F (omega arith), le-leb v 0x7FF (omega arith))

  pub octets_3 : 0x800 ≤ v → v < 0x10000 → octets v ≡ (0xE0 + v / 0x1000) ∷ tail 0x40 v ∷ tail 1 v ∷ []
  unfolding octets
  octets_3 h k = rw (lt-leb v 0x7F (omega arith), lt-leb v 0x7FF (omega arith), le-leb v 0xFFFF (omega arith))

  pub octets_4 : 0x10000 ≤ v → octets v ≡ (0xF0 + v / 0x40000) ∷ tail 0x1000 v ∷ tail 0x40 v ∷ tail 1 v ∷ []
  unfolding octets
  octets_4 h = rw (lt-leb v 0x7F (omega arith), lt-leb v 0x7FF (omega arith), lt-leb v 0xFFFF (omega arith))

  -- how many they are
  pub width_1 : v < 0x80 → 1 ≡ length (octets v)
  width_1 h = rw (octets_1 h)

  pub width_2 : 0x80 ≤ v → v < 0x800 → 2 ≡ length (octets v)
  width_2 h k = rw (octets_2 h k)

  pub width_3 : 0x800 ≤ v → v < 0x10000 → 3 ≡ length (octets v)
  width_3 h k = rw (octets_3 h k)

  pub width_4 : 0x10000 ≤ v → 4 ≡ length (octets v)
  width_4 h = rw (octets_4 h)

  -- one to four
  pub width_some : (1 ≤ length (octets v)) × (length (octets v) ≤ 4)
  unfolding octets
  width_some =
      pick_cases Some (leb v 0x7F) _ _ (λ e. (omega arith, omega arith))
      (λ e. pick_cases Some (leb v 0x7FF) _ _ (λ e. (omega arith, omega arith)) (λ e. pick_cases Some (leb v 0xFFFF) _ _ (λ e. (omega arith, omega arith)) (λ e. (omega arith, omega arith))))

pub ruleset widths = (rules, width_1, width_2, width_3, width_4)

-- ---- the bytes written

-- the highest bits of four fit a byte
pub lead_fits : (v : ℕ) → is_scalar v ≡ true → Fits w8 (v / 0x40000)
lead_fits v e = record { fits = omega (arith, scalar_most v e) }

pub lead_sum_fits : (v : ℕ) → is_scalar v ≡ true → Fits w8 (0xF0 + v / 0x40000)
lead_sum_fits v e = record { fits = omega (arith, scalar_most v e) }

module _ (xs : List ℕ) (v : ℕ) (r : length (octets v) ≤ length xs) where
  -- so many slots stand there
  pub row_fits : (n : ℕ) → n ≡ length (octets v) → n ≤ length xs
  row_fits n e = omega arith

  -- the last of four, behind the three before it
  pub last_fits : 4 ≡ length (octets v) → (a b c : ℕ) → 3 < length (set (set (set xs 0 a) 1 b) 2 c)
  last_fits e a b c = slot_still (set (set xs 0 a) 1 b) 2 c 3 (slot_still (set xs 0 a) 1 b 3 (slot_still xs 0 a 3 (row_fits 4 e)))

  put_row : (row : List ℕ) → octets v ≡ row → sets xs 0 row ≡ octets v ++ drop (length (octets v)) xs
  put_row row e = rw e (sets-eq row xs 0 (omega (arith, r, ap length e)) ∙ ap (λ (k : ℕ). row ++ drop k xs) (zero-add (length row)))

  pub put_1 : v < 0x80 → set xs 0 v ≡ octets v ++ drop (length (octets v)) xs
  put_1 h = put_row _ (octets_1 v h)

  pub put_2 : 0x80 ≤ v → v < 0x800 → (a : ℕ) → a ≡ tail 1 v → set (set xs 0 (0xC0 + v / 0x40)) 1 a ≡ octets v ++ drop (length (octets v)) xs
  put_2 h k a e = rw e (put_row _ (octets_2 v h k))

  pub put_3 : 0x800 ≤ v → v < 0x10000 → (a b : ℕ) → a ≡ tail 0x40 v → b ≡ tail 1 v
      → set (set (set xs 0 (0xE0 + v / 0x1000)) 1 a) 2 b ≡ octets v ++ drop (length (octets v)) xs
  put_3 h k a b e f = rw (e, f) (put_row _ (octets_3 v h k))

  pub put_4 : 0x10000 ≤ v → (a b c : ℕ) → a ≡ tail 0x1000 v → b ≡ tail 0x40 v → c ≡ tail 1 v
      → set (set (set (set xs 0 (0xF0 + v / 0x40000)) 1 a) 2 b) 3 c ≡ octets v ++ drop (length (octets v)) xs
  put_4 h a b c e f g = rw (e, f, g) (put_row _ (octets_4 v h))

pub ruleset puts = (widths, slots, lead_fits, lead_sum_fits, row_fits, last_fits, put_1, put_2, put_3, put_4)

-- ---- what the writer answers

-- where t is what a call says of the number
module _ (v : ℕ) (out : List ℕ) (t : Bool) (q : t ≡ is_scalar v) where
  pub encoded_not : t ≡ false → Encoded v out 0 out
  encoded_not e = let f : is_scalar v ≡ false = sym q ∙ e in record { count = by_false _ _ _ _ f refl; bytes = by_false _ _ _ _ f refl }

  module _ (e : t ≡ true) (n : ℕ) (w : n ≡ length (octets v)) where
    encoded_so : (out' : List ℕ) (m : ℕ)
        → m ≡ pick (leb (length (octets v)) (length out)) (length (octets v)) 0
        → out' ≡ pick (leb (length (octets v)) (length out)) (octets v ++ drop (length (octets v)) out) out → Encoded v out m out'
    encoded_so out' m f g = record { count = by_true _ _ _ _ (sym q ∙ e) f; bytes = by_true _ _ _ _ (sym q ∙ e) g }

    pub encoded_full : length out < n → Encoded v out 0 out
    encoded_full l = let h : length out < length (octets v) = omega arith in encoded_so out 0 (pick_nle _ _ _ _ _ h refl) (pick_nle _ _ _ _ _ h refl)

    pub encoded_all : n ≤ length out → (out' : List ℕ) → out' ≡ octets v ++ drop (length (octets v)) out → Encoded v out n out'
    encoded_all l out' g = let h : length (octets v) ≤ length out = omega arith in encoded_so out' n (pick_le _ _ _ _ _ h w) (pick_le _ _ _ _ _ h g)

    -- what is asked of the one that writes
    pub encodable : is_scalar v ≡ true
    encodable = sym q ∙ e

    pub writable : n ≤ length out → length (octets v) ≤ length out
    writable l = omega arith

pub ruleset encodes = (rules, encodable, writable, encoded_not, encoded_full, encoded_all)
