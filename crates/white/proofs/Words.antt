-- The definitions of specs/White say what its words say: each number is the least position with the property that the words name.
-- Assumes nothing.
use Prim.Native.Nat.{ℕ, zero, suc, ◌+◌, ◌-◌, ◌<◌}
use mathlib.Core.Path.{◌≡◌, refl, ap, ◌∙◌}
use mathlib.Core.List.{List, [], ◌∷◌}
use mathlib.Core.Bool.{Bool, true, false}
use mathlib.Core.Logic.{inl, inr, ⊎_elim}
use native.Mathlib.Numerals.{add-one}
use native.Mathlib.Omega.{arith}
use lib.ListN.{length, get_or}
use Rattle.ground.specs.Choose.{pick}
use Rattle.ground.specs.Least.{Least}
use Rattle.ground.proofs.Choices.{clash}
use Rattle.white.proofs.Runs.{until_before, kept_within, kept_rest}
use Rattle.white.specs.White.{is_white, not_white, until, name_len, leading, kept_of, kept, EndsAt, WhiteFrom}

-- ---- the first byte that passes a test

module _ (test : ℕ → Bool) where
  -- there is one at `until`, or the bytes end there
  pub until_at : (bs : List ℕ) → EndsAt test bs (until test bs)
  unfolding until
  until_at [] = inl refl
  until_at (b ∷ bs) = by (test b) refl (until_at bs)
    where
      by : (x : Bool) → test b ≡ x → EndsAt test bs (until test bs) → EndsAt test (b ∷ bs) (pick x 0 (until test bs + 1))
      by true e r = inr (omega arith, e)
      by false e r =
          ⊎_elim (λ h. inl (omega arith))
          (λ h. inr (omega arith, ap (λ (n : ℕ). test (get_or (b ∷ bs) n 0)) (add-one (until test bs)) ∙ h.1)) r

until_least : (test : ℕ → Bool) (bs : List ℕ) → Least (EndsAt test bs) (until test bs)
until_least test bs =
    record {
      has = until_at test bs;
      before = λ k h. let g = until_before test bs k h in ⊎_elim (λ e. omega arith) (λ w. clash (test (get_or bs k 0)) w.1 g.1);
    }

-- the name length is the least position at which white space stands or the bytes end
pub name_len_least : (bs : List ℕ) → Least (EndsAt is_white bs) (name_len bs)
name_len_least bs = until_least is_white bs

-- leading white space ends at the least position at which another byte stands or the bytes end
pub leading_least : (bs : List ℕ) → Least (EndsAt not_white bs) (leading bs)
leading_least bs = until_least not_white bs

-- ---- trailing white space

-- of the first n bytes, the last kept one is not white space
kept_last : (s : List ℕ) (n : ℕ) → 0 < kept_of s n → is_white (get_or s (kept_of s n - 1) 0) ≡ false
unfolding kept_of
kept_last s zero h = absurd (omega arith)
kept_last s (suc n) h = by (is_white (get_or s n 0)) refl (kept_last s n) h
  where
    by : (x : Bool) → is_white (get_or s n 0) ≡ x → (0 < kept_of s n → is_white (get_or s (kept_of s n - 1) 0) ≡ false)
        → 0 < pick x (kept_of s n) (suc n) → is_white (get_or s (pick x (kept_of s n) (suc n) - 1) 0) ≡ false
    by true e r h = r h
    by false e r h = ap (λ (j : ℕ). is_white (get_or s j 0)) (omega arith) ∙ e

-- what is kept ends at the least position from which on only white space stands
pub kept_least : (bs : List ℕ) → Least (WhiteFrom bs) (kept bs)
kept_least bs =
    record {
      has = λ k h l. kept_rest bs (length bs) k h l;
      before = λ k h w.
          clash _ (w (kept bs - 1) (omega arith) (omega (arith, kept_within bs (length bs)))) (kept_last bs (length bs) (omega arith));
    }
