-- The place behind the last byte that is not white space: how a byte more moves it, and that what is kept of the bytes ends there. Assumes nothing.
use Prim.Native.Nat.{ℕ, ◌+◌, ◌-◌, ◌≤◌, ◌<◌}
use mathlib.Core.Path.{◌≡◌, refl, ap, ◌∙◌}
use mathlib.Core.Bool.{true, false}
use mathlib.Core.List.{List}
use native.Mathlib.Omega.{arith}
use native.Mathlib.Decide.{dec_lt}
use lib.ListN.{length, get_or}
use Rattle.ground.specs.Choose.{pick}
use Rattle.ground.specs.Part.{part}
use Rattle.ground.proofs.Choices.{pick_cases, clash}
use Rattle.ground.proofs.Lists.{part_length}
use Rattle.ground.proofs.First.{least_one}
use Rattle.white.specs.White.{is_white, kept, WhiteFrom}
use Rattle.white.proofs.Words.{kept_least}
use Rattle.plain.proofs.Bytes.{byte_same, part_same}

-- from v on up to i only white space stands, and before v a byte that is none, or `from`
pub record Kept (doc : List ℕ) (from i v : ℕ) : Type 0 where
  pub low : from ≤ v
  pub high : v ≤ i
  pub rest : (k : ℕ) → v ≤ k → k < i → is_white (get_or doc k 0) ≡ true
  pub last : from < v → is_white (get_or doc (v - 1) 0) ≡ false

pub kept_start : (doc : List ℕ) (from : ℕ) → Kept doc from from from
kept_start doc from =
    record { low = omega arith; high = omega arith; rest = λ k h l. absurd (omega arith); last = λ h. absurd (omega arith) }

pub kept_more : (doc : List ℕ) (from i v : ℕ) → Kept doc from i v → Kept doc from (i + 1) (pick (is_white (get_or doc i 0)) v (i + 1))
kept_more doc from i v h =
    pick_cases (Kept doc from (i + 1)) (is_white (get_or doc i 0)) v (i + 1)
    (λ e. record {
      low = omega arith;
      high = omega arith;
      rest = λ k l u.
          elim (dec_lt k i) [
            | yes m ↦ h.rest k l m
            | no m ↦ ap is_white (byte_same doc k i (omega arith)) ∙ e
          ];
      last = h.last;
    })
    (λ e. record {
      low = omega arith;
      high = omega arith;
      rest = λ k l u. absurd (omega arith);
      last = λ l. ap is_white (byte_same doc (i + 1 - 1) i (omega arith)) ∙ e;
    })

pub kept_is : (doc : List ℕ) (from i v a : ℕ) → Kept doc from i v → from ≤ a → a ≤ v → i ≤ length doc → a + kept (part doc a i) ≡ v
kept_is doc from i v a h l m w =
    let long : length (part doc a i) ≡ i - a = part_length doc a i (omega arith) w in
    let e = least_one (WhiteFrom (part doc a i)) (kept (part doc a i)) (v - a) (kept_least (part doc a i)) (record {
      has = λ k g u. ap is_white (part_same doc a i k (a + k) w (omega arith) refl) ∙ h.rest (a + k) (omega arith) (omega arith);
      before = λ k g f.
          clash (is_white (get_or (part doc a i) (v - 1 - a) 0)) (f (v - 1 - a) (omega arith) (omega arith))
          (ap is_white (part_same doc a i (v - 1 - a) (v - 1) w (omega arith) (omega arith)) ∙ h.last (omega arith));
    }) in
    omega arith
