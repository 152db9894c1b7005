-- The first place with a property: how a byte more moves it, and that white space first stands where a name ends. Assumes nothing.
use Prim.Native.Nat.{ℕ, ◌+◌, ◌-◌, ◌≤◌, ◌<◌}
use mathlib.Core.Path.{◌≡◌, refl, sym, ap, ◌∙◌}
use mathlib.Core.Bool.{Bool, true, false, ◌&&◌}
use mathlib.Core.List.{List}
use mathlib.Core.Logic.{inl, inr, ⊎_elim}
use native.Mathlib.Omega.{arith}
use native.Mathlib.Decide.{dec_lt}
use lib.ListN.{length, get_or}
use lib.Dec.{eqb, ltb}
use borrow.Author.Tests.{eqb-true, eqb-false, ltb-true, ltb-false}
use Rattle.ground.specs.Choose.{pick}
use Rattle.ground.specs.Part.{part}
use Rattle.ground.specs.Least.{Least}
use Rattle.ground.proofs.Choices.{pick_cases}
use Rattle.ground.proofs.Lists.{part_length}
use Rattle.ground.proofs.First.{least_one}
use Rattle.white.specs.White.{is_white, name_len, EndsAt}
use Rattle.white.proofs.Words.{name_len_least}
use Rattle.plain.specs.Known.{reach}
use Rattle.plain.proofs.Bytes.{part_same}

-- v is the first place from `from` on with the property, of those before i; i where there is none
pub record First (P : ℕ → Type 0) (from i v : ℕ) : Type 0 where
  pub low : from ≤ v
  pub high : v ≤ i
  pub before : (k : ℕ) → from ≤ k → k < v → P k → ⊥
  pub here : v < i → P v

pub first_start : (P : ℕ → Type 0) (from : ℕ) → First P from from from
first_start P from =
    record { low = omega arith; high = omega arith; before = λ k h l p. omega arith; here = λ h. absurd (omega arith) }

module _ (P : ℕ → Type 0) (from i v : ℕ) (f : First P from i v) where
  -- the byte at i is passed
  past : v ≡ i → (P i → ⊥) → First P from (i + 1) (i + 1)
  past e n =
      record {
        low = omega arith;
        high = omega arith;
        before = λ k h l p.
            elim (dec_lt k v) [
              | yes m ↦ f.before k h m p
              | no m ↦ let g : k ≡ i = omega arith in n (rw g at p)
            ];
        here = λ h. absurd (omega arith);
      }

  -- it stays
  stays : (v ≡ i → P i) → First P from (i + 1) v
  stays n =
      record {
        low = omega arith;
        high = omega arith;
        before = f.before;
        here = λ h.
            elim (dec_lt v i) [
              | yes m ↦ f.here m
              | no m ↦ let g : v ≡ i = omega arith in rw g (n g)
            ];
      }

pub first_more : (P : ℕ → Type 0) (from i v : ℕ) (so : Bool) → First P from i v → (so ≡ true → P i) → (so ≡ false → P i → ⊥)
    → First P from (i + 1) (reach v i so)
unfolding reach
first_more P from i v true f y n = go (eqb v i)
  where
    go : (x : Bool) → First P from (i + 1) (pick (x && false) (i + 1) v)
    go true = stays P from i v f (λ e. y refl)
    go false = stays P from i v f (λ e. y refl)
first_more P from i v false f y n = go (eqb v i) refl
  where
    go : (x : Bool) → eqb v i ≡ x → First P from (i + 1) (pick (x && true) (i + 1) v)
    go true e = past P from i v f (eqb-true v i e) (n refl)
    go false e = stays P from i v f (λ g. absurd (eqb-false v i e g))

-- it comes late, where nothing before a has the property
pub first_late : (P : ℕ → Type 0) (from i v a : ℕ) → First P from i v → a ≤ i → ((k : ℕ) → from ≤ k → k < a → P k → ⊥) → a ≤ v
first_late P from i v a f h n =
    elim (dec_lt v a) [
      | yes l ↦ absurd (n v f.low l (f.here (omega arith)))
      | no l ↦ omega arith
    ]

abbrev pub White : List ℕ → ℕ → Type 0
White doc k = is_white (get_or doc k 0) ≡ true

-- white space or the end of the part stands first at e
ends_first : (doc : List ℕ) (from i v a to e : ℕ) → First (White doc) from i v → from ≤ a → a ≤ to → to ≤ length doc → a ≤ e → e ≤ v → e ≤ to
    → (e < to → White doc e) → Least (EndsAt is_white (part doc a to)) (e - a)
ends_first doc from i v a to e f l m w p q r s =
    let long = part_length doc a to m w in
    record {
      has =
          elim (dec_lt e to) [
            | yes u ↦ inr (omega arith, ap is_white (part_same doc a to (e - a) e w (omega arith) (omega arith)) ∙ s u)
            | no u ↦ inl (omega arith)
          ];
      before = λ k h.
          ⊎_elim (λ g. omega arith)
          (λ g. f.before (a + k) (omega arith) (omega arith) (sym (ap is_white (part_same doc a to k (a + k) w (omega arith) refl)) ∙ g.1));
    }

-- the name length of a content that begins at a, where no white space stands between `from` and a
pub name_is : (doc : List ℕ) (from i v a to : ℕ) → First (White doc) from i v → a ≤ v → from ≤ a → a ≤ to → to ≤ i → i ≤ length doc
    → name_len (part doc a to) ≡ pick (ltb v to) v to - a
name_is doc from i v a to f h l m n w =
    pick_cases (λ (e : ℕ). name_len (part doc a to) ≡ e - a) (ltb v to) v to
    (λ e. let u = ltb-true v to e in is v h (omega arith) (omega arith) (λ g. f.here (omega arith)))
    (λ e. let u = ltb-false v to e in is to m u (omega arith) (λ g. absurd (omega arith)))
  where
    is : (e : ℕ) → a ≤ e → e ≤ v → e ≤ to → (e < to → White doc e) → name_len (part doc a to) ≡ e - a
    is e p q r s =
        least_one (EndsAt is_white (part doc a to)) (name_len (part doc a to)) (e - a) (name_len_least (part doc a to))
        (ends_first doc from i v a to e f l m (omega arith) p q r s)
