-- "The first": the least position with a property, and what it means that an answer gives it.
use Rattle.std.specs.Prelude.{ℕ, ◌<◌, ◌≡◌, ◌↔◌}

-- p has the property, and no position before it has
pub record Least (P : ℕ → Type 0) (p : ℕ) : Type 0 where
  pub has : P p
  pub before : (k : ℕ) → k < p → P k → ⊥

-- no position has it
abbrev pub Nowhere : (ℕ → Type 0) → Type 0
Nowhere P = (p : ℕ) → P p → ⊥

-- An answer gives the first position with the property: it says "at p" exactly when p is the least one, and says "at" of none exactly
-- when there is none.
pub record Gives {A : Type 0} (at : ℕ → A) (answer : A) (P : ℕ → Type 0) : Type 0 where
  pub found : (p : ℕ) → (answer ≡ at p) ↔ Least P p
  pub none : ((p : ℕ) → answer ≡ at p → ⊥) ↔ Nowhere P
