-- The capacity of a stack. Assumes nothing.
use Prim.Native.Nat.{ℕ, ◌*◌, ◌/◌, ◌≤◌}
use mathlib.Core.Path.{◌≡◌, ap}
use native.Mathlib.Omega.{arith}
use lib.Dec.{ltb}
use borrow.Author.Tests.{ltb-true, ltb-false}
use Rattle.ground.proofs.Choices.{pick_cases}
use Rattle.state.specs.declared.place.Depth.{Depth}
use Rattle.state.specs.Place.{depth_of}
use Rattle.state.specs.Limits.{most, slots, capacity}

-- half the slots at most, and the most names at most
capacity_half : (n : ℕ) → (capacity n ≤ n / slots) × (capacity n ≤ most)
unfolding capacity
capacity_half n =
    pick_cases (λ k. (k ≤ n / slots) × (k ≤ most)) (ltb (n / slots) most) (n / slots) most
    (λ e. omega (arith, ltb-true (n / slots) most e))
    (λ e. omega (arith, ltb-false (n / slots) most e))

-- as many names as the capacity have their slots
pub capacity_slots : (n d : ℕ) → d ≤ capacity n → d * slots ≤ n
capacity_slots n d h = omega (arith, capacity_half n)

-- where the code has asked for the capacity
pub told_slots : (n : ℕ) (k d : Depth) → k ≡ depth_of (capacity n) → d.0 ≤ k.0 → d.0 * slots ≤ n
told_slots n k d e h = capacity_slots n d.0 (omega (arith, ap (λ (x : Depth). x.0) e))
