-- Laws of spans and depths, over the tests of the code. Assumes nothing.
use Prim.Native.Nat.{ℕ, ◌+◌, ◌-◌, ◌≤◌, ◌<◌}
use mathlib.Core.Path.{◌≡◌, ap}
use native.Mathlib.Omega.{arith}
use borrow.Author.Rules.{rules}
use lib.Dec.{leb}
use borrow.Author.Tests.{le-leb, lt-leb, leb-true}
use Rattle.ground.proofs.Choices.{pick_cases}
use Rattle.state.specs.declared.place.Depth.{Depth}
use Rattle.state.specs.declared.place.Span.{Span}
use Rattle.state.specs.Place.{span, depth_of, fewer, inner}

module _ (s : Span) (front back : ℕ) where
  inner_none : s.to < s.from + front + back → span s.from s.from ≡ inner s front back
  unfolding inner
  inner_none h = rw (lt-leb (s.from + front + back) s.to h)

  inner_some : s.from + front + back ≤ s.to → span (s.from + front) (s.to - back) ≡ inner s front back
  unfolding inner
  inner_some h = rw (le-leb (s.from + front + back) s.to h)

  -- it lies in the span
  pub inner_lies : s.from ≤ s.to → ((inner s front back).from ≤ (inner s front back).to) × ((inner s front back).to ≤ s.to)
  unfolding inner
  inner_lies h =
      pick_cases (λ (x : Span). (x.from ≤ x.to) × (x.to ≤ s.to)) (leb (s.from + front + back) s.to) _ _
      (λ e. omega (arith, leb-true (s.from + front + back) s.to e))
      (λ _. omega arith)

  pub crossed : s.to < s.from → span s.from s.from ≡ inner s front back
  crossed h = inner_none (omega arith)

  module _ (h : s.from ≤ s.to) where
    pub short : s.to - s.from < front → span s.from s.from ≡ inner s front back
    short f = inner_none (omega arith)

    module _ (f : front ≤ s.to - s.from) where
      pub shorter : s.to - s.from - front < back → span s.from s.from ≡ inner s front back
      shorter b = inner_none (omega arith)

      pub fits : back ≤ s.to - s.from - front → span (s.from + front) (s.to - back) ≡ inner s front back
      fits b = inner_some (omega arith)

pub ruleset inners = (rules, crossed, short, shorter, fits)

-- where no name is open there is none to take away
pub fewer_none : (d : Depth) → d.0 ≡ 0 → depth_of 0 ≡ fewer d
fewer_none d h = ap depth_of (omega arith)
