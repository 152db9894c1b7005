-- Where a part of a slice stands, a law for each way through `part`; and that the promise leaves one part. Assumes nothing.
use Prim.Native.Nat.{ℕ, ◌+◌, ◌≤◌, ◌<◌}
use mathlib.Core.Path.{◌≡◌, sym, ap₂, ◌∙◌}
use mathlib.Core.List.{List}
use native.Mathlib.Omega.{arith}
use lib.ListN.{length}
use borrow.Author.Tests.{le-ltb, lt-ltb}
use denote.Ref.{Bor}
use Rattle.ground.specs.Part.{start_of, PartOf}
use Rattle.ground.proofs.Choices.{choices}
use Rattle.ground.proofs.Lists.{at_end}

module _ (s : List ℕ) (from to p q : ℕ) where
  pub stands_crossed : to < from → p ≡ length s + q → p ≡ q + start_of s from to
  stands_crossed h e = rw (lt-ltb to from h) (omega arith)

  pub stands_past : from ≤ to → length s < to → p ≡ length s + q → p ≡ q + start_of s from to
  stands_past h k e = rw (le-ltb to from h, lt-ltb (length s) to k) (omega arith)

  pub stands_inside : from ≤ to → to ≤ length s → p ≡ from + q → p ≡ q + start_of s from to
  stands_inside h k e = rw (le-ltb to from h, le-ltb (length s) to k) (omega arith)

pub ruleset parts = (choices, at_end, stands_crossed, stands_past, stands_inside)

-- THEOREM: two parts that meet the promise have the same address and the same bytes
pub only_one_part : (s : Bor (List ℕ)) (from to : ℕ) (r r' : Bor (List ℕ)) → PartOf s from to r → PartOf s from to r' → (r.ref_ptr ≡ r'.ref_ptr) × (r.now ≡ r'.now)
only_one_part s from to r r' p p' = (ap₂ (λ (b o : ℕ). (b, o)) (p.block ∙ sym p'.block) (p.offset ∙ sym p'.offset), p.bytes ∙ sym p'.bytes)
