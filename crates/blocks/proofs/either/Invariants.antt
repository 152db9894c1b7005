-- `either` meets its contract: each flag tells of its byte among those seen so far. Assumes nothing.
use Prim.Native.Nat.{◌-◌, ◌≤◌}
use lib.Dec.{eqb}
use Rattle.blocks.specs.Blocks.{Flag}
use Rattle.blocks.proofs.either.Given as goal

abbrev pub invariant-loop-k : goal.invariant-loop-k
invariant-loop-k l = (l.k ≤ l.n) × (Flag (λ v. eqb v l.a) l.s l.at l.k l.x × Flag (λ v. eqb v l.b) l.s l.at l.k l.y)

abbrev pub decreases-loop-k : goal.decreases-loop-k
decreases-loop-k l = l.n - l.k
