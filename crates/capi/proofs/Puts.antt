-- Numbers written into lent slots one after the other: all of them, or none. Assumes nothing.
use Prim.Native.Nat.{ℕ, ◌≤◌, ◌<◌}
use mathlib.Core.Path.{◌≡◌}
use mathlib.Core.List.{List, ◌++◌}
use lib.ListN.{length, drop}
use Rattle.ground.proofs.Choices.{pick_lt, pick_nlt}
use Rattle.ground.proofs.Copies.{copies}
use Rattle.capi.specs.Slots.{put}

module _ (xs vs ys : List ℕ) where
  -- no room
  pub put_nothing : length xs < length vs → ys ≡ xs → ys ≡ put xs vs
  unfolding put
  put_nothing l e = pick_lt _ _ _ _ _ l e

  pub put_all : length vs ≤ length xs → ys ≡ vs ++ drop (length vs) xs → ys ≡ put xs vs
  unfolding put
  put_all l e = pick_nlt _ _ _ _ _ l e

pub ruleset put_turns = (copies, put_nothing, put_all)
