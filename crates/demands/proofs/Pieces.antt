-- The pieces of a run's answers: each lies between the positions before and after its call, so that they stand in the order of the calls. Assumes nothing.
use Prim.Native.Nat.{ℕ, suc, ◌+◌, ◌-◌, ◌≤◌, ◌<◌}
use mathlib.Core.Path.{◌≡◌, sym}
use mathlib.Core.List.{List}
use native.Mathlib.Omega.{arith}
use lib.ListN.{length}
use Rattle.state.specs.declared.config.Config.{Config}
use Rattle.state.specs.declared.place.Span.{Span}
use Rattle.state.specs.Limits.{longest}
use Rattle.state.specs.Values.{values_of}
use Rattle.demands.specs.Run.{said, call, run}
use Rattle.demands.proofs.Demand1.{turn, position_never_falls}

module _ (doc stack : List ℕ) (c : Config) (short : length doc ≤ longest) where
  abbrev position : ℕ → ℕ
  position n = (run doc stack c n).reader.position.0

  -- the piece of call n + 1
  abbrev piece : ℕ → Span
  piece n = (values_of (said doc (run doc stack c n))).piece

  -- THEOREM: the piece of an answer lies between the positions before and after its call, in the document, and ends at the second
  pub a_piece_lies_between_the_positions : (n : ℕ)
      → (position n ≤ (piece n).from) × ((piece n).from ≤ (piece n).to) × ((piece n).to ≡ position (suc n)) × ((piece n).to ≤ length doc)
  unfolding run call
  a_piece_lies_between_the_positions n =
      let t = turn doc stack c short n in
      (t.after, t.ordered, sym t.left, t.within)

  -- THEOREM: so the piece of an answer ends where that of a later one begins, or before
  pub pieces_stand_in_the_order_of_calls : (m n : ℕ) → m < n → (piece m).to ≤ (piece n).from
  pieces_stand_in_the_order_of_calls m n l =
      let k : n - suc m + suc m ≡ n = omega arith in
      let up : position (suc m) ≤ position n = rw k at (position_never_falls doc stack c short (suc m) (n - suc m)) in
      omega (arith, a_piece_lies_between_the_positions m, a_piece_lies_between_the_positions n, up)
