-- What a call answers, case by case. Assumes nothing.
use Prim.Native.Nat.{ℕ, ◌+◌, ◌≤◌, ◌<◌}
use mathlib.Core.Path.{◌≡◌, ap, ◌∙◌}
use mathlib.Core.Bool.{true, false}
use mathlib.Core.List.{List}
use lib.ListN.{length}
use lib.Dec.{ltb}
use borrow.Author.Tests.{le-ltb, lt-ltb}
use Rattle.parser.specs.Machine.{Scan as Course, going, feed}
use Rattle.state.specs.Limits.{longest}
use Rattle.state.specs.declared.answer.Error.{Error}
use Rattle.pieces.specs.declared.scan.State.{State}
use Rattle.pieces.specs.declared.scan.Scan.{Scan}
use Rattle.pieces.specs.declared.scan.Told.{Told}
use Rattle.pieces.specs.Kinds.{piece_step}
use Rattle.pieces.specs.Reached.{reached}
use Rattle.pieces.specs.Fed.{answer_of, fed, fed_on, refused}

pub fed_closed : (place : ℕ) (piece : List ℕ) → place < longest → fed (Scan.Closed place) piece ≡ record { scan = Scan.Closed place; told = Told.At place }
unfolding fed
fed_closed place piece h = rw (lt-ltb place longest h)

pub fed_bad_place : (place : ℕ) (piece : List ℕ) → ltb place longest ≡ false → fed (Scan.Closed place) piece ≡ refused (Scan.Closed place) Error.BadState
unfolding fed
fed_bad_place place piece e = rw e

module _ (n : ℕ) (s : State) (piece : List ℕ) where
  pub fed_bad_state : reached n s ≡ false → fed (Scan.Open n s) piece ≡ refused (Scan.Open n s) Error.BadState
  unfolding fed
  fed_bad_state e = rw e

  pub fed_long : reached n s ≡ true → longest < n + length piece → fed (Scan.Open n s) piece ≡ refused (Scan.Open n s) Error.SliceTooLong
  unfolding fed
  fed_long e h = rw (e, lt-ltb longest (n + length piece) h)

  pub fed_on_lem : reached n s ≡ true → n + length piece ≤ longest → fed (Scan.Open n s) piece ≡ fed_on n s piece
  unfolding fed
  fed_on_lem e h = rw (e, le-ltb longest (n + length piece) h)

  pub fed_open : reached n s ≡ true → n + length piece ≤ longest → (c : Course State) → feed piece_step (going s) n piece ≡ c
      → fed (Scan.Open n s) piece ≡ answer_of (n + length piece) c
  unfolding fed_on
  fed_open e h c f = fed_on_lem e h ∙ ap (answer_of (n + length piece)) f
