-- A call on the bytes of a document that are there so far: when the piece that it reads is whole there.
use Rattle.std.specs.Prelude.{ℕ, ◌≤◌, ◌≡◌, List, length, drop}
use Rattle.state.specs.declared.run.Phase.{Phase}
use Rattle.state.specs.declared.run.Reader.{Reader}
use Rattle.state.specs.declared.run.Step.{Step}
use Rattle.pieces.specs.declared.scan.What.{What}
use Rattle.pieces.specs.declared.scan.Told.{Told}
use Rattle.pieces.specs.Fed.{fed, fresh}
use Rattle.reader.specs.Step.{begin, skipped}

-- the scan of a piece, fed these bytes, tells a place: the piece that they begin with is whole there
pub record Closes (bytes : List ℕ) : Type 0 where
  pub place : ℕ
  pub tells : (fed (fresh What.Piece) bytes).told ≡ Told.At place

-- so is the piece that a call on r reads, by the phase; where it reads none, nothing is asked
module _ (doc : List ℕ) (r : Reader) where
  abbrev pub WholeIn : Phase → Type 0
  WholeIn Phase.Init = Closes (drop (skipped doc r.settings (begin doc)) doc)
  WholeIn Phase.InsideText = Closes (drop (skipped doc r.settings r.position.0) doc)
  WholeIn Phase.InsideMarkup = Closes (drop r.position.0 doc)
  WholeIn Phase.InsideRef = Closes (drop r.position.0 doc)
  WholeIn Phase.InsideEmpty = Unit {0}
  WholeIn Phase.Done = Unit {0}

  abbrev pub Whole : Type 0
  Whole = WholeIn r.phase

-- a reader of these bytes: it knows how many there are, and stands among them
pub record Stands (doc : List ℕ) (r : Reader) : Type 0 where
  pub own : r.length ≡ length doc
  pub within : r.position.0 ≤ length doc

-- the same reader over a document of n bytes
abbrev pub lengthened : ℕ → Reader → Reader
lengthened n r = record { phase = r.phase; position = r.position; depth = r.depth; length = n; settings = r.settings; mark = r.mark }

-- the same answer, and the reader that is left over a document of n bytes
unfoldable pub lengthened_step : ℕ → Step → Step
lengthened_step n s = record { reader = lengthened n s.reader; answer = s.answer }
