-- What routines inside this crate ask of their callers, in the crate too. No promise of `advance` names what stands here.
use Rattle.std.specs.Prelude.{ℕ, ◌≤◌, ◌≡◌, List, Bool, true, length}
use Rattle.ground.specs.Choose.{pick}
use Rattle.state.specs.declared.place.Depth.{Depth}
use Rattle.state.specs.declared.place.Span.{Span}
use Rattle.state.specs.declared.run.Reader.{Reader}
use Rattle.state.specs.declared.run.Step.{Step}
use Rattle.state.specs.Limits.{longest}
use Rattle.reader.specs.Sound.{is_in_place}
use Rattle.reader.specs.Step.{begin, step_text}
use Rattle.plain.specs.declared.known.Known.{Known}

-- numbers that do not overflow
pub record Faces (k : Known) (last : Span) : Type 0 where
  pub read : k.at ≤ longest
  pub behind : last.to ≤ longest
  pub ordered : last.from ≤ last.to

-- a sound state and its latest open name
pub record Placed (doc : List ℕ) (r : Reader) (last : Span) : Type 0 where
  pub short : length doc ≤ longest
  pub in_doc : r.position.0 ≤ length doc
  pub ordered : last.from ≤ last.to
  pub behind : last.to ≤ r.position.0
  pub in_place : is_in_place doc r ≡ true

-- the same, where a piece is read: a byte order mark stands at the document's start
pub record Readable (doc : List ℕ) (r : Reader) (last : Span) (mark : Bool) : Type 0 where
  pub short : length doc ≤ longest
  pub in_doc : r.position.0 ≤ length doc
  pub ordered : last.from ≤ last.to
  pub behind : last.to ≤ r.position.0
  pub first : mark ≡ true → r.position.0 ≡ 0

-- what is read then
unfoldable pub read_from : List ℕ → Reader → Span → Depth → Bool → Step
read_from doc r last room mark = step_text doc r last room (pick mark (begin doc) r.position.0)
