-- One call (document 01, "Steps" and "When a call is refused"; the place of 13, and 18, by document 02). The order of refusals is the order in which a definition
-- hands on to the next: 17 in `step`; 14 and 8, and no closer (1 to 7), in the cutting of the piece; 13 in `checked`; the kind's own, and 15 or 18 last, in what
-- the piece becomes. Where there is no piece, Eof and 18 are all there is.
use Rattle.std.specs.Prelude.{ℕ, ◌+◌, ◌≡◌, List, [], ◌∷◌, length}
use Rattle.ground.specs.Choose.{pick}
use Rattle.ground.specs.Equal.{begins}
use Rattle.ground.specs.Least.{Least}
use Rattle.ground.specs.Part.{part}
use Rattle.white.specs.White.{leading}
use Rattle.utf8.specs.Utf8.{check, by_utf8, IllAt}
use Rattle.state.specs.declared.place.Depth.{Depth}
use Rattle.state.specs.declared.place.Span.{Span}
use Rattle.state.specs.declared.config.Config.{Config}
use Rattle.state.specs.declared.answer.Error.{Error}
use Rattle.state.specs.declared.run.Reader.{Reader}
use Rattle.state.specs.declared.run.Phase.{Phase}
use Rattle.state.specs.declared.run.Step.{Step}
use Rattle.state.specs.Limits.{capacity}
use Rattle.state.specs.Place.{at, depth_of, span}
use Rattle.state.specs.Make.{ending, stopped, bad_state}
use Rattle.emit.specs.Text.{emit_text, emit_last_text}
use Rattle.emit.specs.Reference.{emit_ref, emit_dangling}
use Rattle.emit.specs.Bang.{emit_comment, emit_cdata}
use Rattle.emit.specs.Question.{emit_question_mark}
use Rattle.emit.specs.End.{emit_end, close_expanded_empty}
use Rattle.emit.specs.Start.{emit_start}
use Rattle.reader.specs.declared.piece.Shape.{Shape}
use Rattle.reader.specs.declared.piece.Piece.{Piece}
use Rattle.reader.specs.declared.piece.Cut.{Cut}
use Rattle.reader.specs.Cut.{cut_markup, cut_next, cut_ref}
use Rattle.reader.specs.Names.{latest, written}
use Rattle.reader.specs.Sound.{sound}

module _ (doc : List ℕ) (r : Reader) (last : Span) (cap : Depth) where
  -- what a piece becomes
  abbrev pub emitted_as : Shape → Span → Phase → Step
  emitted_as Shape.Text piece next = emit_text doc r piece next
  emitted_as Shape.LastText piece next = emit_last_text doc r last piece
  emitted_as Shape.GeneralRef piece next = emit_ref r piece
  emitted_as Shape.Dangling piece next = emit_dangling r piece next
  emitted_as Shape.Comment piece next = emit_comment doc r piece
  emitted_as Shape.CData piece next = emit_cdata doc r piece
  emitted_as Shape.QuestionMark piece next = emit_question_mark doc r piece
  emitted_as Shape.End piece next = emit_end doc r last piece
  emitted_as Shape.Start piece next = emit_start doc r cap piece

  unfoldable pub emitted : Piece → Step
  emitted p = emitted_as p.shape p.span p.next

  -- 13: "piece not UTF-8", position "after piece"; its place is "the first byte of the first ill-formed sequence"
  unfoldable pub checked : Piece → Step
  checked p =
      by_utf8 (check p.span.from (part doc p.span.from p.span.to))
      (emitted p)
      (λ ill. stopped r Error.Encoding (at ill) p.span)

  -- a piece, or a refusal that ends the run
  unfoldable pub taken : Cut → Step
  taken (Cut.Piece p) = checked p
  taken (Cut.Stop x) = stopped r x.error x.place x.piece

-- "Text: with `trim_text_start`, skip white space"
unfoldable pub skipped : List ℕ → Config → ℕ → ℕ
skipped doc c from = pick c.trim_text_start (from + leading (part doc from (length doc))) from

unfoldable pub step_text : List ℕ → Reader → Span → Depth → ℕ → Step
step_text doc r last cap from = taken doc r last cap (cut_next doc (skipped doc r.settings from))

-- the byte order mark
abbrev pub bom : List ℕ
bom = 0xEF ∷ 0xBB ∷ 0xBF ∷ []

-- "Init: skip EF BB BF if present"
unfoldable pub begin : List ℕ → ℕ
begin doc = pick (begins doc bom) 3 0

module _ (doc : List ℕ) (r : Reader) (last : Span) (cap : Depth) where
  abbrev pub step_in : Phase → Step
  -- "go on as text"
  step_in Phase.Init = step_text doc r last cap (begin doc)
  step_in Phase.InsideText = step_text doc r last cap r.position.0
  step_in Phase.InsideMarkup = taken doc r last cap (cut_markup doc r.position.0)
  step_in Phase.InsideRef = taken doc r last cap (cut_ref doc r.position.0)
  step_in Phase.InsideEmpty = close_expanded_empty r last
  -- "Done: Eof, all four numbers the position, nothing changed" but the mark; or 18
  step_in Phase.Done = ending r last (span r.position.0 r.position.0)

  unfoldable pub step_phase : Step
  step_phase = step_in r.phase

-- THE DEFINITION of a call: what it answers and the reader that it leaves
unfoldable pub step : List ℕ → List ℕ → Reader → Step
step doc stack r =
    pick (sound doc stack r)
    (step_phase doc r (latest stack r.depth.0) (depth_of (capacity (length stack))))
    (bad_state r)

-- THE PROMISE of a call: the answer and the reader, and every slot of the stack
pub record Stepped (doc stack : List ℕ) (r : Reader) (s : Step) (after : List ℕ) : Type 0 where
  pub outcome : s ≡ step doc stack r
  pub slots : after ≡ written stack r.depth.0 (step doc stack r).answer

-- ---- the place of 13 in words

-- "the least position from which no well-formed character of RFC 3629 starts, all before it being well formed", in a piece
abbrev pub FirstIll : List ℕ → Span → ℕ → Type 0
FirstIll doc piece = Least (IllAt doc piece.from piece.to)
