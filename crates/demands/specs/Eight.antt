-- A call with eight settings and no mark: document 01 as the other requests amend it. It is Eof wherever that is due, whatever is open; all else is taken from the
-- definition of a call.
use Rattle.std.specs.Prelude.{ℕ, false, List, length, eqb}
use Rattle.ground.specs.Choose.{pick}
use Rattle.ground.specs.Part.{part}
use Rattle.utf8.specs.Utf8.{check, by_utf8}
use Rattle.state.specs.declared.config.Config.{Config}
use Rattle.state.specs.declared.place.Depth.{Depth}
use Rattle.state.specs.declared.place.Span.{Span}
use Rattle.state.specs.declared.answer.Error.{Error}
use Rattle.state.specs.declared.run.Phase.{Phase}
use Rattle.state.specs.declared.run.Reader.{Reader}
use Rattle.state.specs.declared.run.Step.{Step}
use Rattle.state.specs.Limits.{capacity}
use Rattle.state.specs.Place.{at, depth_of, size, span}
use Rattle.state.specs.Make.{ended, stopped, bad_state}
use Rattle.emit.specs.Text.{text_content, emit_text}
use Rattle.emit.specs.Reference.{emit_ref, emit_dangling}
use Rattle.emit.specs.Bang.{emit_comment, emit_cdata}
use Rattle.emit.specs.Question.{emit_question_mark}
use Rattle.emit.specs.End.{emit_end, close_expanded_empty}
use Rattle.emit.specs.Start.{emit_start}
use Rattle.reader.specs.declared.piece.Shape.{Shape}
use Rattle.reader.specs.declared.piece.Piece.{Piece}
use Rattle.reader.specs.declared.piece.Cut.{Cut}
use Rattle.reader.specs.Cut.{cut_markup, cut_next, cut_ref}
use Rattle.reader.specs.Names.{latest}
use Rattle.reader.specs.Sound.{sound}
use Rattle.reader.specs.Step.{skipped, begin}

-- eight settings: the ninth is off
unfoldable pub eight : Config → Config
eight c =
    record {
      allow_dangling_amp = c.allow_dangling_amp;
      allow_unmatched_ends = c.allow_unmatched_ends;
      check_comments = c.check_comments;
      check_end_names = c.check_end_names;
      expand_empty_elements = c.expand_empty_elements;
      trim_markup_names_in_closing_tags = c.trim_markup_names_in_closing_tags;
      trim_text_start = c.trim_text_start;
      trim_text_end = c.trim_text_end;
      check_open_names = false;
    }

-- a reader, and what a call leaves and answers, in all but the ninth setting and the mark
unfoldable pub reader8 : Reader → Reader
reader8 r = record { phase = r.phase; position = r.position; depth = r.depth; length = r.length; settings = eight r.settings; mark = false }

unfoldable pub only8 : Step → Step
only8 s = record { reader = reader8 s.reader; answer = s.answer }

module _ (doc : List ℕ) (r : Reader) (last : Span) (cap : Depth) where
  -- what a piece becomes: "at the end of input it is Eof"
  abbrev pub emitted_as8 : Shape → Span → Phase → Step
  emitted_as8 Shape.Text piece next = emit_text doc r piece next
  emitted_as8 Shape.LastText piece next =
      pick (eqb (size (text_content doc r.settings piece)) 0) (ended r piece) (emit_text doc r piece Phase.Done)
  emitted_as8 Shape.GeneralRef piece next = emit_ref r piece
  emitted_as8 Shape.Dangling piece next = emit_dangling r piece next
  emitted_as8 Shape.Comment piece next = emit_comment doc r piece
  emitted_as8 Shape.CData piece next = emit_cdata doc r piece
  emitted_as8 Shape.QuestionMark piece next = emit_question_mark doc r piece
  emitted_as8 Shape.End piece next = emit_end doc r last piece
  emitted_as8 Shape.Start piece next = emit_start doc r cap piece

  unfoldable pub checked8 : Piece → Step
  checked8 p =
      by_utf8 (check p.span.from (part doc p.span.from p.span.to))
      (emitted_as8 p.shape p.span p.next)
      (λ ill. stopped r Error.Encoding (at ill) p.span)

  unfoldable pub taken8 : Cut → Step
  taken8 (Cut.Piece p) = checked8 p
  taken8 (Cut.Stop x) = stopped r x.error x.place x.piece

  abbrev pub step_in8 : Phase → Step
  step_in8 Phase.Init = taken8 (cut_next doc (skipped doc r.settings (begin doc)))
  step_in8 Phase.InsideText = taken8 (cut_next doc (skipped doc r.settings r.position.0))
  step_in8 Phase.InsideMarkup = taken8 (cut_markup doc r.position.0)
  step_in8 Phase.InsideRef = taken8 (cut_ref doc r.position.0)
  step_in8 Phase.InsideEmpty = close_expanded_empty r last
  -- "Done: Eof, all four numbers the position"
  step_in8 Phase.Done = ended r (span r.position.0 r.position.0)

-- that call, on a reader with eight settings and no mark
unfoldable pub step8 : List ℕ → List ℕ → Reader → Step
step8 doc stack r =
    pick (sound doc stack (reader8 r))
    (step_in8 doc (reader8 r) (latest stack r.depth.0) (depth_of (capacity (length stack))) r.phase)
    (bad_state (reader8 r))
