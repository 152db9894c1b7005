-- What a call leaves and answers, made by name: no other definition of that writes a reader's fields.
use Rattle.std.specs.Prelude.{ℕ, Bool, true, false, not, [], ◌∷◌, ltb}
use Rattle.ground.specs.Choose.{pick, all_of}
use Rattle.state.specs.declared.place.Position.{Position}
use Rattle.state.specs.declared.place.Depth.{Depth}
use Rattle.state.specs.declared.place.Span.{Span}
use Rattle.state.specs.declared.config.Config.{Config}
use Rattle.state.specs.declared.answer.Kind.{Kind}
use Rattle.state.specs.declared.answer.Event.{Event}
use Rattle.state.specs.declared.answer.Error.{Error}
use Rattle.state.specs.declared.answer.Refusal.{Refusal}
use Rattle.state.specs.declared.answer.Answer.{Answer}
use Rattle.state.specs.declared.run.Phase.{Phase}
use Rattle.state.specs.declared.run.Reader.{Reader}
use Rattle.state.specs.declared.run.Step.{Step}
use Rattle.state.specs.declared.run.Made.{Made}
use Rattle.state.specs.Limits.{longest}
use Rattle.state.specs.Place.{at, depth_of, span}

abbrev pub event : Kind → Span → Span → ℕ → Event
event kind piece content name = record { kind = kind; piece = piece; content = content; name = name }

abbrev pub refusal : Error → Position → Span → Refusal
refusal error place piece = record { error = error; place = place; piece = piece }

-- "A fresh reader has Init, 0, 0, the slice's length and the settings given"; the mark "off in a fresh reader"
unfoldable pub fresh : ℕ → Config → Reader
fresh n c = record { phase = Phase.Init; position = at 0; depth = depth_of 0; length = n; settings = c; mark = false }

-- 16: "slice too long, on making a reader", "no reader made, place 0", "the piece of 16 and 17 is 0..0"
unfoldable pub made : ℕ → Config → Made
made n c = pick (ltb longest n) (Made.Refused (refusal Error.SliceTooLong (at 0) (span 0 0))) (Made.Fresh (fresh n c))

-- in another phase at another place
unfoldable pub moved : Reader → Phase → ℕ → Reader
moved r next place = record { phase = next; position = at place; depth = r.depth; length = r.length; settings = r.settings; mark = r.mark }

-- with another count of open names
unfoldable pub with_depth : Reader → Depth → Reader
with_depth r d = record { phase = r.phase; position = r.position; depth = d; length = r.length; settings = r.settings; mark = r.mark }

-- with the mark on
unfoldable pub marked : Reader → Reader
marked r = record { phase = r.phase; position = r.position; depth = r.depth; length = r.length; settings = r.settings; mark = true }

-- an event; the reader goes on after its piece
unfoldable pub told : Reader → Event → Phase → Step
told r e next = record { reader = moved r next e.piece.to; answer = Answer.Event e }

-- Eof, "with the same piece and its content empty at the piece's start"; the mark is "turned on by Eof (setting on or off)"
unfoldable pub ended : Reader → Span → Step
ended r piece = told (marked r) (event Kind.Eof piece (span piece.from piece.from) 0) Phase.Done

-- a refusal; "a piece from the piece's start to the position left"
unfoldable pub refused : Reader → Error → Position → Span → Phase → Step
refused r e place piece next = record { reader = moved r next piece.to; answer = Answer.Refused (refusal e place piece) }

-- one that ends the run, or 18; the mark is "turned on .. by 18 and by those refusals"
unfoldable pub stopped : Reader → Error → Position → Span → Step
stopped r e place piece = refused (marked r) e place piece Phase.Done

-- whether Eof is refused where it is due: "the setting is on, a name is open and the mark is off"
unfoldable pub refuses_end : Reader → Bool
refuses_end r = all_of (ltb 0 r.depth.0 ∷ r.settings.check_open_names ∷ not r.mark ∷ [])

-- where Eof is due: Eof, or 18 instead. "Its place is the start of the latest open name; piece and position are those of the Eof it replaces,
-- names and stack are kept and the phase is Done"
unfoldable pub ending : Reader → Span → Span → Step
ending r last piece = pick (refuses_end r) (stopped r Error.UnclosedElements (at last.from) piece) (ended r piece)

-- 17: "place 0", "the piece of 16 and 17 is 0..0"
abbrev pub bad_answer : Answer
bad_answer = Answer.Refused (refusal Error.BadState (at 0) (span 0 0))

-- 17: "all unchanged"
unfoldable pub bad_state : Reader → Step
bad_state r = record { reader = r; answer = bad_answer }
