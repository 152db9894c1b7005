-- Opening tags and empty elements (document 01, "Steps").
use Rattle.std.specs.Prelude.{ℕ, ◌-◌, List, Bool, false, get_or, eqb, ltb}
use Rattle.ground.specs.Choose.{pick}
use Rattle.ground.specs.Bytes.{slash}
use Rattle.ground.specs.Part.{part}
use Rattle.white.specs.White.{name_len}
use Rattle.state.specs.declared.place.Depth.{Depth}
use Rattle.state.specs.declared.place.Span.{Span}
use Rattle.state.specs.declared.answer.Kind.{Kind}
use Rattle.state.specs.declared.answer.Event.{Event}
use Rattle.state.specs.declared.answer.Error.{Error}
use Rattle.state.specs.declared.run.Phase.{Phase}
use Rattle.state.specs.declared.run.Reader.{Reader}
use Rattle.state.specs.declared.run.Step.{Step}
use Rattle.state.specs.Place.{at, span, further, inner}
use Rattle.state.specs.Make.{with_depth, event, told, stopped}

-- "Ending `/>`": the last byte before the `>` is a `/`
unfoldable pub slashed : List ℕ → Span → Bool
slashed doc piece =
    pick (ltb (inner piece 1 1).from (inner piece 1 1).to) (eqb (get_or doc ((inner piece 1 1).to - 1) 0) slash) false

-- content "with its name length"
unfoldable pub tag : List ℕ → Kind → Span → Span → Event
tag doc kind piece content = event kind piece content (name_len (part doc content.from content.to))

-- "Start, name put on the stack"; 15: "name stack full", position "kept"
unfoldable pub opening : Reader → Depth → Event → Phase → Step
opening r capacity e next =
    pick (ltb r.depth.0 capacity.0)
    (told (with_depth r (further r.depth)) e next)
    (stopped r Error.NameStackFull (at e.piece.from) (span e.piece.from e.piece.from))

-- "Ending `/>`: Empty, or with `expand_empty_elements` Start, name put on the stack, phase InsideEmpty. Otherwise Start, name put on the stack. Content lies
-- between `<` and `/>` or `>`"
unfoldable pub emit_start : List ℕ → Reader → Depth → Span → Step
emit_start doc r capacity piece =
    pick (slashed doc piece)
    (pick r.settings.expand_empty_elements
    (opening r capacity (tag doc Kind.Start piece (inner piece 1 2)) Phase.InsideEmpty)
    (told r (tag doc Kind.Empty piece (inner piece 1 2)) Phase.InsideText))
    (opening r capacity (tag doc Kind.Start piece (inner piece 1 1)) Phase.InsideText)
