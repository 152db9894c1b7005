-- References (document 01, "Steps").
use Rattle.ground.specs.Choose.{pick}
use Rattle.state.specs.declared.place.Span.{Span}
use Rattle.state.specs.declared.answer.Kind.{Kind}
use Rattle.state.specs.declared.answer.Error.{Error}
use Rattle.state.specs.declared.run.Phase.{Phase}
use Rattle.state.specs.declared.run.Reader.{Reader}
use Rattle.state.specs.declared.run.Step.{Step}
use Rattle.state.specs.Place.{at, inner}
use Rattle.state.specs.Make.{event, told, refused}

-- "`;` is included: GeneralRef, content between, phase text"
unfoldable pub emit_ref : Reader → Span → Step
emit_ref r piece = told r (event Kind.GeneralRef piece (inner piece 1 1) 0) Phase.InsideText

-- "with `allow_dangling_amp` it is Text, untrimmed, else 12"
unfoldable pub emit_dangling : Reader → Span → Phase → Step
emit_dangling r piece next =
    pick r.settings.allow_dangling_amp
    (told r (event Kind.Text piece piece 0) next)
    (refused r Error.UnclosedReference (at piece.from) piece next)
