-- Text (document 01, "Steps").
use Rattle.std.specs.Prelude.{ℕ, ◌+◌, List, eqb}
use Rattle.ground.specs.Choose.{pick}
use Rattle.ground.specs.Part.{part}
use Rattle.white.specs.White.{kept}
use Rattle.state.specs.declared.place.Span.{Span}
use Rattle.state.specs.declared.config.Config.{Config}
use Rattle.state.specs.declared.answer.Kind.{Kind}
use Rattle.state.specs.declared.run.Phase.{Phase}
use Rattle.state.specs.declared.run.Reader.{Reader}
use Rattle.state.specs.declared.run.Step.{Step}
use Rattle.state.specs.Place.{span, size}
use Rattle.state.specs.Make.{event, told, ending}

-- without the white space at its end
abbrev pub trimmed : List ℕ → Span → Span
trimmed doc s = span s.from (s.from + kept (part doc s.from s.to))

-- "`trim_text_end` cuts the content only"
unfoldable pub text_content : List ℕ → Config → Span → Span
text_content doc c piece = pick c.trim_text_end (trimmed doc piece) piece

-- "empty content is still Text"
unfoldable pub emit_text : List ℕ → Reader → Span → Phase → Step
emit_text doc r piece next = told r (event Kind.Text piece (text_content doc r.settings piece) 0) next

-- "but at the end of input it is Eof, with the same piece and its content empty at the piece's start", or 18
unfoldable pub emit_last_text : List ℕ → Reader → Span → Span → Step
emit_last_text doc r last piece =
    pick (eqb (size (text_content doc r.settings piece)) 0) (ending r last piece) (emit_text doc r piece Phase.Done)
