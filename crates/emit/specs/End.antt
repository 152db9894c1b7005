-- Closing tags, and the ends of expanded empty elements (document 01, "Steps").
use Rattle.std.specs.Prelude.{ℕ, List, Bool, false, not, eqb}
use Rattle.ground.specs.Choose.{pick}
use Rattle.ground.specs.Part.{part}
use Rattle.ground.specs.Equal.{same}
use Rattle.state.specs.declared.place.Span.{Span}
use Rattle.state.specs.declared.config.Config.{Config}
use Rattle.state.specs.declared.answer.Kind.{Kind}
use Rattle.state.specs.declared.answer.Error.{Error}
use Rattle.state.specs.declared.run.Phase.{Phase}
use Rattle.state.specs.declared.run.Reader.{Reader}
use Rattle.state.specs.declared.run.Step.{Step}
use Rattle.state.specs.Place.{at, span, size, fewer, inner}
use Rattle.state.specs.Make.{with_depth, event, told, refused}
use Rattle.emit.specs.Text.{trimmed}

-- "with trailing white space cut if trimming is on and something else is there"
unfoldable pub closing_name : List ℕ → Config → Span → Span
closing_name doc c content =
    pick c.trim_markup_names_in_closing_tags
    (pick (eqb (trimmed doc content).to content.from) content (trimmed doc content))
    content

-- "Content and name (name length the content's)"
unfoldable pub end_event : Reader → Span → Span → Step
end_event r piece name = told r (event Kind.End piece name (size name)) Phase.InsideText

-- "None open: 11, or End with `allow_unmatched_ends`"
unfoldable pub unmatched : Reader → Span → Span → Step
unmatched r piece name =
    pick r.settings.allow_unmatched_ends
    (end_event r piece name)
    (refused r (Error.UnmatchedEndTag name) (at piece.from) piece Phase.InsideText)

-- "with `check_end_names`, unequal bytes"
unfoldable pub differs : List ℕ → Config → Span → Span → Bool
differs doc c last name =
    pick c.check_end_names (not (same (part doc last.from last.to) (part doc name.from name.to))) false

-- "with `check_end_names`, unequal bytes give 10"
unfoldable pub matched : List ℕ → Reader → Span → Span → Span → Step
matched doc r last piece name =
    pick (differs doc r.settings last name)
    (refused r (Error.MismatchedEndTag last name) (at piece.from) piece Phase.InsideText)
    (end_event r piece name)

-- "between `</` and `>`"; "With a name open, take it away"
unfoldable pub emit_end : List ℕ → Reader → Span → Span → Step
emit_end doc r last piece =
    pick (eqb r.depth.0 0)
    (unmatched r piece (closing_name doc r.settings (inner piece 2 1)))
    (matched doc (with_depth r (fewer r.depth)) last piece (closing_name doc r.settings (inner piece 2 1)))

-- InsideEmpty: "End, piece empty at the position, content the open name, name length its length, the name taken away; next phase text"
unfoldable pub close_expanded_empty : Reader → Span → Step
close_expanded_empty r last = end_event (with_depth r (fewer r.depth)) (span r.position.0 r.position.0) last
