-- The statements of the demands, computed on the examples of demand 3, and that on the bytes of a document, on the sheets: with a wrong definition of a call
-- that a clause speaks of, the two sides differ. Assumes nothing.
use mathlib.Core.Path.{◌≡◌, refl, sym, ◌∙◌}
use mathlib.Core.List.{map}
use Rattle.state.specs.Make.{bad_state}
use Rattle.demands.specs.Answers.{count, one_is}
use Rattle.demands.specs.Open.{left_open}
use Rattle.demands.specs.Laid.{layout, pieces_in}
use Rattle.demands.specs.Openings.{openings}
use Rattle.demands.specs.Sheets.{ran, page_of, sheets}
use Rattle.ground.specs.Equal.{begins, same}
use Rattle.white.specs.White.{until, kept_of}
use Rattle.utf8.specs.Utf8.{in_ranges, row_len, check_from}
use Rattle.parser.specs.Machine.{feed}
use Rattle.state.specs.Limits.{capacity}
use Rattle.state.specs.Place.{inner}
use Rattle.state.specs.Make.{fresh, moved, with_depth, marked, told, ended, refused, stopped, refuses_end, ending}
use Rattle.emit.specs.Text.{text_content, emit_text, emit_last_text}
use Rattle.emit.specs.Reference.{emit_ref, emit_dangling}
use Rattle.emit.specs.Bang.{bang_event, checked_comment, emit_comment, emit_cdata}
use Rattle.emit.specs.Question.{is_decl, question_event, emit_question_mark}
use Rattle.emit.specs.End.{closing_name, end_event, unmatched, differs, matched, emit_end, close_expanded_empty}
use Rattle.emit.specs.Start.{slashed, tag, opening, emit_start}
use Rattle.reader.specs.Cut.{whole, stop, phase_at, cut_text, cut_ref, unclosed_tag, cut_tag, cut_marked, cut_bang, cut_question, cut_markup, cut_next}
use Rattle.reader.specs.Names.{latest, pushed, written}
use Rattle.reader.specs.Sound.{is_in_place, sound}
use Rattle.reader.specs.Step.{emitted, checked, taken, skipped, step_text, begin, step_phase, step}
use Rattle.demands.specs.Run.{call, run}
use Rattle.demands.specs.Open.{entries}
use Rattle.statements.specs.Sides.{left, right, sides, ends, wanted}
use Rattle.statements.specs.Sets.{places, laid_side, asked_side}
use Rattle.statements.proofs.Settled.{number, flag, phase, slots, settings, world, settled_from, settled, all_settled}

-- at worlds that are worked out
settled_hold : map (settled left) openings ≡ map (settled right) openings
unfolding settled settled_from world number flag phase slots settings left_open count one_is bad_state openings entries close_expanded_empty run call step step_phase step_text begin skipped taken checked emitted sound is_in_place latest pushed written cut_next cut_markup cut_question cut_bang cut_marked cut_tag unclosed_tag cut_ref cut_text phase_at whole stop emit_start opening tag slashed emit_end matched differs unmatched end_event closing_name emit_question_mark question_event is_decl emit_cdata emit_comment bang_event emit_dangling emit_ref emit_last_text emit_text text_content stopped refused ending refuses_end ended told marked with_depth moved fresh inner capacity feed check_from row_len in_ranges kept_of until begins same
settled_hold = refl

-- THEOREM
pub clauses_hold : map (sides left) openings ≡ map (sides right) openings
clauses_hold = sym (all_settled left openings) ∙ settled_hold ∙ all_settled right openings

-- THEOREM
pub end_comes : map ends openings ≡ map wanted openings
unfolding ends wanted bad_state openings entries close_expanded_empty run call step step_phase step_text begin skipped taken checked emitted sound is_in_place latest pushed written cut_next cut_markup cut_question cut_bang cut_marked cut_tag unclosed_tag cut_ref cut_text phase_at whole stop emit_start opening tag slashed emit_end matched differs unmatched end_event closing_name emit_question_mark question_event is_decl emit_cdata emit_comment bang_event emit_dangling emit_ref emit_last_text emit_text text_content stopped refused ending refuses_end ended told marked with_depth moved fresh inner capacity feed check_from row_len in_ranges kept_of until begins same
end_comes = refl

-- THEOREM: every byte before the position is in one part, the parts are what they are called, and the pieces are those of the answers
pub bytes_are_set_once : map laid_side sheets ≡ map asked_side sheets
unfolding laid_side asked_side places page_of ran sheets layout pieces_in count bad_state close_expanded_empty run call step step_phase step_text begin skipped taken checked emitted sound is_in_place latest pushed written cut_next cut_markup cut_question cut_bang cut_marked cut_tag unclosed_tag cut_ref cut_text phase_at whole stop emit_start opening tag slashed emit_end matched differs unmatched end_event closing_name emit_question_mark question_event is_decl emit_cdata emit_comment checked_comment bang_event emit_dangling emit_ref emit_last_text emit_text text_content stopped refused ending refuses_end ended told marked with_depth moved fresh inner capacity feed check_from row_len in_ranges kept_of until begins same
bytes_are_set_once = refl
