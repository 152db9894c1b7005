-- The worked examples hold of the definition of a call: one claim about each table, which antt computes. Assumes nothing.
use mathlib.Core.Path.{◌≡◌, refl}
use mathlib.Core.List.{map}
use Rattle.ground.specs.Equal.{begins, same}
use Rattle.white.specs.White.{until, kept_of}
use Rattle.utf8.specs.Utf8.{in_ranges, row_len, check_from}
use Rattle.parser.specs.Machine.{feed}
use Rattle.state.specs.Limits.{capacity}
use Rattle.state.specs.Place.{inner}
use Rattle.state.specs.Make.{fresh, moved, with_depth, marked, told, ended, refused, stopped, refuses_end, ending}
use Rattle.emit.specs.Text.{text_content, emit_text, emit_last_text}
use Rattle.emit.specs.Reference.{emit_ref, emit_dangling}
use Rattle.emit.specs.Bang.{bang_event, checked_comment, emit_comment, emit_cdata}
use Rattle.emit.specs.Question.{is_decl, question_event, emit_question_mark}
use Rattle.emit.specs.End.{closing_name, end_event, unmatched, differs, matched, emit_end, close_expanded_empty}
use Rattle.emit.specs.Start.{slashed, tag, opening, emit_start}
use Rattle.reader.specs.Cut.{whole, stop, phase_at, cut_text, cut_ref, unclosed_tag, cut_tag, cut_marked, cut_bang, cut_question, cut_markup, cut_next}
use Rattle.reader.specs.Names.{latest, pushed, written}
use Rattle.reader.specs.Sound.{is_in_place, sound}
use Rattle.reader.specs.Step.{emitted, checked, taken, skipped, step_text, begin, step_phase, step}
use Rattle.demands.specs.Run.{call, run}
use Rattle.demands.specs.Open.{entries}
use Rattle.demands.specs.Openings.{turns_from, turns_of, listed, openings}
use Rattle.demands.specs.Laid.{layout}
use Rattle.demands.specs.Sheets.{ran, page_of, page_listed, sheets}
use Rattle.demands.specs.Table.{shown, given, wanted, table}

-- THEOREM: what the definition gives for each row of the table is what the row has
pub worked : map given table ≡ map wanted table
unfolding given wanted shown table run call step step_phase step_text begin skipped taken checked emitted sound is_in_place latest pushed written cut_next cut_markup cut_question cut_bang cut_marked cut_tag unclosed_tag cut_ref cut_text phase_at whole stop emit_start opening tag slashed emit_end matched differs unmatched end_event closing_name emit_question_mark question_event is_decl emit_cdata emit_comment bang_event emit_dangling emit_ref emit_last_text emit_text text_content stopped refused ending refuses_end ended told marked with_depth moved fresh inner capacity feed check_from row_len in_ranges kept_of until begins same
worked = refl

-- THEOREM: the names that are open after each call of the examples of demand 3 are those listed
pub openings_worked : map turns_of openings ≡ map listed openings
unfolding turns_of listed turns_from openings entries close_expanded_empty run call step step_phase step_text begin skipped taken checked emitted sound is_in_place latest pushed written cut_next cut_markup cut_question cut_bang cut_marked cut_tag unclosed_tag cut_ref cut_text phase_at whole stop emit_start opening tag slashed emit_end matched differs unmatched end_event closing_name emit_question_mark question_event is_decl emit_cdata emit_comment bang_event emit_dangling emit_ref emit_last_text emit_text text_content stopped refused ending refuses_end ended told marked with_depth moved fresh inner capacity feed check_from row_len in_ranges kept_of until begins same
openings_worked = refl

-- THEOREM: the layout of each sheet is the one listed
pub sheets_worked : map page_of sheets ≡ map page_listed sheets
unfolding page_of page_listed ran sheets layout close_expanded_empty run call step step_phase step_text begin skipped taken checked emitted sound is_in_place latest pushed written cut_next cut_markup cut_question cut_bang cut_marked cut_tag unclosed_tag cut_ref cut_text phase_at whole stop emit_start opening tag slashed emit_end matched differs unmatched end_event closing_name emit_question_mark question_event is_decl emit_cdata emit_comment checked_comment bang_event emit_dangling emit_ref emit_last_text emit_text text_content stopped refused ending refuses_end ended told marked with_depth moved fresh inner capacity feed check_from row_len in_ranges kept_of until begins same
sheets_worked = refl
