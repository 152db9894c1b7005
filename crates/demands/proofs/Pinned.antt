-- The promise of a call leaves one answer, one reader and one stack, and shuts out the versions that document 01 names ("Pinning the answers").
-- Assumes nothing.
use Prim.Native.Nat.{ℕ}
use native.Mathlib.Omega.{arith}
use mathlib.Core.Path.{◌≡◌, refl, sym, ap, ◌∙◌}
use mathlib.Core.List.{List}
use lib.ListN.{get_or}
use Rattle.ground.specs.Equal.{begins}
use Rattle.white.specs.White.{until}
use Rattle.utf8.specs.Utf8.{in_ranges, row_len, check_from}
use Rattle.parser.specs.Machine.{feed}
use Rattle.state.specs.declared.answer.Kind.{Kind}
use Rattle.state.specs.declared.answer.Answer.{Answer}
use Rattle.state.specs.declared.answer.Event.{Event}
use Rattle.state.specs.declared.answer.Refusal.{Refusal}
use Rattle.state.specs.declared.answer.Values.{Values}
use Rattle.state.specs.declared.run.Reader.{Reader}
use Rattle.state.specs.declared.run.Step.{Step}
use Rattle.state.specs.Limits.{capacity}
use Rattle.state.specs.Place.{inner}
use Rattle.state.specs.Settings.{defaults}
use Rattle.state.specs.Values.{values_of}
use Rattle.state.specs.Make.{fresh, moved, with_depth, told}
use Rattle.emit.specs.Start.{slashed, tag, opening, emit_start}
use Rattle.reader.specs.Cut.{whole, cut_tag, cut_markup, cut_next}
use Rattle.reader.specs.Names.{latest, pushed, written}
use Rattle.reader.specs.Sound.{is_in_place, sound}
use Rattle.reader.specs.Step.{emitted, checked, taken, skipped, step_text, begin, step_phase, step, Stepped}
use Rattle.demands.specs.Table.{event_row, slots64, timetable}

-- THEOREM: a second answer and a second stack that meet the promise are the first
pub only_one : (doc stack : List ℕ) (r : Reader) (s s' : Step) (after after' : List ℕ)
    → Stepped doc stack r s after → Stepped doc stack r s' after' → (s ≡ s') × (after ≡ after')
only_one doc stack r s s' after after' p q = (p.outcome ∙ sym q.outcome, p.slots ∙ sym q.slots)

-- ---- the first call on P2's document

abbrev first : Reader
first = fresh 22 defaults

first_step_lem : (values_of (step timetable slots64 first).answer ≡ event_row Kind.Start 0 3 1 2 1) × ((step timetable slots64 first).reader.position.0 ≡ 3)
unfolding step step_phase step_text begin skipped taken checked emitted sound is_in_place latest cut_next cut_markup cut_tag whole emit_start opening tag slashed told with_depth moved fresh inner capacity feed check_from row_len in_ranges until begins
first_step_lem = (refl, refl)

first_stack : get_or (written slots64 first.depth.0 (step timetable slots64 first).answer) 1 0 ≡ 2
unfolding written pushed step step_phase step_text begin skipped taken checked emitted sound is_in_place latest cut_next cut_markup cut_tag whole emit_start opening tag slashed told with_depth moved fresh inner capacity feed check_from row_len in_ranges until begins
first_stack = refl

first_at : first.position.0 ≡ 0
unfolding fresh
first_at = refl

-- s and `after` meet the promise of that call
module _ (s : Step) (after : List ℕ) (p : Stepped timetable slots64 first s after) where
  says : values_of s.answer ≡ event_row Kind.Start 0 3 1 2 1
  says = ap (λ (x : Step). values_of x.answer) p.outcome ∙ first_step_lem.0

  stands : s.reader.position.0 ≡ 3
  stands = ap (λ (x : Step). x.reader.position.0) p.outcome ∙ first_step_lem.1

  -- THEOREM: it is not refused
  pub not_refused : (x : Refusal) → s.answer ≡ Answer.Refused x → ⊥
  not_refused x e = let z : ◌≡◌ {A = ℕ} 0 1 = ap (λ (a : Answer). (values_of a).kind) (sym e) ∙ ap (λ (v : Values). v.kind) says in omega arith

  -- THEOREM: it is not end of file
  pub not_eof : (x : Event) → s.answer ≡ Answer.Event x → x.kind ≡ Kind.Eof → ⊥
  not_eof x e k =
      let z : (values_of (Answer.Event x)).kind ≡ 1 = ap (λ (a : Answer). (values_of a).kind) (sym e) ∙ ap (λ (v : Values). v.kind) says in
      let y : ◌≡◌ {A = ℕ} 10 1 = rw k at z in
      omega arith

  -- THEOREM: the reader is not left as it was
  pub not_unmoved : s.reader ≡ first → ⊥
  not_unmoved e = let z : ◌≡◌ {A = ℕ} 3 0 = sym stands ∙ ap (λ (r : Reader). r.position.0) e ∙ first_at in omega arith

  -- THEOREM: nor at the document's end
  pub not_at_the_end : s.reader.position.0 ≡ 22 → ⊥
  not_at_the_end e = let z : ◌≡◌ {A = ℕ} 3 22 = sym stands ∙ e in omega arith

  -- THEOREM: nor is the stack left as it was
  pub not_unwritten : after ≡ slots64 → ⊥
  not_unwritten e =
      let w : get_or after 1 0 ≡ 2 = ap (λ (l : List ℕ). get_or l 1 0) p.slots ∙ first_stack in
      let z : ◌≡◌ {A = ℕ} 0 2 = ap (λ (l : List ℕ). get_or l 1 0) (sym e) ∙ w in
      omega arith
