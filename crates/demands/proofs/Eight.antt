-- What the ninth setting adds to a call, and no more: with it off every answer is that of the call with eight settings, and with it on every answer but 18, which comes
-- exactly where that call gives Eof and the end is refused. Any document, any lent stack, any state. Assumes nothing.
use Prim.Native.Nat.{ℕ}
use mathlib.Core.Path.{◌≡◌, refl, sym, ap, ◌∙◌}
use mathlib.Core.Bool.{Bool, true, false}
use mathlib.Core.List.{List}
use mathlib.Core.Logic.{◌↔◌}
use native.Mathlib.Omega.{arith}
use lib.ListN.{length, drop}
use lib.Dec.{eqb, ltb}
use borrow.Author.Tests.{eqb-true}
use Rattle.ground.specs.Choose.{pick}
use Rattle.ground.specs.Equal.{begins}
use Rattle.ground.proofs.Choices.{pick_cases, clash}
use Rattle.utf8.specs.Utf8.{check, by_utf8}
use Rattle.utf8.specs.declared.Utf8.{Utf8}
use Rattle.parser.specs.First.{by_first}
use Rattle.parser.specs.declared.first.Found.{Found}
use Rattle.parser.specs.Hyphens.{pair_found}
use Rattle.state.specs.declared.place.Depth.{Depth}
use Rattle.state.specs.declared.place.Position.{Position}
use Rattle.state.specs.declared.place.Span.{Span}
use Rattle.state.specs.declared.answer.Kind.{Kind}
use Rattle.state.specs.declared.answer.Error.{Error}
use Rattle.state.specs.declared.answer.Event.{Event}
use Rattle.state.specs.declared.answer.Answer.{Answer}
use Rattle.state.specs.declared.run.Phase.{Phase}
use Rattle.state.specs.declared.run.Reader.{Reader}
use Rattle.state.specs.declared.run.Step.{Step}
use Rattle.state.specs.Limits.{capacity}
use Rattle.state.specs.Place.{at, depth_of, size, inner}
use Rattle.state.specs.Values.{kind_number, values_of}
use Rattle.state.specs.Make.{moved, with_depth, marked, told, ended, refused, stopped, refuses_end, ending, bad_state}
use Rattle.state.proofs.Refused.{not_asked}
use Rattle.emit.specs.Text.{text_content, emit_text, emit_last_text}
use Rattle.emit.specs.Reference.{emit_ref, emit_dangling}
use Rattle.emit.specs.Bang.{comment_opener, cdata_opener, bang_event, checked_comment, emit_comment, emit_cdata}
use Rattle.emit.specs.Question.{emit_question_mark}
use Rattle.emit.specs.End.{closing_name, end_event, unmatched, differs, matched, emit_end, close_expanded_empty}
use Rattle.emit.specs.Start.{slashed, opening, emit_start}
use Rattle.reader.specs.declared.piece.Shape.{Shape}
use Rattle.reader.specs.declared.piece.Cut.{Cut}
use Rattle.reader.specs.Names.{latest, written}
use Rattle.reader.specs.Sound.{is_in_place, in_place_in, sound}
use Rattle.reader.specs.Step.{emitted_as, emitted, checked, taken, skipped, step_text, step_in, step_phase, step}
use Rattle.reader.proofs.Outside.{step_turn}
use Rattle.reader.proofs.Rooms.{any_state}
use Rattle.demands.specs.Answers.{is_eof, is_unclosed}
use Rattle.demands.specs.Eight.{eight, reader8, only8, emitted_as8, checked8, taken8, step_in8, step8}

-- ---- the same but for the ninth setting and the mark

pub record Same (s b : Step) : Type 0 where
  pub only : only8 s ≡ only8 b

picked : (t : Bool) {s b u v : Step} → Same s b → Same u v → Same (pick t s u) (pick t b v)
picked true e f = e
picked false e f = f

module _ (r : Reader) where
  -- the reader with eight settings and no mark
  abbrev q : Reader
  q = reader8 r

  told_same : (e : Event) (next : Phase) → Same (told r e next) (told q e next)
  unfolding only8 reader8 eight told moved
  told_same e next = record { only = refl }

  refused_same : (e : Error) (place : Position) (piece : Span) (next : Phase) → Same (refused r e place piece next) (refused q e place piece next)
  unfolding only8 reader8 eight refused moved
  refused_same e place piece next = record { only = refl }

  stopped_same : (e : Error) (place : Position) (piece : Span) → Same (stopped r e place piece) (stopped q e place piece)
  unfolding only8 reader8 eight stopped refused marked moved
  stopped_same e place piece = record { only = refl }

  ended_same : (piece : Span) → Same (ended r piece) (ended q piece)
  unfolding only8 reader8 eight ended told marked moved
  ended_same piece = record { only = refl }

  bad_same : Same (bad_state r) (bad_state q)
  unfolding only8 reader8 eight bad_state
  bad_same = record { only = refl }

  -- with another count of open names
  told_deep : (d : Depth) (e : Event) (next : Phase) → Same (told (with_depth r d) e next) (told (with_depth q d) e next)
  unfolding only8 reader8 eight told moved with_depth
  told_deep d e next = record { only = refl }

  refused_deep : (d : Depth) (e : Error) (place : Position) (piece : Span) (next : Phase)
      → Same (refused (with_depth r d) e place piece next) (refused (with_depth q d) e place piece next)
  unfolding only8 reader8 eight refused moved with_depth
  refused_deep d e place piece next = record { only = refl }

  -- ---- what a piece becomes

  dangling_same : (piece : Span) (next : Phase) → Same (emit_dangling r piece next) (emit_dangling q piece next)
  unfolding emit_dangling reader8 eight
  dangling_same piece next = picked r.settings.allow_dangling_amp (told_same _ next) (refused_same _ _ piece next)

  ref_same : (piece : Span) → Same (emit_ref r piece) (emit_ref q piece)
  unfolding emit_ref
  ref_same piece = told_same _ Phase.InsideText

  module _ (doc : List ℕ) (piece : Span) where
    text_same : (next : Phase) → Same (emit_text doc r piece next) (emit_text doc q piece next)
    unfolding emit_text text_content reader8 eight
    text_same next = told_same _ next

    by_first_lem : (f : Found) (g h : ℕ → Step) (x y : Step) → ((p : ℕ) → Same (g p) (h p)) → Same x y → Same (by_first f g x) (by_first f h y)
    by_first_lem (Found.At p) g h x y e f = e p
    by_first_lem Found.End g h x y e f = f

    hyphens_same : (content : Span) → Same (checked_comment doc r piece content) (checked_comment doc q piece content)
    unfolding checked_comment bang_event
    hyphens_same content =
        by_first_lem (pair_found doc content.from) _ _ _ _
        (λ p. picked (ltb content.to p) (told_same _ Phase.InsideText) (refused_same _ _ piece Phase.InsideText))
        (told_same _ Phase.InsideText)

    comment_same : Same (emit_comment doc r piece) (emit_comment doc q piece)
    unfolding emit_comment bang_event reader8 eight
    comment_same =
        picked (begins (drop piece.from doc) comment_opener)
        (picked r.settings.check_comments (hyphens_same (inner piece 4 3)) (told_same _ Phase.InsideText))
        (stopped_same _ _ piece)

    cdata_same : Same (emit_cdata doc r piece) (emit_cdata doc q piece)
    unfolding emit_cdata bang_event
    cdata_same = picked (begins (drop piece.from doc) cdata_opener) (told_same _ Phase.InsideText) (stopped_same _ _ piece)

    question_same : Same (emit_question_mark doc r piece) (emit_question_mark doc q piece)
    unfolding emit_question_mark
    question_same = picked (ltb (size piece) 4) (stopped_same _ _ piece) (told_same _ Phase.InsideText)

    end_same : (last : Span) → Same (emit_end doc r last piece) (emit_end doc q last piece)
    unfolding emit_end unmatched matched differs closing_name end_event with_depth reader8 eight
    end_same last =
        picked (eqb r.depth.0 0)
        (picked r.settings.allow_unmatched_ends (told_same _ Phase.InsideText) (refused_same _ _ piece Phase.InsideText))
        (picked (differs doc r.settings last (closing_name doc r.settings (inner piece 2 1))) (refused_deep _ _ _ piece Phase.InsideText) (told_deep _ _ Phase.InsideText))

    opening_same : (cap : Depth) (e : Event) (next : Phase) → Same (opening r cap e next) (opening q cap e next)
    unfolding opening reader8 eight
    opening_same cap e next = picked (ltb r.depth.0 cap.0) (told_deep _ e next) (stopped_same _ _ _)

    start_same : (cap : Depth) → Same (emit_start doc r cap piece) (emit_start doc q cap piece)
    unfolding emit_start reader8 eight
    start_same cap =
        picked (slashed doc piece)
        (picked r.settings.expand_empty_elements (opening_same cap _ Phase.InsideEmpty) (told_same _ Phase.InsideText))
        (opening_same cap _ Phase.InsideText)

  empty_same : (last : Span) → Same (close_expanded_empty r last) (close_expanded_empty q last)
  unfolding close_expanded_empty end_event reader8 eight
  empty_same last = told_deep _ _ Phase.InsideText

-- ---- the same, or 18 for Eof

module _ (r : Reader) (last : Span) where
  -- a call, and that with eight settings
  pub data Adds (s b : Step) : Type 0 where
    same : Same s b → Adds s b
    instead : (piece : Span) → refuses_end r ≡ true → s ≡ stopped r Error.UnclosedElements (at last.from) piece → b ≡ ended (reader8 r) piece → Adds s b

  adds_picked : (t : Bool) {s b u v : Step} → Adds s b → Adds u v → Adds (pick t s u) (pick t b v)
  adds_picked true e f = e
  adds_picked false e f = f

  ending_adds : (piece : Span) → Adds (ending r last piece) (ended (reader8 r) piece)
  unfolding ending
  ending_adds piece =
      pick_cases (λ (s : Step). Adds s (ended (reader8 r) piece)) (refuses_end r) _ _ (λ e. instead piece e refl refl) (λ _. same (ended_same r piece))

  utf8_adds : (u : Utf8) {s b : Step} (f g : ℕ → Step) → Adds s b → ((p : ℕ) → Same (f p) (g p)) → Adds (by_utf8 u s f) (by_utf8 u b g)
  utf8_adds Utf8.WellFormed f g e h = e
  utf8_adds (Utf8.IllFormed p) f g e h = same (h p)

  module _ (doc : List ℕ) (cap : Depth) where
    as_adds : (shape : Shape) (piece : Span) (next : Phase) → Adds (emitted_as doc r last cap shape piece next) (emitted_as8 doc (reader8 r) last cap shape piece next)
    unfolding emit_last_text text_content reader8 eight
    as_adds Shape.Text piece next = same (text_same r doc piece next)
    as_adds Shape.LastText piece next =
        adds_picked (eqb (size (text_content doc r.settings piece)) 0) (ending_adds piece) (same (text_same r doc piece Phase.Done))
    as_adds Shape.GeneralRef piece next = same (ref_same r piece)
    as_adds Shape.Dangling piece next = same (dangling_same r piece next)
    as_adds Shape.Comment piece next = same (comment_same r doc piece)
    as_adds Shape.CData piece next = same (cdata_same r doc piece)
    as_adds Shape.QuestionMark piece next = same (question_same r doc piece)
    as_adds Shape.End piece next = same (end_same r doc piece last)
    as_adds Shape.Start piece next = same (start_same r doc piece cap)

    taken_adds : (c : Cut) → Adds (taken doc r last cap c) (taken8 doc (reader8 r) last cap c)
    unfolding taken taken8 checked checked8 emitted
    taken_adds (Cut.Piece p) = utf8_adds (check p.span.from _) _ _ (as_adds p.shape p.span p.next) (λ ill. stopped_same r _ _ p.span)
    taken_adds (Cut.Stop x) = same (stopped_same r x.error x.place x.piece)

    in_adds : (p : Phase) → Adds (step_in doc r last cap p) (step_in8 doc (reader8 r) last cap p)
    unfolding step_text skipped reader8 eight
    in_adds Phase.Init = taken_adds _
    in_adds Phase.InsideText = taken_adds _
    in_adds Phase.InsideMarkup = taken_adds _
    in_adds Phase.InsideRef = taken_adds _
    in_adds Phase.InsideEmpty = same (empty_same r last)
    in_adds Phase.Done = ending_adds _

module _ (doc stack : List ℕ) (r : Reader) where
  -- the mark and the ninth setting cause no 17
  place_same : (p : Phase) → in_place_in doc (reader8 r) p ≡ in_place_in doc r p
  unfolding reader8
  place_same Phase.Init = refl
  place_same Phase.InsideText = refl
  place_same Phase.InsideMarkup = refl
  place_same Phase.InsideRef = refl
  place_same Phase.InsideEmpty = refl
  place_same Phase.Done = refl

  -- THEOREM: "the mark never causes 17", nor does the ninth setting
  pub neither_causes_17 : sound doc stack (reader8 r) ≡ sound doc stack r
  unfolding sound is_in_place reader8
  neither_causes_17 = rw (place_same r.phase) refl

  adds : Adds r (latest stack r.depth.0) (step doc stack r) (step8 doc stack r)
  unfolding step step_phase step8
  adds =
      rw neither_causes_17
      (adds_picked r (latest stack r.depth.0) (sound doc stack r)
      (in_adds r (latest stack r.depth.0) doc (depth_of (capacity (length stack))) r.phase)
      (same (bad_same r)))

  -- THEOREM: with the ninth setting off every answer is that of the call with eight settings, and the reader that is left is, in all but the mark and that setting
  pub with_the_setting_off_a_call_is_that_of_eight_settings : r.settings.check_open_names ≡ false → only8 (step doc stack r) ≡ only8 (step8 doc stack r)
  with_the_setting_off_a_call_is_that_of_eight_settings off = by adds
    where
      by : Adds r (latest stack r.depth.0) (step doc stack r) (step8 doc stack r) → only8 (step doc stack r) ≡ only8 (step8 doc stack r)
      by (same e) = e.only
      by (instead piece on e f) = clash _ on (not_asked r off)

-- ---- 18

module _ (doc stack : List ℕ) (r : Reader) where
  abbrev answer : Answer
  answer = (step doc stack r).answer

  -- what the call with eight settings answers there
  abbrev answer8 : Answer
  answer8 = (step8 doc stack r).answer

  open_at_18 : (values_of answer).number ≡ 18 → refuses_end r ≡ true
  unfolding bad_state
  open_at_18 =
      any_state doc stack r (λ (s : Step). (values_of s.answer).number ≡ 18 → refuses_end r ≡ true)
      (λ e n. ((step_turn doc stack r e).finish.unclosed n).1)
      (λ n. absurd (omega arith))

  none_at_eof : (values_of answer).kind ≡ kind_number Kind.Eof → refuses_end r ≡ false
  unfolding bad_state
  none_at_eof =
      any_state doc stack r (λ (s : Step). (values_of s.answer).kind ≡ kind_number Kind.Eof → refuses_end r ≡ false)
      (λ e k. ((step_turn doc stack r e).finish.over k).1)
      (λ k. absurd (omega arith))

same_answer : {s b : Step} → Same s b → s.answer ≡ b.answer
unfolding only8
same_answer e = ap (λ (x : Step). x.answer) e.only

eof_told : (r : Reader) (piece : Span) {s : Step} → s ≡ ended r piece → is_eof s.answer ≡ true
unfolding ended told
eof_told r piece e = ap (λ (x : Step). is_eof x.answer) e

unclosed_told : (r : Reader) (place : Position) (piece : Span) {s : Step} → s ≡ stopped r Error.UnclosedElements place piece → is_unclosed s.answer ≡ true
unfolding stopped refused
unclosed_told r place piece e = ap (λ (x : Step). is_unclosed x.answer) e

-- the call with eight settings has no 18
no_18_with_eight : (doc stack : List ℕ) (r : Reader) → (values_of (step8 doc stack r).answer).number ≡ 18 → ⊥
unfolding only8 step8 reader8 eight
no_18_with_eight doc stack r n =
    let off = not_asked (reader8 r) refl in
    let told = ap (λ (s : Step). (values_of s.answer).number) (with_the_setting_off_a_call_is_that_of_eight_settings doc stack (reader8 r) refl) in
    clash _ (open_at_18 doc stack (reader8 r) (told ∙ n)) off

module _ (doc stack : List ℕ) (r : Reader) where
  abbrev last : Span
  last = latest stack r.depth.0

  -- 18 stands for an Eof
  pub record Instead : Type 0 where
    pub piece : Span
    pub unclosed : refuses_end r ≡ true
    pub ours : step doc stack r ≡ stopped r Error.UnclosedElements (at last.from) piece
    pub theirs : step8 doc stack r ≡ ended (reader8 r) piece

  instead_of : is_unclosed (answer doc stack r) ≡ true → Instead
  instead_of u = by (adds doc stack r)
    where
      by : Adds r last (step doc stack r) (step8 doc stack r) → Instead
      by (same e) =
          absurd (no_18_with_eight doc stack r (ap (λ (a : Answer). (values_of a).number) (sym (same_answer e)) ∙ eqb-true (values_of (answer doc stack r)).number 18 u))
      by (instead piece on e f) = record { piece = piece; unclosed = on; ours = e; theirs = f }

  due_there : is_eof (answer8 doc stack r) ≡ true → refuses_end r ≡ true → is_unclosed (answer doc stack r) ≡ true
  due_there t on = by (adds doc stack r)
    where
      by : Adds r last (step doc stack r) (step8 doc stack r) → is_unclosed (answer doc stack r) ≡ true
      by (same e) =
          let k = ap (λ (a : Answer). (values_of a).kind) (same_answer e) ∙ eqb-true (values_of (answer8 doc stack r)).kind (kind_number Kind.Eof) t in
          clash _ on (none_at_eof doc stack r k)
      by (instead piece on e f) = unclosed_told r _ piece e

  -- THEOREM: "18 is given exactly when Eof would be, the setting is on, a name is open and the mark is off"
  pub eighteen_exactly_when : (is_unclosed (answer doc stack r) ≡ true) ↔ ((is_eof (answer8 doc stack r) ≡ true) × (refuses_end r ≡ true))
  eighteen_exactly_when = (λ u. let i = instead_of u in (eof_told (reader8 r) i.piece i.theirs, i.unclosed), λ p. due_there p.0 p.1)

  -- THEOREM: with any settings, every other answer is that of the call with eight settings, and the reader that is left is, in all but the ninth setting and the mark
  pub every_other_answer_is_that_of_eight_settings : is_unclosed (answer doc stack r) ≡ false → only8 (step doc stack r) ≡ only8 (step8 doc stack r)
  every_other_answer_is_that_of_eight_settings u = by (adds doc stack r)
    where
      by : Adds r last (step doc stack r) (step8 doc stack r) → only8 (step doc stack r) ≡ only8 (step8 doc stack r)
      by (same e) = e.only
      by (instead piece on e f) = clash _ (unclosed_told r _ piece e) u

  -- THEOREM: "Its place is the start of the latest open name; piece and position are those of the Eof it replaces, names and stack are kept and the phase is Done"
  pub eighteen_stands_for_that_eof : is_unclosed (answer doc stack r) ≡ true
      → ((values_of (answer doc stack r)).place ≡ last.from)
      × ((values_of (answer doc stack r)).piece ≡ (values_of (answer8 doc stack r)).piece)
      × ((step doc stack r).reader.position ≡ (step8 doc stack r).reader.position)
      × ((step doc stack r).reader.depth ≡ r.depth)
      × (written stack r.depth.0 (answer doc stack r) ≡ stack)
      × ((step doc stack r).reader.phase ≡ Phase.Done)
  unfolding stopped refused ended told marked moved reader8 written
  eighteen_stands_for_that_eof u =
      let i = instead_of u in (
        ap (λ (s : Step). (values_of s.answer).place) i.ours,
        ap (λ (s : Step). (values_of s.answer).piece) i.ours ∙ sym (ap (λ (s : Step). (values_of s.answer).piece) i.theirs),
        ap (λ (s : Step). s.reader.position) i.ours ∙ sym (ap (λ (s : Step). s.reader.position) i.theirs),
        ap (λ (s : Step). s.reader.depth) i.ours,
        ap (λ (s : Step). written stack r.depth.0 s.answer) i.ours,
        ap (λ (s : Step). s.reader.phase) i.ours,
      )
