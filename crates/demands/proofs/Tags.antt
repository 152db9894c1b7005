-- The contents of Start and Empty, and their name lengths: of a call on any state, of a run, and with what `attributes` says of a content. Assumes nothing.
use Prim.Native.Nat.{ℕ}
use mathlib.Core.Path.{◌≡◌, refl, sym, ap, ◌∙◌}
use mathlib.Core.List.{List}
use mathlib.Core.Bool.{Bool, true, false}
use native.Mathlib.Omega.{arith}
use lib.ListN.{length, drop}
use lib.Dec.{eqb, ltb}
use Rattle.ground.specs.Choose.{pick}
use Rattle.ground.specs.Part.{part}
use Rattle.ground.specs.Equal.{begins}
use Rattle.ground.proofs.Choices.{clash}
use Rattle.white.specs.White.{name_len}
use Rattle.parser.specs.Hyphens.{pair_found}
use Rattle.parser.proofs.Cases.{first_cases}
use Rattle.utf8.specs.Utf8.{check}
use Rattle.state.specs.declared.place.Depth.{Depth}
use Rattle.state.specs.declared.place.Position.{Position}
use Rattle.state.specs.declared.place.Span.{Span}
use Rattle.state.specs.declared.config.Config.{Config}
use Rattle.state.specs.declared.answer.Kind.{Kind}
use Rattle.state.specs.declared.answer.Error.{Error}
use Rattle.state.specs.declared.answer.Event.{Event}
use Rattle.state.specs.declared.answer.Answer.{Answer}
use Rattle.state.specs.declared.run.Phase.{Phase}
use Rattle.state.specs.declared.run.Reader.{Reader}
use Rattle.state.specs.declared.run.Step.{Step}
use Rattle.state.specs.Limits.{capacity}
use Rattle.state.specs.Place.{at, depth_of, fewer, size, inner}
use Rattle.state.specs.Make.{with_depth, event, told, ended, refused, stopped, refuses_end, ending, bad_state}
use Rattle.state.specs.Values.{values_of}
use Rattle.state.proofs.Spans.{inner_lies}
use Rattle.emit.specs.Text.{text_content, emit_text, emit_last_text}
use Rattle.emit.specs.Reference.{emit_ref, emit_dangling}
use Rattle.emit.specs.Bang.{comment_opener, cdata_opener, bang_event, checked_comment, emit_comment, emit_cdata}
use Rattle.emit.specs.Question.{is_decl, question_event, emit_question_mark}
use Rattle.emit.specs.End.{closing_name, end_event, unmatched, differs, matched, emit_end, close_expanded_empty}
use Rattle.emit.specs.Start.{slashed, tag, opening, emit_start}
use Rattle.reader.specs.declared.piece.Shape.{Shape}
use Rattle.reader.specs.declared.piece.Cut.{Cut}
use Rattle.reader.specs.Names.{bytes, latest}
use Rattle.reader.specs.Step.{emitted_as, emitted, checked, taken, step_text, step_in, step_phase, step}
use Rattle.reader.specs.Sound.{sound}
use Rattle.reader.proofs.Outside.{step_turn, utf8_cases}
use Rattle.reader.proofs.Rooms.{any_state}
use Rattle.attributes.specs.Answers.{values_of as item_values}
use Rattle.attributes.specs.Tag.{attribute_at}
use Rattle.attributes.proofs.Theorems.{the_first_call_is_never_17}
use Rattle.demands.specs.Run.{said, run}
use Rattle.demands.specs.Tags.{is_tag, ATag}

-- ---- what a step says where it answers a tag: its content lies between the ends of its piece, and the name length is the content's
record Says (doc : List ℕ) (s : Step) : Type 0 where
  pub named : is_tag s.answer ≡ true → (values_of s.answer).name ≡ name_len (bytes doc (values_of s.answer).content)
  pub back : ℕ
  pub content : is_tag s.answer ≡ true → (values_of s.answer).content ≡ inner (values_of s.answer).piece 1 back

module _ (doc : List ℕ) where
  -- an answer of another kind says nothing
  other : (s : Step) → is_tag s.answer ≡ false → Says doc s
  other s e = record { named = λ f. clash (is_tag s.answer) f e; back = 0; content = λ f. clash (is_tag s.answer) f e }

  either : (t : Bool) (x y : Step) → Says doc x → Says doc y → Says doc (pick t x y)
  either true x y a b = a
  either false x y a b = b

  a_refusal : (r : Reader) (e : Error) (place : Position) (piece : Span) (next : Phase) → Says doc (refused r e place piece next)
  unfolding refused
  a_refusal r e place piece next = other _ refl

  a_stop : (r : Reader) (e : Error) (place : Position) (piece : Span) → Says doc (stopped r e place piece)
  unfolding stopped
  a_stop r e place piece = a_refusal _ e place piece Phase.Done

  the_end : (r : Reader) (last piece : Span) → Says doc (ending r last piece)
  unfolding ending ended told
  the_end r last piece =
      either (refuses_end r) (stopped r Error.UnclosedElements (at last.from) piece) (ended r piece) (a_stop r Error.UnclosedElements (at last.from) piece)
      (other _ refl)

  a_text : (r : Reader) (piece : Span) (next : Phase) → Says doc (emit_text doc r piece next)
  unfolding emit_text told
  a_text r piece next = other _ refl

  a_bang : (r : Reader) (kind : Kind) (piece content : Span) → is_tag (Answer.Event (event kind piece content 0)) ≡ false → Says doc (bang_event r kind piece content)
  unfolding bang_event told
  a_bang r kind piece content e = other _ e

  a_comment : (r : Reader) (piece content : Span) → Says doc (checked_comment doc r piece content)
  unfolding checked_comment
  a_comment r piece content =
      first_cases (Says doc) (pair_found doc content.from) _ _
      (λ p e. either (ltb content.to p) _ _ (a_bang r Kind.Comment piece content refl) (a_refusal r _ _ piece Phase.InsideText))
      (λ e. a_bang r Kind.Comment piece content refl)

  an_instruction : (r : Reader) (t : Bool) (a b : Event) → is_tag (Answer.Event a) ≡ false → is_tag (Answer.Event b) ≡ false → Says doc (told r (pick t a b) Phase.InsideText)
  unfolding told
  an_instruction r true a b e f = other _ e
  an_instruction r false a b e f = other _ f

  an_end : (r : Reader) (piece name : Span) → Says doc (end_event r piece name)
  unfolding end_event told
  an_end r piece name = other _ refl

  -- a tag itself
  a_tag : (r : Reader) (kind : Kind) (piece : Span) (back : ℕ) (next : Phase) → Says doc (told r (tag doc kind piece (inner piece 1 back)) next)
  unfolding told tag
  a_tag r kind piece back next = record { named = λ e. refl; back = back; content = λ e. refl }

  an_opening : (r : Reader) (cap : Depth) (kind : Kind) (piece : Span) (back : ℕ) (next : Phase) → Says doc (opening r cap (tag doc kind piece (inner piece 1 back)) next)
  unfolding opening
  an_opening r cap kind piece back next = either (ltb r.depth.0 cap.0) _ _ (a_tag _ kind piece back next) (a_stop r _ _ _)

  module _ (r : Reader) (last : Span) (cap : Depth) where
    by_shape : (shape : Shape) (piece : Span) (next : Phase) → Says doc (emitted_as doc r last cap shape piece next)
    unfolding emit_last_text emit_ref emit_dangling emit_comment emit_cdata emit_question_mark question_event emit_end unmatched matched emit_start told
    by_shape Shape.Text piece next = a_text r piece next
    by_shape Shape.LastText piece next = either (eqb (size (text_content doc r.settings piece)) 0) _ _ (the_end r last piece) (a_text r piece Phase.Done)
    by_shape Shape.GeneralRef piece next = other _ refl
    by_shape Shape.Dangling piece next = either r.settings.allow_dangling_amp _ _ (other _ refl) (a_refusal r _ _ piece next)
    by_shape Shape.Comment piece next =
        either (begins (drop piece.from doc) comment_opener) _ _ (either r.settings.check_comments _ _ (a_comment r piece (inner piece 4 3)) (a_bang r Kind.Comment piece (inner piece 4 3) refl)) (a_stop r _ _ piece)
    by_shape Shape.CData piece next = either (begins (drop piece.from doc) cdata_opener) _ _ (a_bang r Kind.CData piece (inner piece 9 3) refl) (a_stop r _ _ piece)
    by_shape Shape.QuestionMark piece next =
        let content = inner piece 2 2 in
        either (ltb (size piece) 4) _ _ (a_stop r _ _ piece) (an_instruction r (is_decl (part doc content.from content.to)) _ _ refl refl)
    by_shape Shape.End piece next =
        either (eqb r.depth.0 0) _ _ (either r.settings.allow_unmatched_ends _ _ (an_end r piece _) (a_refusal r _ _ piece Phase.InsideText))
        (either (differs doc (with_depth r (fewer r.depth)).settings last (closing_name doc r.settings (inner piece 2 1))) _ _ (a_refusal _ _ _ piece Phase.InsideText) (an_end _ piece _))
    by_shape Shape.Start piece next =
        either (slashed doc piece) _ _ (either r.settings.expand_empty_elements _ _ (an_opening r cap Kind.Start piece 2 Phase.InsideEmpty) (a_tag r Kind.Empty piece 2 Phase.InsideText))
        (an_opening r cap Kind.Start piece 1 Phase.InsideText)

    of_a_cut : (x : Cut) → Says doc (taken doc r last cap x)
    unfolding taken checked emitted
    of_a_cut (Cut.Piece p) =
        utf8_cases (Says doc) (check p.span.from (part doc p.span.from p.span.to)) _ _
        (λ e. by_shape p.shape p.span p.next)
        (λ ill e. a_stop r Error.Encoding (at ill) p.span)
    of_a_cut (Cut.Stop x) = a_stop r x.error x.place x.piece

    in_phase : (phase : Phase) → Says doc (step_in doc r last cap phase)
    unfolding step_text close_expanded_empty
    in_phase Phase.Init = of_a_cut _
    in_phase Phase.InsideText = of_a_cut _
    in_phase Phase.InsideMarkup = of_a_cut _
    in_phase Phase.InsideRef = of_a_cut _
    in_phase Phase.InsideEmpty = an_end _ _ last
    in_phase Phase.Done = the_end r last _

-- ---- one call

module _ (doc stack : List ℕ) (r : Reader) where
  abbrev answer : Answer
  answer = (step doc stack r).answer

  of_a_call : sound doc stack r ≡ true → Says doc (step doc stack r)
  unfolding step step_phase
  of_a_call e = rw e (in_phase doc r (latest stack r.depth.0) (depth_of (capacity (length stack))) r.phase)

  -- a bad state answers no tag
  of_bad : is_tag (bad_state r).answer ≡ true → ATag doc (bad_state r).answer
  unfolding bad_state
  of_bad e = clash false e refl

  -- THEOREM: the content of a Start or an Empty is a part of the document, and its name length is the one that document 01 gives this content. Any state
  pub a_tag's_name_length_is_its_content's : is_tag answer ≡ true → ATag doc answer
  a_tag's_name_length_is_its_content's =
      any_state doc stack r (λ (s : Step). is_tag s.answer ≡ true → ATag doc s.answer)
      (λ sd e.
      let says = of_a_call sd in
      let t = step_turn doc stack r sd in
      let lies = inner_lies (values_of answer).piece 1 says.back t.ordered in
      record {
        ordered = rw (says.content e) lies.0;
        within = rw (says.content e) (omega (arith, lies.1, t.within));
        named = says.named e;
      })
      of_bad

-- ---- and what `attributes` then says

module _ (doc stack : List ℕ) (c : Config) (n : ℕ) where
  -- what call n + 1 of a run answers, and the bytes of its content
  abbrev tag_said : Answer
  tag_said = said doc (run doc stack c n)

  abbrev content_bytes : List ℕ
  content_bytes = bytes doc (values_of tag_said).content

  -- THEOREM: for a Start or an Empty of a run, whatever the settings, the first call for an attribute is never 17
  pub the_first_attribute_of_a_tag_is_never_17 : is_tag tag_said ≡ true
      → (item_values (attribute_at content_bytes (values_of tag_said).name (values_of tag_said).name)).number ≡ 17 → ⊥
  the_first_attribute_of_a_tag_is_never_17 e f =
      let t = a_tag's_name_length_is_its_content's doc (run doc stack c n).stack (run doc stack c n).reader e in
      the_first_call_is_never_17 content_bytes (ap (λ (m : ℕ). (item_values (attribute_at content_bytes m m)).number) (sym t.named) ∙ f)
