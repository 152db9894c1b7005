-- A piece that is whole in the bytes so far becomes what it becomes when more have come, one law to a definition of `emit` that mentions the document.
-- Assumes nothing.
use Prim.Native.Nat.{ℕ, ◌+◌, ◌-◌, ◌≤◌, ◌<◌}
use mathlib.Core.Path.{◌≡◌, refl, sym, ap, ◌∙◌}
use mathlib.Core.Bool.{Bool, false}
use mathlib.Core.List.{List, ◌++◌}
use native.Mathlib.Omega.{arith}
use lib.ListN.{length, get_or, drop, length-drop}
use lib.Seq.{get_or-drop}
use lib.Dec.{eqb, leb, ltb}
use borrow.Author.Tests.{lt-ltb, ltb-true}
use Rattle.ground.specs.Bytes.{gt}
use Rattle.ground.specs.Choose.{pick}
use Rattle.ground.specs.Equal.{begins}
use Rattle.ground.specs.Part.{part}
use Rattle.ground.proofs.Choices.{pick_cases}
use Rattle.ground.proofs.Lists.{part_end}
use Rattle.white.proofs.Runs.{kept_within}
use Rattle.parser.specs.Machine.{Scan as Course, found, going, feed, scan_at}
use Rattle.parser.specs.First.{one_of, by_first}
use Rattle.parser.specs.Hyphens.{pair_step, pair_answer}
use Rattle.pieces.proofs.Machine.{feed_append, feed_bound}
use Rattle.state.specs.declared.place.Depth.{Depth}
use Rattle.state.specs.declared.place.Span.{Span}
use Rattle.state.specs.declared.config.Config.{Config}
use Rattle.state.specs.declared.answer.Kind.{Kind}
use Rattle.state.specs.declared.answer.Event.{Event}
use Rattle.state.specs.declared.answer.Error.{Error}
use Rattle.state.specs.declared.run.Phase.{Phase}
use Rattle.state.specs.declared.run.Reader.{Reader}
use Rattle.state.specs.declared.run.Step.{Step}
use Rattle.state.specs.Place.{at, size, inner, fewer, further}
use Rattle.state.specs.Make.{with_depth, refused}
use Rattle.state.proofs.Spans.{inner_lies}
use Rattle.emit.specs.Text.{trimmed, text_content, emit_text, emit_last_text}
use Rattle.emit.specs.Reference.{emit_ref, emit_dangling}
use Rattle.emit.specs.Bang.{comment_opener, cdata_opener, bang_event, checked_comment, emit_comment, emit_cdata}
use Rattle.emit.specs.Question.{question_event, emit_question_mark}
use Rattle.emit.specs.Start.{slashed, tag, opening, emit_start}
use Rattle.emit.specs.End.{closing_name, end_event, unmatched, differs, matched, emit_end, close_expanded_empty}
use Rattle.arrivals.specs.Whole.{lengthened, lengthened_step}
use Rattle.arrivals.proofs.Stays.{byte_stays, rest_stays, part_stays, scan_stays, begins_stays}
use Rattle.arrivals.proofs.Cuts.{both_picked}
use Rattle.arrivals.proofs.Makes.{picked_same, depth_same, told_same, refused_same, stopped_same, ending_same}

-- ---- spans

-- it ends before the end of what holds more than its span
inner_before : (n : ℕ) (s : Span) (front back : ℕ) → s.from < n → s.to < n + back → (inner s front back).to < n
unfolding inner
inner_before n s front back h k =
    pick_cases (λ (x : Span). x.to < n) (leb (s.from + front + back) s.to) _ _ (λ _. omega arith) (λ _. omega arith)

module _ (doc more : List ℕ) where
  -- ---- text

  content_same : (c : Config) (piece : Span) → piece.to ≤ length doc → text_content (doc ++ more) c piece ≡ text_content doc c piece
  unfolding text_content
  content_same c piece h = rw (part_stays doc more piece.from piece.to h)

  module _ (n : ℕ) (r : Reader) (piece : Span) (h : piece.to ≤ length doc) where
    pub text_same : (next : Phase) → emit_text (doc ++ more) (lengthened n r) piece next ≡ lengthened_step n (emit_text doc r piece next)
    unfolding emit_text
    text_same next = rw (content_same r.settings piece h) (told_same n r _ next)

    pub last_same : (last : Span) → emit_last_text (doc ++ more) (lengthened n r) last piece ≡ lengthened_step n (emit_last_text doc r last piece)
    unfolding emit_last_text
    last_same last =
        rw (content_same r.settings piece h)
        (picked_same n (eqb (size (text_content doc r.settings piece)) 0) _ _ _ _ (λ _. ending_same n r last piece) (λ _. text_same Phase.Done))

-- ---- references

module _ (n : ℕ) (r : Reader) (piece : Span) where
  pub ref_same : emit_ref (lengthened n r) piece ≡ lengthened_step n (emit_ref r piece)
  unfolding emit_ref
  ref_same = told_same n r _ Phase.InsideText

  pub dangling_same : (next : Phase) → emit_dangling (lengthened n r) piece next ≡ lengthened_step n (emit_dangling r piece next)
  unfolding emit_dangling
  dangling_same next = picked_same n r.settings.allow_dangling_amp _ _ _ _ (λ _. told_same n r _ next) (λ _. refused_same n r _ _ piece next)

  -- ---- comments and CDATA

  bang_same : (kind : Kind) (content : Span) → bang_event (lengthened n r) kind piece content ≡ lengthened_step n (bang_event r kind piece content)
  unfolding bang_event
  bang_same kind content = told_same n r _ Phase.InsideText

  -- by the first two hyphens in a row
  abbrev by_pair : Reader → Span → Course Bool → Step
  by_pair r content c =
      by_first (pair_answer c)
      (λ second. pick (ltb content.to second)
      (bang_event r Kind.Comment piece content)
      (refused r Error.DoubleHyphenInComment (at (second - 1)) piece Phase.InsideText))
      (bang_event r Kind.Comment piece content)

  -- those that are found stay, and others come only behind the content
  by_pair_same : (content : Span) (c d : Course Bool) → ((p : ℕ) → c ≡ found p → d ≡ found p)
      → ((b : Bool) → c ≡ going b → (p : ℕ) → d ≡ found p → content.to < p)
      → by_pair (lengthened n r) content d ≡ lengthened_step n (by_pair r content c)
  by_pair_same content (found p) d f g =
      rw (f p refl)
      (picked_same n (ltb content.to p) _ _ _ _ (λ _. bang_same Kind.Comment content) (λ _. refused_same n r _ _ piece Phase.InsideText))
  by_pair_same content (going b) (found p) f g = rw (lt-ltb content.to p (g b refl p refl)) (bang_same Kind.Comment content)
  by_pair_same content (going b) (going c) f g = bang_same Kind.Comment content

module _ (doc more : List ℕ) where
  -- hyphens that are found in what has come
  pair_behind : (from : ℕ) → from ≤ length doc → (b : Bool) → scan_at pair_step false doc from ≡ going b → (p : ℕ)
      → scan_at pair_step false (doc ++ more) from ≡ found p → length doc ≤ p
  pair_behind from h b e p f =
      let on : scan_at pair_step false (doc ++ more) from ≡ feed pair_step (going b) (from + length (drop from doc)) more
      = ap (feed pair_step (going false) from) (rest_stays doc more from h)
      ∙ feed_append pair_step (going false) from (drop from doc) more
      ∙ ap (λ (t : Course Bool). feed pair_step t (from + length (drop from doc)) more) e in
      omega (arith, feed_bound pair_step b (from + length (drop from doc)) p more (sym on ∙ f), length-drop from doc)

  -- an opener, of a piece that ends with a byte that is none of the opener's
  opener_same : (piece : Span) (ks : List ℕ) → one_of ks gt ≡ false → piece.from < piece.to → piece.to ≤ length doc → get_or doc (piece.to - 1) 0 ≡ gt
      → begins (drop piece.from (doc ++ more)) ks ≡ begins (drop piece.from doc) ks
  opener_same piece ks e h k g =
      let i : piece.from + (piece.to - 1 - piece.from) ≡ piece.to - 1 = omega arith in
      let b : get_or (drop piece.from doc) (piece.to - 1 - piece.from) 0 ≡ gt
      = get_or-drop piece.from doc (piece.to - 1 - piece.from) 0 ∙ ap (λ (p : ℕ). get_or doc p 0) i ∙ g in
      ap (λ (bs : List ℕ). begins bs ks) (rest_stays doc more piece.from (omega arith))
      ∙ begins_stays (drop piece.from doc) more ks (piece.to - 1 - piece.from) (omega (arith, length-drop piece.from doc)) (ap (one_of ks) b ∙ e)

  module _ (n : ℕ) (r : Reader) (piece : Span) where
    checked_same : (content : Span) → content.from ≤ length doc → content.to < length doc
        → checked_comment (doc ++ more) (lengthened n r) piece content ≡ lengthened_step n (checked_comment doc r piece content)
    unfolding checked_comment
    checked_same content h k =
        by_pair_same n r piece content (scan_at pair_step false doc content.from) (scan_at pair_step false (doc ++ more) content.from)
        (λ p e. scan_stays doc more pair_step false content.from p h e)
        (λ b e p f. omega (arith, pair_behind content.from h b e p f))

    module _ (h : piece.from < piece.to) (k : piece.to ≤ length doc) (g : get_or doc (piece.to - 1) 0 ≡ gt) where
      pub comment_same : emit_comment (doc ++ more) (lengthened n r) piece ≡ lengthened_step n (emit_comment doc r piece)
      unfolding emit_comment
      comment_same =
          let lies = inner_lies piece 4 3 (omega arith) in
          rw (opener_same piece comment_opener refl h k g)
          (picked_same n (begins (drop piece.from doc) comment_opener) _ _ _ _
          (λ _. picked_same n r.settings.check_comments _ _ _ _
          (λ _. checked_same (inner piece 4 3) (omega arith) (inner_before (length doc) piece 4 3 (omega arith) (omega arith)))
          (λ _. bang_same n r piece Kind.Comment (inner piece 4 3)))
          (λ _. stopped_same n r _ _ piece))

      pub cdata_same : emit_cdata (doc ++ more) (lengthened n r) piece ≡ lengthened_step n (emit_cdata doc r piece)
      unfolding emit_cdata
      cdata_same =
          rw (opener_same piece cdata_opener refl h k g)
          (picked_same n (begins (drop piece.from doc) cdata_opener) _ _ _ _
          (λ _. bang_same n r piece Kind.CData (inner piece 9 3))
          (λ _. stopped_same n r _ _ piece))

    -- ---- processing instructions and declarations

    module _ (h : piece.from ≤ piece.to) (k : piece.to ≤ length doc) where
      event_same : (content : Span) → content.to ≤ length doc → question_event (doc ++ more) piece content ≡ question_event doc piece content
      unfolding question_event
      event_same content l = rw (part_stays doc more content.from content.to l)

      within : (front back : ℕ) → (inner piece front back).to ≤ length doc
      within front back = omega (arith, inner_lies piece front back h)

      pub question_same : emit_question_mark (doc ++ more) (lengthened n r) piece ≡ lengthened_step n (emit_question_mark doc r piece)
      unfolding emit_question_mark
      question_same =
          rw (event_same (inner piece 2 2) (within 2 2))
          (picked_same n (ltb (size piece) 4) _ _ _ _ (λ _. stopped_same n r _ _ piece) (λ _. told_same n r _ Phase.InsideText))

      -- ---- opening tags and empty elements

      slashed_same : slashed (doc ++ more) piece ≡ slashed doc piece
      unfolding slashed
      slashed_same =
          both_picked (ltb (inner piece 1 1).from (inner piece 1 1).to) _ _ _ _
          (λ x. let some : (inner piece 1 1).from < (inner piece 1 1).to = ltb-true _ _ x in
          rw (byte_stays doc more ((inner piece 1 1).to - 1) (omega (arith, within 1 1))))
          (λ _. refl)

      tag_same : (kind : Kind) (content : Span) → content.to ≤ length doc → tag (doc ++ more) kind piece content ≡ tag doc kind piece content
      unfolding tag
      tag_same kind content l = rw (part_stays doc more content.from content.to l)

      opening_same : (cap : Depth) (e : Event) (next : Phase) → opening (lengthened n r) cap e next ≡ lengthened_step n (opening r cap e next)
      unfolding opening
      opening_same cap e next =
          picked_same n (ltb r.depth.0 cap.0) _ _ _ _
          (λ _. rw (depth_same n r (further r.depth)) (told_same n (with_depth r (further r.depth)) e next))
          (λ _. stopped_same n r _ _ _)

      pub start_same : (cap : Depth) → emit_start (doc ++ more) (lengthened n r) cap piece ≡ lengthened_step n (emit_start doc r cap piece)
      unfolding emit_start
      start_same cap =
          rw (
            slashed_same,
            tag_same Kind.Start (inner piece 1 2) (within 1 2),
            tag_same Kind.Empty (inner piece 1 2) (within 1 2),
            tag_same Kind.Start (inner piece 1 1) (within 1 1),
          )
          (picked_same n (slashed doc piece) _ _ _ _
          (λ _. picked_same n r.settings.expand_empty_elements _ _ _ _
          (λ _. opening_same cap _ Phase.InsideEmpty)
          (λ _. told_same n r _ Phase.InsideText))
          (λ _. opening_same cap _ Phase.InsideText))

-- ---- closing tags

module _ (n : ℕ) (r : Reader) where
  end_event_same : (piece name : Span) → end_event (lengthened n r) piece name ≡ lengthened_step n (end_event r piece name)
  unfolding end_event
  end_event_same piece name = told_same n r _ Phase.InsideText

  unmatched_same : (piece name : Span) → unmatched (lengthened n r) piece name ≡ lengthened_step n (unmatched r piece name)
  unfolding unmatched
  unmatched_same piece name =
      picked_same n r.settings.allow_unmatched_ends _ _ _ _ (λ _. end_event_same piece name) (λ _. refused_same n r _ _ piece Phase.InsideText)

module _ (n : ℕ) (r : Reader) where
  pub empty_same : (last : Span) → close_expanded_empty (lengthened n r) last ≡ lengthened_step n (close_expanded_empty r last)
  unfolding close_expanded_empty
  empty_same last = rw (depth_same n r (fewer r.depth)) (end_event_same n (with_depth r (fewer r.depth)) _ last)

module _ (doc more : List ℕ) where
  name_same : (c : Config) (content : Span) → content.to ≤ length doc → closing_name (doc ++ more) c content ≡ closing_name doc c content
  unfolding closing_name
  name_same c content h = rw (part_stays doc more content.from content.to h)

  name_within : (c : Config) (content : Span) → content.from ≤ content.to → content.to ≤ length doc → (closing_name doc c content).to ≤ length doc
  unfolding closing_name
  name_within c content h k =
      let bytes = part doc content.from content.to in
      let cut : (trimmed doc content).to ≤ length doc = omega (arith, part_end doc content.from content.to, kept_within bytes (length bytes)) in
      pick_cases (λ (s : Span). s.to ≤ length doc) c.trim_markup_names_in_closing_tags _ _
      (λ _. pick_cases (λ (s : Span). s.to ≤ length doc) (eqb (trimmed doc content).to content.from) _ _ (λ _. k) (λ _. cut))
      (λ _. k)

  differs_same : (c : Config) (last name : Span) → last.to ≤ length doc → name.to ≤ length doc
      → differs (doc ++ more) c last name ≡ differs doc c last name
  unfolding differs
  differs_same c last name h k = rw (part_stays doc more last.from last.to h, part_stays doc more name.from name.to k)

  module _ (n : ℕ) where
    matched_same : (r : Reader) (last piece name : Span) → last.to ≤ length doc → name.to ≤ length doc
        → matched (doc ++ more) (lengthened n r) last piece name ≡ lengthened_step n (matched doc r last piece name)
    unfolding matched
    matched_same r last piece name h k =
        rw (differs_same r.settings last name h k)
        (picked_same n (differs doc r.settings last name) _ _ _ _
        (λ _. refused_same n r _ _ piece Phase.InsideText)
        (λ _. end_event_same n r piece name))

    pub end_same : (r : Reader) (last piece : Span) → last.to ≤ length doc → piece.from ≤ piece.to → piece.to ≤ length doc
        → emit_end (doc ++ more) (lengthened n r) last piece ≡ lengthened_step n (emit_end doc r last piece)
    unfolding emit_end
    end_same r last piece h k l =
        let lies = inner_lies piece 2 1 k in
        let closing : (inner piece 2 1).to ≤ length doc = omega arith in
        rw (name_same r.settings (inner piece 2 1) closing, depth_same n r (fewer r.depth))
        (picked_same n (eqb r.depth.0 0) _ _ _ _
        (λ _. unmatched_same n r piece _)
        (λ _. matched_same (with_depth r (fewer r.depth)) last piece _ h (name_within r.settings (inner piece 2 1) lies.0 closing)))
