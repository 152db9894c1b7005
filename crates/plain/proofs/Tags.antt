-- Opening and closing tags: the scan of a tag goes with the quote that is open, and what is told where a tag ends, or the document, is what the definition says. Assumes nothing.
use Prim.Native.Nat.{ℕ, ◌+◌, ◌-◌, ◌≤◌, ◌<◌}
use mathlib.Core.Path.{◌≡◌, refl, sym, ap, ◌∙◌}
use mathlib.Core.List.{List}
use mathlib.Core.Bool.{Bool, true, false, not, ◌&&◌}
use mathlib.Core.Logic.{◌⊎◌, inl, inr, ⊎_elim}
use native.Mathlib.Omega.{arith}
use native.Mathlib.Decide.{dec_lt}
use lib.ListN.{length, get_or}
use lib.Dec.{eqb, leb}
use borrow.Author.Tests.{eq-eqb, ne_eqb, eqb-true, eqb-false, lt-ltb, le-ltb}
use Rattle.ground.specs.Choose.{pick}
use Rattle.ground.specs.Bytes.{apos, gt, lt, quot, slash}
use Rattle.ground.specs.Part.{part}
use Rattle.ground.specs.Equal.{same}
use Rattle.ground.proofs.Choices.{clash}
use Rattle.ground.proofs.Lists.{stands_in}
use Rattle.white.specs.White.{is_white, kept, name_len as white_len}
use Rattle.parser.specs.Machine.{go, scan_at}
use Rattle.parser.specs.Element.{element_step, element_answer, element_found, quote_of, IsQuote}
use Rattle.parser.specs.declared.element.ElementState.{ElementState}
use Rattle.parser.specs.declared.element.Found.{Found as TagFound}
use Rattle.parser.proofs.Machine.{scan_end, scan_more}
use Rattle.parser.proofs.Turns.{step_quote, step_plain, step_close, step_within, end_found}
use Rattle.state.specs.declared.place.Depth.{Depth}
use Rattle.state.specs.declared.place.Span.{Span}
use Rattle.state.specs.declared.config.Config.{Config}
use Rattle.state.specs.declared.answer.Kind.{Kind}
use Rattle.state.specs.declared.answer.Event.{Event}
use Rattle.state.specs.declared.answer.Error.{Error}
use Rattle.state.specs.declared.run.Phase.{Phase}
use Rattle.state.specs.declared.run.Reader.{Reader}
use Rattle.state.specs.Place.{at, span, size, fewer, further, inner}
use Rattle.state.specs.Make.{with_depth, event, told, refused}
use Rattle.emit.specs.End.{closing_name, end_event, unmatched, differs, matched, emit_end}
use Rattle.emit.specs.Start.{slashed as ends_slashed, tag, opening, emit_start}
use Rattle.reader.specs.declared.piece.Shape.{Shape}
use Rattle.reader.specs.Cut.{unclosed_tag, cut_tag, cut_next, stop as stop_of_cut}
use Rattle.reader.specs.Step.{taken}
use Rattle.plain.specs.declared.known.Part.{Part}
use Rattle.plain.specs.declared.known.Known.{Known}
use Rattle.plain.specs.Known.{next_quote, name_len, ends_in}
use Rattle.plain.specs.Told.{tell, stop, in_tag, unclosed_in, opening_of, closing_of, closed_in}
use Rattle.plain.proofs.Bytes.{byte_same}
use Rattle.plain.proofs.Checked.{inner_to, stop_is, open_is, closed_is}
use Rattle.plain.proofs.Cuts.{lone_cut, end_cut, start_cut, tag_to, tag_open}
use Rattle.plain.proofs.First.{White, first_late, name_is}
use Rattle.plain.proofs.Flags.{and_left, and_right, turned}
use Rattle.plain.proofs.Kept.{kept_is}
use Rattle.plain.proofs.Means.{quoted, Means, Tagged}
use Rattle.plain.proofs.Names.{same_is}
use Rattle.plain.proofs.Tracks.{Tracks}

-- ---- a byte of a tag

-- what a byte does to the quote that is open
quote_opens : (b : ℕ) → IsQuote b → next_quote 0 b ≡ b
unfolding next_quote
quote_opens b h = ⊎_elim (λ e. rw e) (λ e. rw e) h

quote_none : (b : ℕ) → (IsQuote b → ⊥) → next_quote 0 b ≡ 0
unfolding next_quote
quote_none b n = rw (ne_eqb b apos (λ e. n (inr e)), ne_eqb b quot (λ e. n (inl e)))

quote_not_none : (q : ℕ) → IsQuote q → eqb q 0 ≡ false
quote_not_none q h = ⊎_elim (λ e. rw e) (λ e. rw e) h

quote_closes : (q b : ℕ) → IsQuote q → b ≡ q → next_quote q b ≡ 0
unfolding next_quote
quote_closes q b h e = rw (quote_not_none q h, eq-eqb b q e)

quote_stays : (q b : ℕ) → IsQuote q → (b ≡ q → ⊥) → next_quote q b ≡ q
unfolding next_quote
quote_stays q b h n = rw (quote_not_none q h, ne_eqb b q n)

quoted_is : (q : ℕ) → IsQuote q → quoted q ≡ quote_of q
quoted_is q h = rw (quote_not_none q h)

-- a quote or not
quote_cases : (b : ℕ) (C : Type 0) → (IsQuote b → C) → ((IsQuote b → ⊥) → C) → C
quote_cases b C f g = by (eqb b quot) (eqb b apos) refl refl
  where
    by : (x y : Bool) → eqb b quot ≡ x → eqb b apos ≡ y → C
    by true y d e = f (inl (eqb-true b quot d))
    by false true d e = f (inr (eqb-true b apos e))
    by false false d e = g (λ h. ⊎_elim (eqb-false b quot d) (eqb-false b apos e) h)

-- the scan's state and the quote take the byte alike
record Alike (q b p : ℕ) : Type 0 where
  steps : element_step (quoted q) b ≡ go (quoted p)
  known : (p ≡ 0) ⊎ IsQuote p

alike_to : (q b p n : ℕ) → n ≡ p → Alike q b p → Alike q b n
alike_to q b p n e a = rw e a

outside : (b : ℕ) → (b ≡ gt → ⊥) → Alike 0 b (next_quote 0 b)
outside b n =
    quote_cases b (Alike 0 b (next_quote 0 b))
    (λ h. alike_to 0 b b (next_quote 0 b) (quote_opens b h) (record { steps = step_quote b h ∙ ap go (sym (quoted_is b h)); known = inr h }))
    (λ h. alike_to 0 b 0 (next_quote 0 b) (quote_none b h) (record { steps = step_plain b n h; known = inl refl }))

within : (q b : ℕ) → IsQuote q → Alike q b (next_quote q b)
within q b h = by (eqb b q) refl
  where
    by : (x : Bool) → eqb b q ≡ x → Alike q b (next_quote q b)
    by true e =
        let f = eqb-true b q e in
        alike_to q b 0 (next_quote q b) (quote_closes q b h f)
        (record { steps = ap (λ (s : ElementState). element_step s b) (quoted_is q h) ∙ step_close q b h f; known = inl refl })
    by false e =
        let f = eqb-false b q e in
        alike_to q b q (next_quote q b) (quote_stays q b h f)
        (record { steps = ap (λ (s : ElementState). element_step s b) (quoted_is q h) ∙ step_within q b h f ∙ ap go (sym (quoted_is q h)); known = inr h })

alike : (q b : ℕ) → (q ≡ 0) ⊎ IsQuote q → (eqb b gt && eqb q 0) ≡ false → Alike q b (next_quote q b)
alike q b w e =
    ⊎_elim
    (λ z. rw z (outside b (λ f. clash (eqb b gt && eqb q 0) (rw (eq-eqb b gt f, eq-eqb q 0 z)) e)))
    (within q b) w

-- a byte at which the tag does not end takes the scan on, and the quote with it
pub tag_more : (doc : List ℕ) (from at q : ℕ) → at < length doc → (q ≡ 0) ⊎ IsQuote q → (eqb (get_or doc at 0) gt && eqb q 0) ≡ false
    → element_found doc from ≡ element_answer (scan_at element_step (quoted q) doc at)
    → (element_found doc from ≡ element_answer (scan_at element_step (quoted (next_quote q (get_or doc at 0))) doc (at + 1)))
    × ((next_quote q (get_or doc at 0) ≡ 0) ⊎ IsQuote (next_quote q (get_or doc at 0)))
tag_more doc from at q l w e f =
    let a = alike q (get_or doc at 0) w e in
    (f ∙ ap element_answer (scan_more element_step (quoted q) doc at (quoted (next_quote q (get_or doc at 0))) l a.steps), a.known)

-- the `<` itself
pub tag_first : (doc : List ℕ) (from : ℕ) → get_or doc from 0 ≡ lt → element_found doc from ≡ element_answer (scan_at element_step (quoted 0) doc (from + 1))
tag_first doc from e =
    ap element_answer (scan_more element_step ElementState.Outside doc from ElementState.Outside (stands_in doc from lt e (omega arith)) (rw e))

-- ---- the document ends

-- what is unclosed, by the quote that is open
in_tag_none : unclosed_tag (TagFound.Open (quoted 0)) ≡ in_tag 0
unfolding unclosed_tag in_tag
in_tag_none = refl

in_tag_quote : (q : ℕ) → IsQuote q → unclosed_tag (TagFound.Open (quoted q)) ≡ in_tag q
unfolding unclosed_tag in_tag
in_tag_quote q h = ⊎_elim (λ e. rw e) (λ e. rw e) h

in_tag_is : (q : ℕ) → (q ≡ 0) ⊎ IsQuote q → unclosed_tag (TagFound.Open (quoted q)) ≡ in_tag q
in_tag_is q w = ⊎_elim (λ e. rw e in_tag_none) (in_tag_quote q) w

-- a tag of which all bytes were read
unclosed : (doc : List ℕ) (k : Known) (shape : Shape) → k.at ≡ length doc → Tagged doc k → cut_next doc k.from ≡ cut_tag doc k.from shape
    → cut_next doc k.from ≡ stop_of_cut (in_tag k.quote) k.from (length doc)
unclosed doc k shape e t c =
    c
    ∙ tag_open doc k.from shape (quoted k.quote) (t.scan ∙ ap element_answer (scan_end element_step (quoted k.quote) doc k.at (omega arith)))
    ∙ ap (λ (x : Error). stop_of_cut x k.from (length doc)) (in_tag_is k.quote t.quote)

-- a lone `<` at the end
pub opened_open : (doc : List ℕ) (r : Reader) (open_name : Span) (room : Depth) (k : Known) → Tracks doc open_name k → k.at ≡ length doc → k.part ≡ Part.Opened
    → Means doc k Part.Opened → unclosed_in r k open_name room Part.Opened ≡ taken doc r open_name room (cut_next doc k.from)
opened_open doc r open_name room k t e p m =
    stop_is doc r open_name room Error.UnclosedTag k.from k.from (lone_cut doc k.from m.first (omega (arith, m.size)))

-- the kinds of a tag, by what stands behind its `<`
closing_cut : (doc : List ℕ) (k : Known) → Means doc k Part.Closing → cut_next doc k.from ≡ cut_tag doc k.from Shape.End
closing_cut doc k m = end_cut doc k.from m.0.first m.1

opening_cut : (doc : List ℕ) (k : Known) → k.at ≤ length doc → Means doc k Part.Opening → cut_next doc k.from ≡ cut_tag doc k.from Shape.Start
opening_cut doc k h m = start_cut doc k.from m.0.first (omega (arith, m.0.size)) m.1 m.2 m.3

pub closing_open : (doc : List ℕ) (r : Reader) (open_name : Span) (room : Depth) (k : Known) → Tracks doc open_name k → k.at ≡ length doc → k.part ≡ Part.Closing
    → Means doc k Part.Closing → unclosed_in r k open_name room Part.Closing ≡ taken doc r open_name room (cut_next doc k.from)
closing_open doc r open_name room k t e p m =
    open_is doc r open_name room k Part.Closing (in_tag k.quote) e p refl (unclosed doc k Shape.End e m.0 (closing_cut doc k m))

pub opening_open : (doc : List ℕ) (r : Reader) (open_name : Span) (room : Depth) (k : Known) → Tracks doc open_name k → k.at ≡ length doc → k.part ≡ Part.Opening
    → Means doc k Part.Opening → unclosed_in r k open_name room Part.Opening ≡ taken doc r open_name room (cut_next doc k.from)
opening_open doc r open_name room k t e p m =
    open_is doc r open_name room k Part.Opening (in_tag k.quote) e p refl (unclosed doc k Shape.Start e m.0 (opening_cut doc k t.high m))

-- ---- an opening tag

module _ (doc : List ℕ) (r : Reader) (open_name : Span) (room : Depth) (k : Known) (t : Tracks doc open_name k) (e : get_or doc k.from 0 ≡ lt) (m : k.from < k.at) where
  abbrev piece : Span
  piece = span k.from (k.at + 1)

  -- the `<` is not white space
  name_behind : k.from + 1 ≤ k.name
  name_behind =
      first_late (White doc) k.from k.at k.name (k.from + 1) t.name (omega arith)
      (λ j h l w. clash (is_white (get_or doc j 0)) w (ap is_white (byte_same doc j k.from (omega arith) ∙ e)))

  named : (to : ℕ) → k.from + 1 ≤ to → to ≤ k.at → white_len (part doc (k.from + 1) to) ≡ name_len k (span (k.from + 1) to)
  named to h n = name_is doc k.from k.at k.name (k.from + 1) to t.name name_behind (omega arith) h n t.high

  -- what lies between `<` and `>`, or `/>`
  inner_one : inner piece 1 1 ≡ span (k.from + 1) k.at
  inner_one = inner_to k.from (k.at + 1) 1 1 k.at (omega arith) (omega arith)

  inner_two : k.from + 2 ≤ k.at → inner piece 1 2 ≡ span (k.from + 1) (k.at - 1)
  inner_two h = inner_to k.from (k.at + 1) 1 2 (k.at - 1) (omega arith) (omega arith)

  -- the byte before the `>`
  last_is : k.last ≡ get_or doc (k.at - 1) 0
  last_is = t.last m

  last_first : k.at ≡ k.from + 1 → k.last ≡ lt
  last_first f =
      last_is ∙ byte_same doc (k.at - 1) k.from (omega arith) ∙ e

  slash_behind : k.last ≡ slash → k.from + 2 ≤ k.at
  slash_behind s =
      elim (dec_lt (k.from + 1) k.at) [
        | yes h ↦ omega arith
        | no h ↦ let f = last_first (omega arith) in absurd (omega arith)
      ]

  slashed_is : ends_slashed doc piece ≡ eqb k.last slash
  unfolding ends_slashed
  slashed_is =
      rw inner_one
      (elim (dec_lt (k.from + 1) k.at) [
        | yes h ↦ rw (lt-ltb (k.from + 1) k.at h, last_is)
        | no h ↦ rw (le-ltb (k.from + 1) k.at (omega arith), last_first (omega arith))
      ])

  -- its event
  tag_is : (kind : Kind) (to : ℕ) (content : Span) → content ≡ span (k.from + 1) to → k.from + 1 ≤ to → to ≤ k.at
      → tag doc kind piece content ≡ event kind piece content (name_len k content)
  unfolding tag
  tag_is kind to content f h n = rw f (ap (event kind piece (span (k.from + 1) to)) (named to h n))

  tag_by : (kind : Kind) (x : Bool) → eqb k.last slash ≡ x
      → tag doc kind piece (inner piece 1 (pick x 2 1)) ≡ event kind piece (inner piece 1 (pick x 2 1)) (name_len k (inner piece 1 (pick x 2 1)))
  tag_by kind true f =
      let h = slash_behind (eqb-true k.last slash f) in
      tag_is kind (k.at - 1) (inner piece 1 2) (inner_two h) (omega arith) (omega arith)
  tag_by kind false f = tag_is kind k.at (inner piece 1 1) inner_one (omega arith) (omega arith)

  -- the name is put on the stack, or there is no room for it
  opening_is : (content : Span) (name : ℕ) (next : Phase)
      → pick (leb room.0 r.depth.0) (stop r Error.NameStackFull (span k.from k.from))
      (tell (with_depth r (further r.depth)) Kind.Start piece content name next)
      ≡ opening r room (event Kind.Start piece content name) next
  unfolding opening stop tell
  opening_is content name next = sym (turned r.depth.0 room.0 _ _)

  -- by the two flags
  abbrev content : Bool → Span
  content x = inner piece 1 (pick x 2 1)

  by_flags : (x y : Bool) → ((kind : Kind) → tag doc kind piece (content x) ≡ event kind piece (content x) (name_len k (content x)))
      → pick (x && not y) (tell r Kind.Empty piece (content x) (name_len k (content x)) Phase.InsideText)
      (pick (leb room.0 r.depth.0) (stop r Error.NameStackFull (span k.from k.from))
      (tell (with_depth r (further r.depth)) Kind.Start piece (content x) (name_len k (content x)) (pick x Phase.InsideEmpty Phase.InsideText)))
      ≡ pick x
      (pick y (opening r room (tag doc Kind.Start piece (inner piece 1 2)) Phase.InsideEmpty)
      (told r (tag doc Kind.Empty piece (inner piece 1 2)) Phase.InsideText))
      (opening r room (tag doc Kind.Start piece (inner piece 1 1)) Phase.InsideText)
  unfolding tell
  by_flags true true h =
      opening_is (inner piece 1 2) (name_len k (inner piece 1 2)) Phase.InsideEmpty
      ∙ ap (λ (v : Event). opening r room v Phase.InsideEmpty) (sym (h Kind.Start))
  by_flags true false h = ap (λ (v : Event). told r v Phase.InsideText) (sym (h Kind.Empty))
  by_flags false y h =
      opening_is (inner piece 1 1) (name_len k (inner piece 1 1)) Phase.InsideText
      ∙ ap (λ (v : Event). opening r room v Phase.InsideText) (sym (h Kind.Start))

  start_is : opening_of r k piece room ≡ emit_start doc r room piece
  unfolding opening_of emit_start
  start_is =
      rw slashed_is
      (by_flags (eqb k.last slash) r.settings.expand_empty_elements (λ kind. tag_by kind (eqb k.last slash) refl))

-- the scan halts at a `>` outside quotes
tag_halts : (doc : List ℕ) (k : Known) → k.at < length doc → Tagged doc k → get_or doc k.at 0 ≡ gt → k.quote ≡ 0
    → element_found doc k.from ≡ TagFound.At k.at
tag_halts doc k l t g q =
    t.scan
    ∙ ap (λ (n : ℕ). element_answer (scan_at element_step (quoted n) doc k.at)) q
    ∙ sym (end_found doc (scan_at element_step ElementState.Outside doc k.at) k.at refl l g)

-- `<>`
pub opened_closed : (doc : List ℕ) (r : Reader) (open_name : Span) (room : Depth) (k : Known) → Tracks doc open_name k → k.at < length doc → k.part ≡ Part.Opened
    → Means doc k Part.Opened → ends_in k (get_or doc k.at 0) Part.Opened ≡ true
    → closed_in r k open_name room (get_or doc k.at 0) Part.Opened ≡ taken doc r open_name room (cut_next doc k.from)
opened_closed doc r open_name room k t l p m x =
    let s = m.size in
    let g = eqb-true (get_or doc k.at 0) gt x in
    let b : get_or doc (k.from + 1) 0 ≡ gt = byte_same doc (k.from + 1) k.at (sym s) ∙ g in
    closed_is doc r open_name room k t Shape.Start Part.Opened gt l g (omega arith) refl p (start_is doc r open_name room k t m.first (omega arith))
    (start_cut doc k.from m.first (omega arith) (λ n. omega arith) (λ n. omega arith) (λ n. omega arith)
    ∙ tag_to doc k.from Shape.Start k.at
    (tag_first doc k.from m.first ∙ sym (end_found doc (scan_at element_step ElementState.Outside doc (k.from + 1)) k.at (ap (scan_at element_step ElementState.Outside doc) (sym s)) l g)))

-- the two tests at its end
tag_ends : (b q : ℕ) → (eqb b gt && eqb q 0) ≡ true → (b ≡ gt) × (q ≡ 0)
tag_ends b q e = (eqb-true b gt (and_left (eqb b gt) (eqb q 0) e), eqb-true q 0 (and_right (eqb b gt) (eqb q 0) e))

pub opening_closed : (doc : List ℕ) (r : Reader) (open_name : Span) (room : Depth) (k : Known) → Tracks doc open_name k → k.at < length doc → k.part ≡ Part.Opening
    → Means doc k Part.Opening → ends_in k (get_or doc k.at 0) Part.Opening ≡ true
    → closed_in r k open_name room (get_or doc k.at 0) Part.Opening ≡ taken doc r open_name room (cut_next doc k.from)
opening_closed doc r open_name room k t l p m x =
    let w = tag_ends (get_or doc k.at 0) k.quote x in
    closed_is doc r open_name room k t Shape.Start Part.Opening gt l w.0 (omega arith) refl p
    (start_is doc r open_name room k t m.0.first (omega (arith, m.0.size)))
    (opening_cut doc k t.high m ∙ tag_to doc k.from Shape.Start k.at (tag_halts doc k l m.0 w.0 w.1))

-- ---- a closing tag

-- a reader with the depth that it has
same_depth : (r : Reader) (d : Depth) → d ≡ r.depth → with_depth r d ≡ r
unfolding with_depth
same_depth r d e = rw e

none_fewer : (r : Reader) → r.depth.0 ≡ 0 → with_depth r (fewer r.depth) ≡ r
none_fewer r e = same_depth r (fewer r.depth) (by r.depth e)
  where
    by : (d : Depth) → d.0 ≡ 0 → fewer d ≡ d
    by d e = rw e

-- by the flags: no name is open, an end that matches none is allowed, names are checked, and the names are the same
module _ (r : Reader) (last piece name : Span) where
  abbrev less : Reader
  less = with_depth r (fewer r.depth)

  end_flags : (none allow checks alike : Bool) → (none ≡ true → less ≡ r)
      → pick (none && not allow) (refused r (Error.UnmatchedEndTag name) (at piece.from) piece Phase.InsideText)
      (pick ((not none && checks) && not alike)
      (refused less (Error.MismatchedEndTag last name) (at piece.from) piece Phase.InsideText)
      (tell less Kind.End piece name (size name) Phase.InsideText))
      ≡ pick none
      (pick allow (end_event r piece name) (refused r (Error.UnmatchedEndTag name) (at piece.from) piece Phase.InsideText))
      (pick (pick checks (not alike) false)
      (refused less (Error.MismatchedEndTag last name) (at piece.from) piece Phase.InsideText)
      (end_event less piece name))
  unfolding tell end_event
  end_flags true true checks alike h = rw (h refl)
  end_flags true false checks alike h = refl
  end_flags false allow true true h = refl
  end_flags false allow true false h = refl
  end_flags false allow false alike h = refl

module _ (doc : List ℕ) (r : Reader) (open_name : Span) (room : Depth) (k : Known) (t : Tracks doc open_name k)
    (low : open_name.from ≤ open_name.to) (high : open_name.to ≤ length doc) (m : k.from + 2 ≤ k.at) (e : get_or doc (k.from + 1) 0 ≡ slash) where
  abbrev whole_tag : Span
  whole_tag = span k.from (k.at + 1)

  between : inner whole_tag 2 1 ≡ span (k.from + 2) k.at
  between = inner_to k.from (k.at + 1) 2 1 k.at m (omega arith)

  kept_behind : k.from + 2 ≤ k.kept
  kept_behind =
      elim (dec_lt (k.from + 1) k.kept) [
        | yes h ↦ omega arith
        | no h ↦ clash (is_white (get_or doc (k.from + 1) 0)) (t.kept.rest (k.from + 1) (omega arith) (omega arith)) (rw e)
      ]

  trimmed_is : k.from + 2 + kept (part doc (k.from + 2) k.at) ≡ k.kept
  trimmed_is = kept_is doc k.from k.at k.kept (k.from + 2) t.kept (omega arith) kept_behind t.high

  -- where the name ends
  abbrev ends : Bool → Bool → ℕ
  ends x y = pick (x && not y) k.kept k.at

  ends_in_lem : (x y : Bool) → (k.from + 2 ≤ ends x y) × (ends x y ≤ k.at)
  ends_in_lem true true = (m, omega arith)
  ends_in_lem true false = (kept_behind, t.kept.high)
  ends_in_lem false y = (m, omega arith)

  name_by : (x y : Bool) → pick x (pick y (span (k.from + 2) k.at) (span (k.from + 2) k.kept)) (span (k.from + 2) k.at) ≡ span (k.from + 2) (ends x y)
  name_by true true = refl
  name_by true false = refl
  name_by false y = refl

  abbrev trims : Bool
  trims = r.settings.trim_markup_names_in_closing_tags

  abbrev end_of_name : ℕ
  end_of_name = ends trims (eqb k.kept (k.from + 2))

  closing_name_is : closing_name doc r.settings (inner whole_tag 2 1) ≡ span (k.from + 2) end_of_name
  unfolding closing_name
  closing_name_is = rw (between, trimmed_is) (name_by trims (eqb k.kept (k.from + 2)))

  -- whether it is the open name
  abbrev alike_names : Bool
  alike_names = eqb (end_of_name - (k.from + 2)) (open_name.to - open_name.from) && leb end_of_name k.differs

  same_name_is : same (part doc open_name.from open_name.to) (part doc (k.from + 2) end_of_name) ≡ alike_names
  same_name_is =
      let w = ends_in_lem trims (eqb k.kept (k.from + 2)) in
      same_is doc open_name k.from k.at k.differs end_of_name t.differs w.0 w.1 t.high low high

  differs_is : (c : Config) → differs doc c open_name (span (k.from + 2) end_of_name) ≡ pick c.check_end_names (not alike_names) false
  unfolding differs
  differs_is c = ap (λ (x : Bool). pick c.check_end_names (not x) false) same_name_is

  end_is : closing_of r k whole_tag open_name ≡ emit_end doc r open_name whole_tag
  unfolding closing_of emit_end unmatched matched with_depth
  end_is =
      rw (closing_name_is, between, differs_is)
      (end_flags r open_name whole_tag (span (k.from + 2) end_of_name) (eqb r.depth.0 0) r.settings.allow_unmatched_ends
      r.settings.check_end_names alike_names (λ x. none_fewer r (eqb-true r.depth.0 0 x)))

pub closing_closed : (doc : List ℕ) (r : Reader) (open_name : Span) (room : Depth) (k : Known) → Tracks doc open_name k → open_name.from ≤ open_name.to
    → open_name.to ≤ length doc → k.at < length doc → k.part ≡ Part.Closing → Means doc k Part.Closing → ends_in k (get_or doc k.at 0) Part.Closing ≡ true
    → closed_in r k open_name room (get_or doc k.at 0) Part.Closing ≡ taken doc r open_name room (cut_next doc k.from)
closing_closed doc r open_name room k t low high l p m x =
    let w = tag_ends (get_or doc k.at 0) k.quote x in
    closed_is doc r open_name room k t Shape.End Part.Closing gt l w.0 (omega arith) refl p
    (end_is doc r open_name room k t low high m.0.size m.1)
    (closing_cut doc k m ∙ tag_to doc k.from Shape.End k.at (tag_halts doc k l m.0 w.0 w.1))
