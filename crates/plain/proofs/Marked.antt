-- Comments, CDATA and processing instructions: where they end, and that what the plain engine answers for them is what the reader's definition says. Assumes nothing.
use Prim.Native.Nat.{ℕ, zero, suc, ◌+◌, ◌-◌, ◌≤◌, ◌<◌}
use mathlib.Core.Path.{◌≡◌, refl, sym, ap, ◌∙◌, subst}
use mathlib.Core.List.{List, [], ◌∷◌}
use mathlib.Core.Bool.{Bool, true, false, not, ◌&&◌, ◌||◌}
use mathlib.Core.Logic.{inl, inr, ⊎_elim}
use native.Mathlib.Omega.{arith}
use native.Mathlib.Decide.{dec_lt}
use lib.ListN.{length, get_or, drop, length-drop, get_or-append}
use lib.Seq.{get_or-drop}
use lib.Dec.{eqb, leb, ltb}
use borrow.Author.Tests.{eq-eqb, eqb-true, eqb-false, lt-leb, le-leb, leb-true, leb-false, ltb-false}
use Rattle.ground.specs.Bytes.{close_bracket, gt, hyphen, lt, open_bracket, question}
use Rattle.ground.specs.Choose.{pick}
use Rattle.ground.specs.Equal.{begins}
use Rattle.ground.specs.Least.{Gives}
use Rattle.ground.specs.Part.{part}
use Rattle.ground.proofs.Choices.{both, clash, must_fail, not_true, pick_cases, pick_either}
use Rattle.ground.proofs.Equal.{begins_is, begins_long, begins_within}
use Rattle.ground.proofs.First.{least_one}
use Rattle.ground.proofs.Lists.{part_length}
use Rattle.white.specs.White.{is_white, EndsAt, name_len as name_of}
use Rattle.white.proofs.Words.{name_len_least}
use Rattle.parser.specs.Hyphens.{pair_found, PairEnd}
use Rattle.parser.specs.Marks.{pi_found, comment_found, cdata_found, MarkedEnd, PiEnd, CommentEnd, CDataEnd}
use Rattle.parser.specs.declared.first.Found.{Found as FirstFound}
use Rattle.parser.specs.declared.marks.Found.{Found as MarksFound}
use Rattle.parser.proofs.Words.{pi_gives, comment_gives, cdata_gives, pair_gives}
use Rattle.state.specs.declared.place.Depth.{Depth}
use Rattle.state.specs.declared.place.Span.{Span}
use Rattle.state.specs.declared.answer.Kind.{Kind}
use Rattle.state.specs.declared.answer.Event.{Event}
use Rattle.state.specs.declared.answer.Error.{Error}
use Rattle.state.specs.declared.run.Phase.{Phase}
use Rattle.state.specs.declared.run.Reader.{Reader}
use Rattle.state.specs.declared.run.Step.{Step}
use Rattle.state.specs.Place.{at, span, size, inner}
use Rattle.state.specs.Make.{event, told, refused, stopped}
use Rattle.emit.specs.Bang.{comment_opener, cdata_opener, bang_event, checked_comment, emit_comment, emit_cdata}
use Rattle.emit.specs.Question.{xml, is_decl, question_event, emit_question_mark, unclosed_question}
use Rattle.reader.specs.declared.piece.Shape.{Shape}
use Rattle.reader.specs.Cut.{cut_marked, cut_bang, cut_next}
use Rattle.reader.specs.Step.{emitted_as, taken}
use Rattle.plain.specs.declared.known.Part.{Part}
use Rattle.plain.specs.declared.known.Known.{Known}
use Rattle.plain.specs.Known.{decl_opener, goes, opens, size_of, name_len, ends_in}
use Rattle.plain.specs.Told.{tell, stop, comment_of, cdata_of, instruction_of, becomes, whole_of, behind, closer, no_closer, read, closed_piece, closed_in, unclosed_in}
use Rattle.plain.proofs.Bytes.{byte_same, part_same, of_two, of_three}
use Rattle.plain.proofs.Checked.{inner_to, open_is, closed_is}
use Rattle.plain.proofs.Cuts.{bang_cut, question_cut, marked_to, marked_open}
use Rattle.plain.proofs.First.{First, White, first_late, name_is}
use Rattle.plain.proofs.Flags.{and_then, and_left, and_right, and_both, or_first, or_second, agree, unless, turned, pick_else}
use Rattle.plain.proofs.Means.{Right, Means, Instructed}
use Rattle.plain.proofs.Tracks.{Tracks}

-- ---- where a piece ends

module _ (doc : List ℕ) (open_name : Span) (k : Known) (t : Tracks doc open_name k) (l : k.at < length doc) where
  abbrev b : ℕ
  b = get_or doc k.at 0

  -- the byte at hand is a `>`, and the mark stands just before, or twice
  abbrev one_test : ℕ → Bool
  one_test mark = eqb b gt && eqb k.last mark

  abbrev two_test : ℕ → Bool
  two_test mark = one_test mark && eqb k.before mark

  -- where a piece ends the tests hold
  one_holds : (mark need least : ℕ) → k.from < k.at → 1 ≤ need → MarkedEnd mark need least doc k.from k.at → one_test mark ≡ true
  one_holds mark need least h n p =
      and_both (eqb b gt) (eqb k.last mark) (eq-eqb b gt p.closes) (eq-eqb k.last mark (t.last h ∙ p.marks 1 (omega arith) n))

  two_holds : (mark least : ℕ) → k.from + 1 < k.at → MarkedEnd mark 2 least doc k.from k.at → two_test mark ≡ true
  two_holds mark least h p =
      and_both (one_test mark) (eqb k.before mark) (one_holds mark 2 least (omega arith) (omega arith) p)
      (eq-eqb k.before mark (t.before h ∙ p.marks 2 (omega arith) (omega arith)))

  -- and it ends where they hold
  module _ (mark : ℕ) (h : k.from < k.at) (e : one_test mark ≡ true) where
    closes_here : b ≡ gt
    closes_here = eqb-true b gt (and_left (eqb b gt) (eqb k.last mark) e)

    mark_here : get_or doc (k.at - 1) 0 ≡ mark
    mark_here = sym (t.last h) ∙ eqb-true k.last mark (and_right (eqb b gt) (eqb k.last mark) e)

    one_ends : (least : ℕ) → k.from + least ≤ k.at → MarkedEnd mark 1 least doc k.from k.at
    one_ends least a =
        record { after = a; within = l; closes = closes_here; marks = λ j g u. byte_same doc (k.at - j) (k.at - 1) (omega arith) ∙ mark_here }

  two_ends : (mark least : ℕ) → k.from + 1 < k.at → k.from + least ≤ k.at → two_test mark ≡ true → MarkedEnd mark 2 least doc k.from k.at
  two_ends mark least h a e =
      let f = and_left (one_test mark) (eqb k.before mark) e in
      record {
        after = a;
        within = l;
        closes = closes_here mark (omega arith) f;
        marks = λ j g u.
            of_two (λ (i : ℕ). get_or doc (k.at - i) 0 ≡ mark) 1 j g (omega arith) (mark_here mark (omega arith) f)
            (sym (t.before h) ∙ eqb-true k.before mark (and_right (one_test mark) (eqb k.before mark) e));
      }

  -- the test of the byte at hand says that it does not end there
  pub comment_goes : Means doc k Part.Comment → ends_in k (get_or doc k.at 0) Part.Comment ≡ false → CommentEnd doc k.from k.at → ⊥
  comment_goes m e p =
      clash (ends_in k b Part.Comment)
      (and_both (two_test hyphen) (leb 6 (size_of k)) (two_holds hyphen 6 (omega (arith, m.size)) p) (le-leb 6 (size_of k) (omega (arith, p.after)))) e

  pub cdata_goes : Means doc k Part.CData → ends_in k (get_or doc k.at 0) Part.CData ≡ false → CDataEnd doc k.from k.at → ⊥
  cdata_goes m e p = clash (ends_in k b Part.CData) (two_holds close_bracket 2 (omega (arith, m.size)) p) e

  pub instruction_goes : Means doc k Part.Instruction → ends_in k (get_or doc k.at 0) Part.Instruction ≡ false → PiEnd doc k.from k.at → ⊥
  instruction_goes m e p = clash (ends_in k b Part.Instruction) (one_holds question 1 1 (omega (arith, m.size)) (omega arith) p) e

  -- and that it does
  comment_ends : Means doc k Part.Comment → ends_in k b Part.Comment ≡ true → CommentEnd doc k.from k.at
  comment_ends m e =
      two_ends hyphen 6 (omega (arith, m.size)) (omega (arith, leb-true 6 (size_of k) (and_right (two_test hyphen) (leb 6 (size_of k)) e)))
      (and_left (two_test hyphen) (leb 6 (size_of k)) e)

  cdata_ends : Means doc k Part.CData → ends_in k b Part.CData ≡ true → CDataEnd doc k.from k.at
  cdata_ends m e = two_ends close_bracket 2 (omega (arith, m.size)) (omega (arith, m.size)) e

  instruction_ends : Means doc k Part.Instruction → ends_in k b Part.Instruction ≡ true → PiEnd doc k.from k.at
  instruction_ends m e = one_ends question (omega (arith, m.size)) e 1 (omega (arith, m.size))

-- ---- a piece of any of the three kinds

-- its end is looked for, and there is none among the bytes so far
record Looked (doc : List ℕ) (k : Known) (shape : Shape) (error : Error) (mark need least : ℕ) : Type 0 where
  found : MarksFound
  cut : cut_next doc k.from ≡ cut_marked doc k.from found shape error
  gives : Gives MarksFound.At found (MarkedEnd mark need least doc k.from)
  none : (j : ℕ) → j < k.at → MarkedEnd mark need least doc k.from j → ⊥

module _ (doc : List ℕ) (r : Reader) (open_name : Span) (room : Depth) (k : Known) (p : Part) (shape : Shape) (error : Error) (mark need least : ℕ)
    (e : k.part ≡ p) (s : Looked doc k shape error mark need least) where
  -- nor among all
  open_by : k.at ≡ length doc → closer k p ≡ error → stop r (no_closer k) (read r k open_name room) ≡ taken doc r open_name room (cut_next doc k.from)
  open_by z f =
      open_is doc r open_name room k p error z e f
      (s.cut ∙ marked_open doc k.from s.found shape error (s.gives.none.1 (λ j c. s.none j (omega (arith, c.within)) c)))

  -- it ends with the byte at hand
  closed_by : Tracks doc open_name k → MarkedEnd mark need least doc k.from k.at
      → becomes r k (span k.from (k.at + 1)) Phase.InsideText open_name room p
      ≡ emitted_as doc r open_name room shape (span k.from (k.at + 1)) Phase.InsideText
      → whole_of r k (closed_piece r k open_name room (get_or doc k.at 0)) (behind (get_or doc k.at 0)) open_name room
      ≡ taken doc r open_name room (cut_next doc k.from)
  closed_by t c f =
      closed_is doc r open_name room k t shape p gt c.within c.closes (omega arith) refl e f
      (s.cut ∙ marked_to doc k.from s.found shape error k.at ((s.gives.found k.at).1 (record { has = c; before = s.none })))

-- the three kinds
module _ (doc : List ℕ) (k : Known) where
  comment_looked : Means doc k Part.Comment → Looked doc k Shape.Comment Error.UnclosedComment hyphen 2 6
  unfolding cut_bang
  comment_looked m =
      record { found = comment_found doc k.from; cut = bang_cut doc k.from m.first hyphen m.second m.third; gives = comment_gives doc k.from; none = m.none }

  cdata_looked : Means doc k Part.CData → Looked doc k Shape.CData Error.UnclosedCData close_bracket 2 2
  unfolding cut_bang
  cdata_looked m =
      record { found = cdata_found doc k.from; cut = bang_cut doc k.from m.first open_bracket m.second m.third; gives = cdata_gives doc k.from; none = m.none }

  instruction_looked : Means doc k Part.Instruction → Looked doc k Shape.QuestionMark (unclosed_question doc (at k.from)) question 1 1
  instruction_looked m =
      record { found = pi_found doc k.from; cut = question_cut doc k.from m.first m.second; gives = pi_gives doc k.from; none = m.none }

pub comment_open : (doc : List ℕ) (r : Reader) (open_name : Span) (room : Depth) (k : Known) → Tracks doc open_name k → k.at ≡ length doc
    → k.part ≡ Part.Comment → Means doc k Part.Comment → unclosed_in r k open_name room Part.Comment ≡ taken doc r open_name room (cut_next doc k.from)
comment_open doc r open_name room k t z e m =
    open_by doc r open_name room k Part.Comment Shape.Comment Error.UnclosedComment hyphen 2 6 e (comment_looked doc k m) z refl

pub cdata_open : (doc : List ℕ) (r : Reader) (open_name : Span) (room : Depth) (k : Known) → Tracks doc open_name k → k.at ≡ length doc
    → k.part ≡ Part.CData → Means doc k Part.CData → unclosed_in r k open_name room Part.CData ≡ taken doc r open_name room (cut_next doc k.from)
cdata_open doc r open_name room k t z e m =
    open_by doc r open_name room k Part.CData Shape.CData Error.UnclosedCData close_bracket 2 2 e (cdata_looked doc k m) z refl

-- ---- the opener

goes_true : (word : List ℕ) (j b : ℕ) → j < length word → goes word j b ≡ true → b ≡ get_or word j 0
unfolding goes
goes_true word j b h e = sym (eqb-true (get_or word j 0) b (rw (lt-leb (length word) j h) at e))

goes_here : (word : List ℕ) (j b : ℕ) → (j < length word → b ≡ get_or word j 0) → goes word j b ≡ true
unfolding goes
goes_here word j b f =
    elim (dec_lt j (length word)) [
      | yes h ↦ rw (lt-leb (length word) j h) (eq-eqb (get_or word j 0) b (sym (f h)))
      | no h ↦ rw (le-leb (length word) j (omega arith))
    ]

-- bytes begin with a word where each of its bytes stands in its place
begins_all : (s word : List ℕ) → length word ≤ length s → ((j : ℕ) → j < length word → get_or s j 0 ≡ get_or word j 0) → begins s word ≡ true
unfolding begins
begins_all s [] h f = refl
begins_all [] (w ∷ ws) h f = absurd (omega arith)
begins_all (b ∷ bs) (w ∷ ws) h f = rw (eq-eqb b w (f 0 (omega arith))) (begins_all bs ws (omega arith) (λ j l. f (suc j) (omega arith)))

begins_byte : (s word : List ℕ) (j : ℕ) → begins s word ≡ true → j < length word → get_or s j 0 ≡ get_or word j 0
begins_byte s word j e h = ap (λ (bs : List ℕ). get_or bs j 0) ((begins_is s word).0 e) ∙ get_or-append word (drop (length word) s) 0 j h

-- from a place on
module _ (doc word : List ℕ) (from : ℕ) where
  begins_here : from + length word ≤ length doc → ((j : ℕ) → j < length word → get_or doc (from + j) 0 ≡ get_or word j 0) → begins (drop from doc) word ≡ true
  begins_here h f = begins_all (drop from doc) word (omega (arith, length-drop from doc)) (λ j l. get_or-drop from doc j 0 ∙ f j l)

  begins_there : (j : ℕ) → begins (drop from doc) word ≡ true → j < length word → get_or doc (from + j) 0 ≡ get_or word j 0
  begins_there j e h = sym (get_or-drop from doc j 0) ∙ begins_byte (drop from doc) word j e h

  -- the document begins with the word there exactly where all bytes of the piece go with it
  opener_is : (n : ℕ) (right : Bool) → n ≤ length doc → (right ≡ true → from + length word ≤ n)
      → (right ≡ true → (j : ℕ) → from ≤ j → j < n → goes word (j - from) (get_or doc j 0) ≡ true)
      → (right ≡ false → (j : ℕ) × (from ≤ j) × (j < n) × (goes word (j - from) (get_or doc j 0) ≡ false))
      → begins (drop from doc) word ≡ right
  opener_is n right u h all some =
      agree (begins (drop from doc) word) right
      (λ e. begins_here (omega (arith, h e))
      (λ j l. let back : from + j - from ≡ j = omega arith in
      goes_true word j (get_or doc (from + j) 0) l
      (sym (ap (λ (i : ℕ). goes word i (get_or doc (from + j) 0)) back) ∙ all e (from + j) (omega arith) (omega (arith, h e)))))
      (λ e. let w = some e in
      let back = w.1 in
      must_fail (begins (drop from doc) word)
      (λ g. clash (goes word (w.0 - from) (get_or doc w.0 0))
      (goes_here word (w.0 - from) (get_or doc w.0 0)
      (λ l. byte_same doc w.0 (from + (w.0 - from)) (omega arith) ∙ begins_there (w.0 - from) g l)) w.3))

-- ---- `<?xml`, and white space or `?` behind it

abbrev ends_name_lem : ℕ → Bool
ends_name_lem b = is_white b || eqb b question

-- the second test of a byte: it is the sixth only where a name ends there
sixth_here : (j b : ℕ) → (j ≡ 5 → ends_name_lem b ≡ true) → ((not (eqb j 5) || is_white b) || eqb b question) ≡ true
sixth_here j b f = by (eqb j 5) refl
  where
    by : (x : Bool) → eqb j 5 ≡ x → ((not x || is_white b) || eqb b question) ≡ true
    by true e = f (eqb-true j 5 e)
    by false e = refl

module _ (doc : List ℕ) (from n : ℕ) where
  -- the bytes so far are those of `<?xml`, as far as it goes, and the one behind it ends a name
  abbrev Declares : Type 0
  Declares = ((j : ℕ) → j < 5 → from + j < n → get_or doc (from + j) 0 ≡ get_or decl_opener j 0) × (from + 5 < n → ends_name_lem (get_or doc (from + 5) 0) ≡ true)

  right_declares : (right : Bool) → Right doc Part.Instruction from n right → right ≡ true → Declares
  right_declares right o e = (
    λ j h l. goes_true decl_opener j (get_or doc (from + j) 0) h (and_left (goes decl_opener j (get_or doc (from + j) 0)) _ (here j l)),
    λ l. and_right (goes decl_opener 5 (get_or doc (from + 5) 0)) _ (here 5 l),
  )
    where
      here : (j : ℕ) → from + j < n → opens Part.Instruction j (get_or doc (from + j) 0) ≡ true
      here j l =
          let back : from + j - from ≡ j = omega arith in
          sym (ap (λ (i : ℕ). opens Part.Instruction i (get_or doc (from + j) 0)) back) ∙ o.all e (from + j) (omega arith) l

  declares_opens : Declares → (j : ℕ) → from ≤ j → j < n → opens Part.Instruction (j - from) (get_or doc j 0) ≡ true
  declares_opens d j h l =
      and_both (goes decl_opener (j - from) (get_or doc j 0)) _
      (goes_here decl_opener (j - from) (get_or doc j 0) (λ u. byte_same doc j (from + (j - from)) (omega arith) ∙ d.0 (j - from) u (omega arith)))
      (sixth_here (j - from) (get_or doc j 0) (λ e. ap ends_name_lem (byte_same doc j (from + 5) (omega arith)) ∙ d.1 (omega arith)))

  declares_right : (right : Bool) → Right doc Part.Instruction from n right → Declares → right ≡ true
  declares_right true o d = refl
  declares_right false o d = let w = o.some refl in clash _ (declares_opens d w.0 w.1 w.2) w.3

-- what is unclosed, by that
module _ (doc : List ℕ) (from n : ℕ) (right : Bool) (o : Right doc Part.Instruction from n right) (z : n ≡ length doc) where
  abbrev Is : Error → Type 0
  Is x = pick (right && leb 5 (n - from)) Error.UnclosedXmlDecl Error.UnclosedPI ≡ x

  is_decl_lem : from + 5 ≤ n → Declares doc from n → Is Error.UnclosedXmlDecl
  is_decl_lem h d = rw (declares_right doc from n right o d, le-leb 5 (n - from) (omega arith))

  is_other : (from + 5 ≤ n → Declares doc from n → ⊥) → Is Error.UnclosedPI
  is_other f =
      pick_cases (λ (x : Error). x ≡ Error.UnclosedPI) (right && leb 5 (n - from)) _ _
      (λ e. absurd (f (omega (arith, leb-true 5 (n - from) (and_right right (leb 5 (n - from)) e))) (right_declares doc from n right o (and_left right (leb 5 (n - from)) e))))
      (λ e. refl)

  -- the document begins so
  abbrev begun : Bool
  begun = begins (drop from doc) decl_opener

  begun_long : begun ≡ true → from + 5 ≤ n
  begun_long e = omega (arith, begins_within doc decl_opener from (omega arith) e)

  begun_is : begun ≡ true → (from + 5 < n → ends_name_lem (get_or doc (from + 5) 0) ≡ true) → Is Error.UnclosedXmlDecl
  begun_is e f = is_decl_lem (begun_long e) (λ j h l. begins_there doc decl_opener from j e h, f)

  unclosed_is : Is (unclosed_question doc (at from))
  unfolding unclosed_question
  unclosed_is =
      pick_cases Is begun _ _
      (λ e. pick_cases Is (leb (length doc) (from + 5)) _ _
      (λ f. begun_is e (λ l. absurd (omega (arith, leb-true (length doc) (from + 5) f))))
      (λ f. let far = leb-false (length doc) (from + 5) f in
      pick_cases Is (eqb (get_or doc (from + 5) 0) question) _ _
      (λ q. begun_is e (λ l. or_second (is_white (get_or doc (from + 5) 0)) _ q))
      (λ q. pick_cases Is (is_white (get_or doc (from + 5) 0)) _ _
      (λ w. begun_is e (λ l. or_first (is_white (get_or doc (from + 5) 0)) _ w))
      (λ w. is_other (λ h d. clash (ends_name_lem (get_or doc (from + 5) 0)) (d.1 (omega arith)) (rw (w, q)))))))
      (λ e. is_other (λ h d. clash begun (begins_here doc decl_opener from (omega arith) (λ j l. d.0 j l (omega arith))) e))

pub instruction_open : (doc : List ℕ) (r : Reader) (open_name : Span) (room : Depth) (k : Known) → Tracks doc open_name k → k.at ≡ length doc
    → k.part ≡ Part.Instruction → Means doc k Part.Instruction
    → unclosed_in r k open_name room Part.Instruction ≡ taken doc r open_name room (cut_next doc k.from)
instruction_open doc r open_name room k t z e m =
    open_by doc r open_name room k Part.Instruction Shape.QuestionMark (unclosed_question doc (at k.from)) question 1 1 e (instruction_looked doc k m) z
    (unclosed_is doc k.from k.at k.right m.opener z)

-- ---- comments

-- the first pair is found, since the closer has one
pair_at : (doc : List ℕ) (from n pair : ℕ) → First (PairEnd doc (from + 4)) from n pair → CommentEnd doc from n → pair_found doc (from + 4) ≡ FirstFound.At pair
pair_at doc from n pair f c =
    let far = c.after in
    let within = c.within in
    let last : PairEnd doc (from + 4) (n - 1) = record {
      after = omega arith;
      within = omega arith;
      second = c.marks 1 (omega arith) (omega arith);
      first = byte_same doc (n - 1 - 1) (n - 2) (omega arith) ∙ c.marks 2 (omega arith) (omega arith);
    } in
    let before : pair < n = elim (dec_lt (n - 1) pair) [
      | yes h ↦ absurd (f.before (n - 1) (omega arith) h last)
      | no h ↦ omega arith
    ] in
    ((pair_gives doc (from + 4)).found pair).1 (record {
      has = f.here before;
      before = λ j h p. f.before j (omega (arith, p.after)) h p;
    })

module _ (doc : List ℕ) (r : Reader) (k : Known) where
  abbrev whole_piece : Span
  whole_piece = span k.from (k.at + 1)

  abbrev checks : Bool
  checks = r.settings.check_comments

  checked_comment_lem : pair_found doc (k.from + 4) ≡ FirstFound.At k.pair → (content : Span) → content.from ≡ k.from + 4
      → pick (leb k.pair content.to)
      (refused r Error.DoubleHyphenInComment (at (k.pair - 1)) whole_piece Phase.InsideText)
      (tell r Kind.Comment whole_piece content 0 Phase.InsideText)
      ≡ checked_comment doc r whole_piece content
  unfolding checked_comment bang_event tell
  checked_comment_lem e content f =
      sym (rw (f, e) (turned content.to k.pair _ _))

  comment_told : begins (drop k.from doc) comment_opener ≡ k.right → pair_found doc (k.from + 4) ≡ FirstFound.At k.pair → (inner whole_piece 4 3).from ≡ k.from + 4
      → comment_of r k whole_piece ≡ emit_comment doc r whole_piece
  unfolding comment_of emit_comment stop tell bang_event
  comment_told e f g =
      unless k.right (begins (drop k.from doc) comment_opener) _ _ e
      ∙ ap (λ (s : Step). pick (begins (drop k.from doc) comment_opener) s (stopped r Error.UnclosedComment (at k.from) whole_piece))
      (and_then checks (leb k.pair (inner whole_piece 4 3).to) _ _
      ∙ ap (λ (s : Step). pick checks s (bang_event r Kind.Comment whole_piece (inner whole_piece 4 3))) (checked_comment_lem f (inner whole_piece 4 3) g))

pub comment_closed : (doc : List ℕ) (r : Reader) (open_name : Span) (room : Depth) (k : Known) → Tracks doc open_name k → k.at < length doc
    → k.part ≡ Part.Comment → Means doc k Part.Comment → ends_in k (get_or doc k.at 0) Part.Comment ≡ true
    → closed_in r k open_name room (get_or doc k.at 0) Part.Comment ≡ taken doc r open_name room (cut_next doc k.from)
comment_closed doc r open_name room k t l e m x =
    let c = comment_ends doc open_name k t l m x in
    let far = c.after in
    closed_by doc r open_name room k Part.Comment Shape.Comment Error.UnclosedComment hyphen 2 6 e (comment_looked doc k m) t c
    (comment_told doc r k
    (opener_is doc comment_opener k.from k.at k.right t.high (λ q. omega arith) m.opener.all m.opener.some)
    (pair_at doc k.from k.at k.pair t.pair c)
    (ap (λ (s : Span). s.from) (inner_to k.from (k.at + 1) 4 3 (k.at - 2) (omega arith) (omega arith))))

-- ---- CDATA

-- the byte is none of the word
abbrev without : List ℕ → ℕ → Bool
without [] b = true
without (w ∷ ws) b = not (eqb w b) && without ws b

not_in : (word : List ℕ) (b j : ℕ) → without word b ≡ true → j < length word → get_or word j 0 ≡ b → ⊥
not_in [] b j e h q = omega arith
not_in (w ∷ ws) b zero e h q = clash (eqb w b) (eq-eqb w b q) (not_true (eqb w b) (and_left (not (eqb w b)) (without ws b) e))
not_in (w ∷ ws) b (suc j) e h q = not_in ws b j (and_right (not (eqb w b)) (without ws b) e) (omega arith) q

module _ (doc : List ℕ) (from n : ℕ) (right : Bool) (h : from + 3 ≤ n) (c : CDataEnd doc from n) (o : Right doc Part.CData from n right) where
  -- the `]` at the end is no byte of the opener
  cdata_long : right ≡ true → from + 9 ≤ n
  cdata_long e =
      elim (dec_lt (n - 1 - from) 9) [
        | yes l ↦ absurd (not_in cdata_opener close_bracket (n - 1 - from) refl l
            (sym (goes_true cdata_opener (n - 1 - from) (get_or doc (n - 1) 0) l (o.all e (n - 1) (omega arith) (omega arith)))
            ∙ c.marks 1 (omega arith) (omega arith)))
        | no l ↦ omega arith
      ]

cdata_told : (doc : List ℕ) (r : Reader) (k : Known) (piece : Span) → begins (drop piece.from doc) cdata_opener ≡ k.right
    → cdata_of r k piece ≡ emit_cdata doc r piece
unfolding cdata_of emit_cdata stop tell bang_event
cdata_told doc r k piece e = unless k.right (begins (drop piece.from doc) cdata_opener) _ _ e

pub cdata_closed : (doc : List ℕ) (r : Reader) (open_name : Span) (room : Depth) (k : Known) → Tracks doc open_name k → k.at < length doc
    → k.part ≡ Part.CData → Means doc k Part.CData → ends_in k (get_or doc k.at 0) Part.CData ≡ true
    → closed_in r k open_name room (get_or doc k.at 0) Part.CData ≡ taken doc r open_name room (cut_next doc k.from)
cdata_closed doc r open_name room k t l e m x =
    let c = cdata_ends doc open_name k t l m x in
    closed_by doc r open_name room k Part.CData Shape.CData Error.UnclosedCData close_bracket 2 2 e (cdata_looked doc k m) t c
    (cdata_told doc r k (span k.from (k.at + 1))
    (opener_is doc cdata_opener k.from k.at k.right t.high (cdata_long doc k.from k.at k.right m.size c m.opener) m.opener.all m.opener.some))

-- ---- processing instructions

-- the target, where white space first stands
name_low : (doc : List ℕ) (from n name : ℕ) → from + 2 ≤ n → get_or doc from 0 ≡ lt → get_or doc (from + 1) 0 ≡ question → First (White doc) from n name → from + 2 ≤ name
name_low doc from n name h first second f =
    first_late (White doc) from n name (from + 2) f h
    (λ j g l w. clash (is_white (get_or doc j 0)) w (of_two (λ (i : ℕ). is_white (get_or doc i 0) ≡ false) from j g l (ap is_white first) (ap is_white second)))

module _ (doc : List ℕ) (from n : ℕ) (u : n < length doc) (h : from + 3 ≤ n) where
  -- what stands between `<?` and `?>`
  abbrev content : List ℕ
  content = part doc (from + 2) (n + 1 - 2)

  content_long : length content ≡ n + 1 - 2 - (from + 2)
  content_long = part_length doc (from + 2) (n + 1 - 2) (omega arith) (omega arith)

  content_byte : (i j : ℕ) → j < length content → from + 2 + j ≡ i → get_or content j 0 ≡ get_or doc i 0
  content_byte i j l e = part_same doc (from + 2) (n + 1 - 2) j i (omega arith) (omega (arith, content_long)) (sym e)

  -- it is that of a declaration
  record Declared : Type 0 where
    word : begins content xml ≡ true
    ends : EndsAt is_white content 3

  declared_long : Declared → 3 ≤ length content
  declared_long d = begins_long content xml d.word

  declared_decl : Declared → is_decl content ≡ true
  unfolding is_decl
  declared_decl d =
      rw d.word
      (⊎_elim (λ e. rw (eq-eqb (length content) 3 (sym e)) refl) (λ e. pick_either (eqb (length content) 3) (is_white (get_or content 3 0)) e.1) d.ends)

  decl_declared : is_decl content ≡ true → Declared
  unfolding is_decl
  decl_declared e =
      let q = both (begins content xml) (pick (eqb (length content) 3) true (is_white (get_or content 3 0))) e in
      let long = begins_long content xml q.0 in
      record {
        word = q.0;
        ends =
            pick_cases (λ (x : Bool). x ≡ true → EndsAt is_white content 3) (eqb (length content) 3) _ _
            (λ f g. inl (sym (eqb-true (length content) 3 f)))
            (λ f g. let other = eqb-false (length content) 3 f in inr (omega arith, g)) q.1;
      }

  declared_name : Declared → name_of content ≡ 3
  declared_name d =
      let long = declared_long d in
      least_one (EndsAt is_white content) (name_of content) 3 (name_len_least content) (record {
        has = d.ends;
        before = λ j l. ⊎_elim (λ e. omega arith)
            (λ e. clash (is_white (get_or content j 0)) e.1 (ap is_white (begins_byte content xml j d.word l) ∙ of_three (λ (i : ℕ). is_white (get_or xml i 0) ≡ false) 0 j (omega arith) l refl refl refl));
      })

  module _ (right : Bool) (first : get_or doc from 0 ≡ lt) (second : get_or doc (from + 1) 0 ≡ question) (c : PiEnd doc from n) (o : Right doc Part.Instruction from n right) where
    declared_byte : Declared → (j : ℕ) → j < 5 → get_or doc (from + j) 0 ≡ get_or decl_opener j 0
    declared_byte d zero l = byte_same doc (from + 0) from (omega arith) ∙ first
    declared_byte d (suc zero) l = second
    declared_byte d (suc (suc j)) l =
        let long = declared_long d in
        sym (content_byte (from + suc (suc j)) j (omega arith) (omega arith)) ∙ begins_byte content xml j d.word (omega arith)

    declared_next : Declared → ends_name_lem (get_or doc (from + 5) 0) ≡ true
    declared_next d =
        ⊎_elim
        (λ e. let last : from + 5 ≡ n - 1 = omega (arith, content_long) in
        or_second (is_white (get_or doc (from + 5) 0)) (eqb (get_or doc (from + 5) 0) question)
        (eq-eqb (get_or doc (from + 5) 0) question (byte_same doc (from + 5) (n - 1) last ∙ c.marks 1 (omega arith) (omega arith))))
        (λ e. or_first (is_white (get_or doc (from + 5) 0)) (eqb (get_or doc (from + 5) 0) question)
        (sym (ap is_white (content_byte (from + 5) 3 e.0 (omega arith))) ∙ e.1)) d.ends

    declared_right : Declared → right ≡ true
    declared_right d = declares_right doc from n right o (λ j l w. declared_byte d j l, λ l. declared_next d)

    right_declared : right ≡ true → name_of content ≡ 3 → Declared
    right_declared e f =
        let d = right_declares doc from n right o e in
        let ends = subst (EndsAt is_white content) f (name_len_least content).has in
        let long : 3 ≤ length content = ⊎_elim (λ g. omega arith) (λ g. omega (arith, g.0)) ends in
        record {
          word =
              begins_all content xml long
              (λ j l. content_byte (from + suc (suc j)) j (omega arith) (omega arith) ∙ d.0 (suc (suc j)) (omega arith) (omega (arith, content_long)));
          ends = ends;
        }

    decl_is : is_decl content ≡ (right && eqb (name_of content) 3)
    decl_is =
        agree (is_decl content) (right && eqb (name_of content) 3)
        (λ e. declared_decl (right_declared (and_left right (eqb (name_of content) 3) e)
        (eqb-true (name_of content) 3 (and_right right (eqb (name_of content) 3) e))))
        (λ e. must_fail (is_decl content)
        (λ g. let d = decl_declared g in
        clash (right && eqb (name_of content) 3) (and_both right (eqb (name_of content) 3) (declared_right d) (eq-eqb (name_of content) 3 (declared_name d))) e))

-- a declaration has a name of 3 bytes
module _ (r : Reader) (piece inside : Span) (right : Bool) where
  abbrev instruction : Kind → ℕ → Event
  instruction kind n = event kind piece inside n

  by_decl : (n : ℕ) (x : Bool) → (x ≡ true → n ≡ 3)
      → pick x (told r (instruction Kind.Decl n) Phase.InsideText) (told r (instruction Kind.PI n) Phase.InsideText)
      ≡ told r (pick x (instruction Kind.Decl 3) (instruction Kind.PI n)) Phase.InsideText
  by_decl n true f = ap (λ (m : ℕ). told r (instruction Kind.Decl m) Phase.InsideText) (f refl)
  by_decl n false f = refl

  event_is : (n m : ℕ) (d : Bool) → m ≡ n → d ≡ (right && eqb m 3)
      → pick (right && eqb n 3) (told r (instruction Kind.Decl n) Phase.InsideText) (told r (instruction Kind.PI n) Phase.InsideText)
      ≡ told r (pick d (instruction Kind.Decl 3) (instruction Kind.PI m)) Phase.InsideText
  event_is n m d e f = by_decl n (right && eqb n 3) (λ q. eqb-true n 3 (and_right right (eqb n 3) q)) ∙ sym (rw (f, e))

module _ (doc : List ℕ) (r : Reader) (open_name : Span) (k : Known) (t : Tracks doc open_name k) (l : k.at < length doc) (m : Instructed doc k)
    (c : PiEnd doc k.from k.at) where
  abbrev closed : Span
  closed = span k.from (k.at + 1)

  abbrev Tells : Span → Type 0
  Tells s =
      pick (k.right && eqb (name_len k s) 3)
      (tell r Kind.Decl closed s (name_len k s) Phase.InsideText)
      (tell r Kind.PI closed s (name_len k s) Phase.InsideText)
      ≡ told r (question_event doc closed s) Phase.InsideText

  question_told : k.from + 3 ≤ k.at → Tells (span (k.from + 2) (k.at + 1 - 2))
  unfolding question_event tell
  question_told h =
      event_is r closed (span (k.from + 2) (k.at + 1 - 2)) k.right (name_len k (span (k.from + 2) (k.at + 1 - 2)))
      (name_of (content doc k.from k.at l h)) (is_decl (content doc k.from k.at l h))
      (name_is doc k.from k.at k.name (k.from + 2) (k.at + 1 - 2) t.name
      (name_low doc k.from k.at k.name (omega arith) m.first m.second t.name) (omega arith) (omega arith) (omega arith) (omega arith))
      (decl_is doc k.from k.at l h k.right m.first m.second c m.opener)

  instruction_told : instruction_of r k closed ≡ emit_question_mark doc r closed
  unfolding instruction_of emit_question_mark stop
  instruction_told =
      pick_else (ltb (size closed) 4) _ _ _
      (λ e. let far = ltb-false (size closed) 4 e in
      subst Tells (sym (inner_to k.from (k.at + 1) 2 2 (k.at + 1 - 2) (omega arith) (omega arith))) (question_told (omega arith)))

pub instruction_closed : (doc : List ℕ) (r : Reader) (open_name : Span) (room : Depth) (k : Known) → Tracks doc open_name k → k.at < length doc
    → k.part ≡ Part.Instruction → Means doc k Part.Instruction → ends_in k (get_or doc k.at 0) Part.Instruction ≡ true
    → closed_in r k open_name room (get_or doc k.at 0) Part.Instruction ≡ taken doc r open_name room (cut_next doc k.from)
instruction_closed doc r open_name room k t l e m x =
    let c = instruction_ends doc open_name k t l m x in
    closed_by doc r open_name room k Part.Instruction Shape.QuestionMark (unclosed_question doc (at k.from)) question 1 1 e (instruction_looked doc k m) t c
    (instruction_told doc r open_name k t l m c)
