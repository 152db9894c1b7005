-- What a cut at a place gives: a piece that starts there and ends in the document, where its next phase may stand and no character goes across; or a refusal
-- of bytes that start there. Assumes nothing.
use Prim.Native.Nat.{ℕ, ◌+◌, ◌-◌, ◌≤◌, ◌<◌}
use mathlib.Core.Path.{◌≡◌, refl, ap}
use mathlib.Core.List.{List, ◌∷◌}
use mathlib.Core.Bool.{true}
use mathlib.Core.Logic.{inl, inr}
use native.Mathlib.Omega.{arith}
use lib.ListN.{length, drop, get_or}
use lib.Dec.{eqb, leb}
use borrow.Author.Tests.{eqb-true, eqb-false, leb-true}
use Rattle.ground.specs.Bytes.{amp, bang, gt, hyphen, lower_d, lt, open_bracket, question, semicolon, slash, upper_d}
use Rattle.ground.specs.Equal.{begins}
use Rattle.ground.proofs.Choices.{pick_cases}
use Rattle.ground.proofs.First.{found_has}
use Rattle.ground.proofs.Lists.{byte_past, stands_in}
use Rattle.white.specs.White.{is_white}
use Rattle.utf8.proofs.Places.{Border}
use Rattle.parser.specs.Element.{element_found}
use Rattle.parser.specs.First.{text_found, reference_found, Among, text_ends, reference_ends}
use Rattle.parser.specs.Marks.{pi_found, comment_found, cdata_found}
use Rattle.parser.specs.declared.element.ElementState.{ElementState}
use Rattle.parser.specs.declared.element.Found.{Found as TagFound}
use Rattle.parser.specs.declared.first.Found.{Found as FirstFound}
use Rattle.parser.specs.declared.marks.Found.{Found as MarksFound}
use Rattle.parser.proofs.Cases.{first_cases, tag_cases, marks_cases}
use Rattle.parser.proofs.Words.{element_gives, pi_gives, comment_gives, cdata_gives, text_gives, reference_gives}
use Rattle.state.specs.declared.place.Span.{Span}
use Rattle.state.specs.declared.answer.Error.{Error}
use Rattle.state.specs.declared.answer.Refusal.{Refusal}
use Rattle.state.specs.declared.run.Phase.{Phase}
use Rattle.state.specs.Place.{at, span}
use Rattle.state.specs.Values.{numbered_of, ends_run}
use Rattle.emit.specs.Question.{xml, unclosed_question}
use Rattle.reader.specs.declared.piece.Shape.{Shape}
use Rattle.reader.specs.declared.piece.Piece.{Piece}
use Rattle.reader.specs.declared.piece.Cut.{Cut}
use Rattle.reader.specs.Left.{Left, at_length, at_lone_bracket, at_start}
use Rattle.reader.specs.Cut.{whole, stop, phase_at, cut_text, cut_ref, unclosed_tag, cut_tag, cut_marked, cut_bang, cut_question, cut_markup, cut_next}

-- how many bytes a piece has at least
abbrev pub fewest : Shape → ℕ
fewest Shape.Text = 1
fewest Shape.LastText = 0
fewest Shape.GeneralRef = 1
fewest Shape.Dangling = 1
fewest Shape.Comment = 1
fewest Shape.CData = 1
fewest Shape.QuestionMark = 1
fewest Shape.End = 1
fewest Shape.Start = 2

-- markup begins with `<`, what is no tag ends with `>`, and the last text with the document
abbrev pub Edges : List ℕ → ℕ → ℕ → Shape → Type 0
Edges doc from to Shape.Text = Unit {0}
Edges doc from to Shape.LastText = to ≡ length doc
Edges doc from to Shape.GeneralRef = Unit {0}
Edges doc from to Shape.Dangling = Unit {0}
Edges doc from to Shape.Comment = (get_or doc from 0 ≡ lt) × (get_or doc (to - 1) 0 ≡ gt)
Edges doc from to Shape.CData = (get_or doc from 0 ≡ lt) × (get_or doc (to - 1) 0 ≡ gt)
Edges doc from to Shape.QuestionMark = (get_or doc from 0 ≡ lt) × (get_or doc (to - 1) 0 ≡ gt)
Edges doc from to Shape.End = get_or doc from 0 ≡ lt
Edges doc from to Shape.Start = get_or doc from 0 ≡ lt

-- a phase that comes after a piece may stand where the piece ends
abbrev pub Lands : List ℕ → ℕ → Phase → Type 0
Lands doc to Phase.Init = ⊥
Lands doc to Phase.InsideText = Unit {0}
Lands doc to Phase.InsideMarkup = get_or doc to 0 ≡ lt
Lands doc to Phase.InsideRef = get_or doc to 0 ≡ amp
Lands doc to Phase.InsideEmpty = ⊥
Lands doc to Phase.Done = to ≡ length doc

-- a number of a refusal that a call gives and that says nothing of names: neither 10, 11 nor 16, 17
abbrev pub Plain : ℕ → Type 0
Plain n = (n ≡ 10 → ⊥) × (n ≡ 11 → ⊥) × (n ≡ 16 → ⊥) × (n ≡ 17 → ⊥)

-- an error with such a number, and none of 9, 13 and 18, which tell places of their own
abbrev pub PlainError : Error → Type 0
PlainError e = Plain (numbered_of e).number × ((numbered_of e).number ≡ 9 → ⊥) × ((numbered_of e).number ≡ 13 → ⊥) × ((numbered_of e).number ≡ 18 → ⊥)

-- such an error that ends the run
abbrev pub StopError : Error → Type 0
StopError e = PlainError e × (ends_run (numbered_of e).number ≡ true)

-- and is given where something is not closed
abbrev OpenError : Error → Type 0
OpenError e = StopError e × ((numbered_of e).number ≤ 7)

-- a span from `from` on, in the document
pub record Lies (doc : List ℕ) (from : ℕ) (s : Span) : Type 0 where
  pub starts : s.from ≡ from
  pub ends : from ≤ s.to
  pub within : s.to ≤ length doc

-- a piece that is cut off at `from`
pub record CutOff (doc : List ℕ) (from : ℕ) (p : Piece) : Type 0 where
  pub lies : Lies doc from p.span
  pub moves : from + fewest p.shape ≤ p.span.to
  pub edges : Edges doc from p.span.to p.shape
  pub lands : Lands doc p.span.to p.next
  pub border : Border doc p.span.to

-- a refusal of what starts at `from`
pub record Halted (doc : List ℕ) (from : ℕ) (x : Refusal) : Type 0 where
  pub lies : Lies doc from x.piece
  pub plain : StopError x.error
  pub left : Left doc (numbered_of x.error).number x.piece

abbrev pub CutAt : List ℕ → ℕ → Cut → Type 0
CutAt doc from (Cut.Piece p) = CutOff doc from p
CutAt doc from (Cut.Stop x) = Halted doc from x

-- the phase at a `<` or `&`
phase_lands : (doc : List ℕ) (end : ℕ) → Among text_ends (get_or doc end 0) → Lands doc end (phase_at doc end)
unfolding phase_at
phase_lands doc end among =
    pick_cases (Lands doc end) (eqb (get_or doc end 0) lt) _ _
    (λ e. eqb-true _ _ e)
    (λ e. other (eqb-false _ _ e) among)
  where
    other : (get_or doc end 0 ≡ lt → ⊥) → Among text_ends (get_or doc end 0) → get_or doc end 0 ≡ amp
    other n (inl h) = absurd (n h)
    other n (inr (inl h)) = h
    other n (inr (inr x'')) = elim x'' [ ]

-- no character goes across a place with a `<` or `&`, the document's end, or a place right behind a byte up to 7F
text_border : (doc : List ℕ) (end : ℕ) → Among text_ends (get_or doc end 0) → Border doc end
text_border doc end (inl e) = inl (omega arith)
text_border doc end (inr (inl e)) = inl (omega arith)
text_border doc end (inr (inr x'')) = elim x'' [ ]

last_border : (doc : List ℕ) → Border doc (length doc)
last_border doc = inl (omega (arith, byte_past doc (length doc) (omega arith)))

closed_border : (doc : List ℕ) (p : ℕ) → get_or doc p 0 ≤ 0x7F → Border doc (p + 1)
closed_border doc p h = let back : p + 1 - 1 ≡ p = omega arith in inr (rw back h)

unclosed_tag_lem : (found : TagFound) → OpenError (unclosed_tag found)
unfolding unclosed_tag
unclosed_tag_lem (TagFound.At end) = ((omega arith, refl), omega arith)
unclosed_tag_lem (TagFound.Open ElementState.Outside) = ((omega arith, refl), omega arith)
unclosed_tag_lem (TagFound.Open ElementState.SingleQ) = ((omega arith, refl), omega arith)
unclosed_tag_lem (TagFound.Open ElementState.DoubleQ) = ((omega arith, refl), omega arith)

unclosed_question_lem : (doc : List ℕ) (from : ℕ) → OpenError (unclosed_question doc (at from))
unfolding unclosed_question
unclosed_question_lem doc from =
    pick_cases OpenError (begins (drop from doc) (lt ∷ question ∷ xml)) _ _
    (λ _. pick_cases OpenError (leb (length doc) (from + 5)) _ _
    (λ _. ((omega arith, refl), omega arith))
    (λ _. pick_cases OpenError (eqb (get_or doc (from + 5) 0) question) _ _
    (λ _. ((omega arith, refl), omega arith))
    (λ _. pick_cases OpenError (is_white (get_or doc (from + 5) 0)) _ _ (λ _. ((omega arith, refl), omega arith)) (λ _. ((omega arith, refl), omega arith)))))
    (λ _. ((omega arith, refl), omega arith))

module _ (doc : List ℕ) (from : ℕ) where
  abbrev Here : Cut → Type 0
  Here = CutAt doc from

  whole_cut : (shape : Shape) (to : ℕ) (next : Phase) → from ≤ to → to ≤ length doc → from + fewest shape ≤ to → Edges doc from to shape → Lands doc to next → Border doc to → Here (whole shape from to next)
  unfolding whole
  whole_cut shape to next h k m o l b = record { lies = record { starts = refl; ends = h; within = k }; moves = m; edges = o; lands = l; border = b }

  stop_cut : (error : Error) (left : ℕ) → from ≤ left → left ≤ length doc → StopError error → Left doc (numbered_of error).number (span from left)
      → Here (stop error from left)
  unfolding stop
  stop_cut error left h k p l = record { lies = record { starts = refl; ends = h; within = k }; plain = p; left = l }

  module _ (h : from ≤ length doc) where
    text_cut : (get_or doc from 0 ≡ lt → ⊥) → (get_or doc from 0 ≡ amp → ⊥) → Here (cut_text doc from)
    unfolding cut_text
    text_cut l a =
        first_cases Here (text_found doc from) _ _
        (λ p e. let t = found_has FirstFound.At _ _ (text_gives doc from) (text_found doc from) p refl e in
        let o : from ≡ p → ⊥ = λ z. here (rw z t.among) in
        whole_cut Shape.Text p (phase_at doc p) t.after (omega (arith, t)) (omega (arith, t.after)) tt (phase_lands doc p t.among) (text_border doc p t.among))
        (λ _. whole_cut Shape.LastText (length doc) Phase.Done h (omega arith) (omega arith) refl refl (last_border doc))
      where
        here : Among text_ends (get_or doc from 0) → ⊥
        here (inl e) = l e
        here (inr (inl e)) = a e
        here (inr (inr x'')) = elim x'' [ ]

    pub ref_cut : get_or doc from 0 ≡ amp → Here (cut_ref doc from)
    unfolding cut_ref
    ref_cut a =
        let i : from < length doc = stands_in doc from amp a (omega arith) in
        first_cases Here (reference_found doc from) _ _
        (λ p e. let t = found_has FirstFound.At _ _ (reference_gives doc from) (reference_found doc from) p refl e in
        pick_cases Here (eqb (get_or doc p 0) semicolon) _ _
        (λ y. whole_cut Shape.GeneralRef (p + 1) Phase.InsideText (omega (arith, t)) (omega (arith, t)) (omega (arith, t)) tt tt (closed_border doc p (omega (arith, eqb-true (get_or doc p 0) semicolon y))))
        (λ n. let among = not_first (eqb-false _ _ n) t.among in
        whole_cut Shape.Dangling p (phase_at doc p) (omega (arith, t)) (omega (arith, t)) (omega (arith, t)) tt (phase_lands doc p among) (text_border doc p among)))
        (λ _. whole_cut Shape.Dangling (length doc) Phase.Done h (omega arith) (omega arith) tt refl (last_border doc))
      where
        not_first : {b : ℕ} → (b ≡ semicolon → ⊥) → Among reference_ends b → Among text_ends b
        not_first n (inl e) = absurd (n e)
        not_first n (inr (inl e)) = inr (inl e)
        not_first n (inr (inr (inl e))) = inl e
        not_first {b = b} n (inr (inr (inr x3))) = elim x3 [ ]

    -- a piece up to the `>` at p, which was found
    closed : (shape : Shape) (p : ℕ) → from + fewest shape ≤ p + 1 → p < length doc → get_or doc p 0 ≡ gt
        → ((to : ℕ) → get_or doc (to - 1) 0 ≡ gt → Edges doc from to shape) → Here (whole shape from (p + 1) Phase.InsideText)
    closed shape p m t g o =
        let last : p + 1 - 1 ≡ p = omega arith in
        whole_cut shape (p + 1) Phase.InsideText (omega arith) (omega arith) m (o (p + 1) (rw last g)) tt (closed_border doc p (omega arith))

    unclosed : (error : Error) → OpenError error → Here (stop error from (length doc))
    unclosed error p = stop_cut error (length doc) h (omega arith) p.0 (at_length p.1 refl)

    kept : (error : Error) → StopError error → Left doc (numbered_of error).number (span from from) → Here (stop error from from)
    kept error p l = stop_cut error from (omega arith) h p l

    -- markup, at a `<`
    module _ (l : get_or doc from 0 ≡ lt) where
      -- its `>` stands behind the `<`
      tag_cut : (shape : Shape) → fewest shape ≤ 2 → ((to : ℕ) → get_or doc (to - 1) 0 ≡ gt → Edges doc from to shape) → Here (cut_tag doc from shape)
      unfolding cut_tag
      tag_cut shape f o =
          tag_cases Here (element_found doc from) _ _
          (λ p e. let t = found_has TagFound.At _ _ (element_gives doc from) (element_found doc from) p refl e in
          let apart : from ≡ p → ⊥ = λ z. omega (arith, t.closes, ap (λ (k : ℕ). get_or doc k 0) z) in
          closed shape p (omega (arith, t.after)) t.within t.closes o)
          (unclosed _ (unclosed_tag_lem (element_found doc from)))

      marked_cut : (found : MarksFound) (shape : Shape) (error : Error) → fewest shape ≤ 1 → ((to : ℕ) → get_or doc (to - 1) 0 ≡ gt → Edges doc from to shape) → OpenError error
          → ((p : ℕ) → found ≡ MarksFound.At p → (from ≤ p) × (p < length doc) × (get_or doc p 0 ≡ gt)) → Here (cut_marked doc from found shape error)
      unfolding cut_marked
      marked_cut found shape error f o q w = marks_cases Here found _ _ (λ p e. closed shape p (omega (arith, (w p e).0)) (w p e).1 (w p e).2 o) (unclosed error q)

      bang_cut : (third : ℕ) → Here (cut_bang doc from third)
      unfolding cut_bang
      bang_cut third =
          pick_cases Here (eqb third open_bracket) _ _
          (λ _. marked_cut (cdata_found doc from) Shape.CData Error.UnclosedCData (omega arith) (λ _ g. (l, g)) ((omega arith, refl), omega arith)
          (λ p e. let t = found_has MarksFound.At _ _ (cdata_gives doc from) (cdata_found doc from) p refl e in omega (arith, t)))
          (λ _. pick_cases Here (eqb third hyphen) _ _
          (λ _. marked_cut (comment_found doc from) Shape.Comment Error.UnclosedComment (omega arith) (λ _ g. (l, g)) ((omega arith, refl), omega arith)
          (λ p e. let t = found_has MarksFound.At _ _ (comment_gives doc from) (comment_found doc from) p refl e in omega (arith, t)))
          (λ _. pick_cases Here (eqb third upper_d) _ _
          (λ _. kept Error.DocType (omega arith, refl) (at_start (inr (inl refl)) refl))
          (λ _. pick_cases Here (eqb third lower_d) _ _
          (λ _. kept Error.DocType (omega arith, refl) (at_start (inr (inl refl)) refl))
          (λ _. kept Error.InvalidBangMarkup (omega arith, refl) (at_start (inl refl) refl)))))

      question_cut : Here (cut_question doc from)
      unfolding cut_question
      question_cut =
          marks_cases Here (pi_found doc from) _ _
          (λ p e. let t = found_has MarksFound.At _ _ (pi_gives doc from) (pi_found doc from) p refl e in closed Shape.QuestionMark p (omega (arith, t)) (omega (arith, t)) t.closes (λ _ g. (l, g)))
          (unclosed _ (unclosed_question_lem doc from))

      pub markup_cut : Here (cut_markup doc from)
      unfolding cut_markup
      markup_cut =
          pick_cases Here (leb (length doc) (from + 1)) _ _
          (λ e. kept Error.UnclosedTag (omega arith, refl) (at_lone_bracket refl refl l (omega (arith, leb-true (length doc) (from + 1) e, stands_in doc from lt l (omega arith)))))
          (λ _. pick_cases Here (eqb (get_or doc (from + 1) 0) bang) _ _
          (λ _. bang_cut (get_or doc (from + 2) 0))
          (λ _. pick_cases Here (eqb (get_or doc (from + 1) 0) question) _ _
          (λ _. question_cut)
          (λ _. pick_cases Here (eqb (get_or doc (from + 1) 0) slash) _ _ (λ _. tag_cut Shape.End (omega arith) (λ _ _. l)) (λ _. tag_cut Shape.Start (omega arith) (λ _ _. l)))))

    pub next_cut : Here (cut_next doc from)
    unfolding cut_next
    next_cut =
        pick_cases Here (eqb (get_or doc from 0) lt) _ _
        (λ l. markup_cut (eqb-true _ _ l))
        (λ l. pick_cases Here (eqb (get_or doc from 0) amp) _ _
        (λ a. ref_cut (eqb-true _ _ a))
        (λ a. text_cut (eqb-false _ _ l) (eqb-false _ _ a)))
