-- A piece that is whole in the bytes so far is cut off as it is when more have come, one law to a definition of the reader's Cut. Assumes nothing.
use Prim.Native.Nat.{ℕ, ◌+◌, ◌≤◌, ◌<◌}
use mathlib.Core.Path.{◌≡◌, refl, ap, ◌∙◌}
use mathlib.Core.Bool.{Bool, true, false}
use mathlib.Core.List.{List, ◌++◌}
use native.Mathlib.Omega.{arith}
use lib.ListN.{length, get_or}
use lib.Dec.{eqb}
use borrow.Author.Tests.{eqb-true, eqb-false, lt-leb}
use Rattle.ground.specs.Bytes.{amp, bang, hyphen, lt, open_bracket, question, slash}
use Rattle.ground.specs.Choose.{pick}
use Rattle.ground.proofs.First.{found_has}
use Rattle.ground.proofs.Lists.{stands_in}
use Rattle.parser.specs.Element.{element_answer, element_found}
use Rattle.parser.specs.First.{first_answer, first_found, reference_found, text_found}
use Rattle.parser.specs.Marks.{marks_answer, marks_found, cdata_found, comment_found, pi_found}
use Rattle.parser.specs.declared.element.Found.{Found as TagFound}
use Rattle.parser.specs.declared.first.Found.{Found as FirstFound}
use Rattle.parser.specs.declared.marks.Found.{Found as MarksFound}
use Rattle.parser.proofs.Words.{text_gives, reference_gives}
use Rattle.state.specs.declared.answer.Error.{Error}
use Rattle.reader.specs.declared.piece.Shape.{Shape}
use Rattle.reader.specs.Cut.{phase_at, cut_text, cut_ref, cut_tag, cut_marked, cut_bang, cut_question, cut_markup, cut_next}
use Rattle.arrivals.proofs.Stays.{grows, byte_stays, scan_stays}
use Rattle.arrivals.proofs.Ended.{tag_at, marks_at, first_at, Ended, text, reference, tag, instruction, cdata, comment, other}

-- two choices by one test
pub both_picked : {A : Type 0} (t : Bool) (x y x' y' : A) → (t ≡ true → x ≡ x') → (t ≡ false → y ≡ y') → pick t x y ≡ pick t x' y'
both_picked true x y x' y' f g = f refl
both_picked false x y x' y' f g = g refl

-- ---- the scans

module _ (doc more : List ℕ) (from p : ℕ) (h : from ≤ length doc) where
  element_stays : element_found doc from ≡ TagFound.At p → element_found (doc ++ more) from ≡ TagFound.At p
  element_stays e = ap element_answer (scan_stays doc more _ _ from p h (tag_at p _ e))

  marks_stays : (opener mark need : ℕ) → marks_found opener mark need doc from ≡ MarksFound.At p
      → marks_found opener mark need (doc ++ more) from ≡ MarksFound.At p
  marks_stays opener mark need e = ap marks_answer (scan_stays doc more _ _ from p h (marks_at p _ e))

  first_stays : (test : ℕ → Bool) → first_found test doc from ≡ FirstFound.At p → first_found test (doc ++ more) from ≡ FirstFound.At p
  first_stays test e = ap first_answer (scan_stays doc more _ _ from p h (first_at p _ e))

-- ---- the pieces

module _ (doc more : List ℕ) (from : ℕ) where
  phase_same : (end : ℕ) → end < length doc → phase_at (doc ++ more) end ≡ phase_at doc end
  unfolding phase_at
  phase_same end h = rw (byte_stays doc more end h)

  text_same : (p : ℕ) → text_found doc from ≡ FirstFound.At p → cut_text (doc ++ more) from ≡ cut_text doc from
  unfolding cut_text
  text_same p e =
      let t = found_has FirstFound.At _ _ (text_gives doc from) (text_found doc from) p refl e in
      rw (first_stays doc more from p (omega (arith, t)) _ e, e, phase_same p t.within)

  ref_same : (p : ℕ) → reference_found doc from ≡ FirstFound.At p → cut_ref (doc ++ more) from ≡ cut_ref doc from
  unfolding cut_ref
  ref_same p e =
      let t = found_has FirstFound.At _ _ (reference_gives doc from) (reference_found doc from) p refl e in
      rw (first_stays doc more (from + 1) p (omega (arith, t)) _ e, e, byte_stays doc more p t.within, phase_same p t.within)

  -- ---- markup

  module _ (h : from ≤ length doc) where
    tag_same : (p : ℕ) (shape : Shape) → element_found doc from ≡ TagFound.At p → cut_tag (doc ++ more) from shape ≡ cut_tag doc from shape
    unfolding cut_tag
    tag_same p shape e = rw (element_stays doc more from p h e, e)

    marked_same : (p opener mark need : ℕ) (shape : Shape) (error : Error) → marks_found opener mark need doc from ≡ MarksFound.At p
        → cut_marked (doc ++ more) from (marks_found opener mark need (doc ++ more) from) shape error
        ≡ cut_marked doc from (marks_found opener mark need doc from) shape error
    unfolding cut_marked
    marked_same p opener mark need shape error e = rw (marks_stays doc more from p h opener mark need e, e)

    bang_same : (third : ℕ) → (third ≡ open_bracket → (p : ℕ) × (cdata_found doc from ≡ MarksFound.At p))
        → (third ≡ hyphen → (p : ℕ) × (comment_found doc from ≡ MarksFound.At p)) → cut_bang (doc ++ more) from third ≡ cut_bang doc from third
    unfolding cut_bang
    bang_same third f g =
        both_picked (eqb third open_bracket) _ _ _ _
        (λ x. let e = f (eqb-true _ _ x) in marked_same e.0 _ _ _ Shape.CData Error.UnclosedCData e.1)
        (λ _. both_picked (eqb third hyphen) _ _ _ _
        (λ x. let e = g (eqb-true _ _ x) in marked_same e.0 _ _ _ Shape.Comment Error.UnclosedComment e.1)
        (λ _. refl))

    question_same : (p : ℕ) → pi_found doc from ≡ MarksFound.At p → cut_question (doc ++ more) from ≡ cut_question doc from
    unfolding cut_question
    question_same p e = rw (marks_stays doc more from p h _ _ _ e, e)

  module _ (h : from + 1 < length doc) where
    markup_by : (get_or doc (from + 1) 0 ≡ bang → cut_bang (doc ++ more) from (get_or (doc ++ more) (from + 2) 0) ≡ cut_bang doc from (get_or doc (from + 2) 0))
        → (get_or doc (from + 1) 0 ≡ question → cut_question (doc ++ more) from ≡ cut_question doc from)
        → ((get_or doc (from + 1) 0 ≡ bang → ⊥) → (get_or doc (from + 1) 0 ≡ question → ⊥) → (shape : Shape)
        → cut_tag (doc ++ more) from shape ≡ cut_tag doc from shape)
        → cut_markup (doc ++ more) from ≡ cut_markup doc from
    unfolding cut_markup
    markup_by f g k =
        rw (
          lt-leb (length (doc ++ more)) (from + 1) (omega (arith, grows doc more)),
          lt-leb (length doc) (from + 1) h,
          byte_stays doc more (from + 1) h,
        )
        (both_picked (eqb (get_or doc (from + 1) 0) bang) _ _ _ _
        (λ x. f (eqb-true _ _ x))
        (λ x. both_picked (eqb (get_or doc (from + 1) 0) question) _ _ _ _
        (λ y. g (eqb-true _ _ y))
        (λ y. both_picked (eqb (get_or doc (from + 1) 0) slash) _ _ _ _
        (λ _. k (eqb-false _ _ x) (eqb-false _ _ y) Shape.End)
        (λ _. k (eqb-false _ _ x) (eqb-false _ _ y) Shape.Start))))

    -- `<!` and a third byte
    banged : get_or doc (from + 1) 0 ≡ bang → from + 2 < length doc
        → (get_or doc (from + 2) 0 ≡ open_bracket → (p : ℕ) × (cdata_found doc from ≡ MarksFound.At p))
        → (get_or doc (from + 2) 0 ≡ hyphen → (p : ℕ) × (comment_found doc from ≡ MarksFound.At p))
        → cut_markup (doc ++ more) from ≡ cut_markup doc from
    banged b l f g =
        markup_by
        (λ _. ap (cut_bang (doc ++ more) from) (byte_stays doc more (from + 2) l) ∙ bang_same (omega arith) _ f g)
        (λ q. absurd (omega arith))
        (λ n. absurd (n b))

  -- ---- by what the piece is

  pub markup_same : get_or doc from 0 ≡ lt → Ended doc from → cut_markup (doc ++ more) from ≡ cut_markup doc from
  markup_same l (text p n m e) = absurd (n l)
  markup_same l (reference p a e) = absurd (omega arith)
  markup_same l (tag p _ h n m e) = markup_by h (λ b. absurd (n b)) (λ q. absurd (m q)) (λ _ _ shape. tag_same (omega arith) p shape e)
  markup_same l (instruction p _ q e) =
      let h : from + 1 < length doc = stands_in doc (from + 1) question q (omega arith) in
      markup_by h (λ b. absurd (omega arith)) (λ _. question_same (omega arith) p e) (λ _ m. absurd (m q))
  markup_same l (cdata p _ b t e) =
      let h : from + 2 < length doc = stands_in doc (from + 2) open_bracket t (omega arith) in
      banged (omega arith) b h (λ _. (p, e)) (λ t'. absurd (omega arith))
  markup_same l (comment p _ b t e) =
      let h : from + 2 < length doc = stands_in doc (from + 2) hyphen t (omega arith) in
      banged (omega arith) b h (λ t'. absurd (omega arith)) (λ _. (p, e))
  markup_same l (other _ b h n m) = banged (omega arith) b h (λ t. absurd (n t)) (λ t. absurd (m t))

  pub reference_same : get_or doc from 0 ≡ amp → Ended doc from → cut_ref (doc ++ more) from ≡ cut_ref doc from
  reference_same a (text p n m e) = absurd (m a)
  reference_same a (reference p _ e) = ref_same p e
  reference_same a (tag p l _ _ _ _) = absurd (omega arith)
  reference_same a (instruction p l _ _) = absurd (omega arith)
  reference_same a (cdata p l _ _ _) = absurd (omega arith)
  reference_same a (comment p l _ _ _) = absurd (omega arith)
  reference_same a (other l _ _ _ _) = absurd (omega arith)

  other_same : (get_or doc from 0 ≡ lt → ⊥) → (get_or doc from 0 ≡ amp → ⊥) → Ended doc from → cut_text (doc ++ more) from ≡ cut_text doc from
  other_same n m (text p _ _ e) = text_same p e
  other_same n m (reference p a _) = absurd (m a)
  other_same n m (tag p l _ _ _ _) = absurd (n l)
  other_same n m (instruction p l _ _) = absurd (n l)
  other_same n m (cdata p l _ _ _) = absurd (n l)
  other_same n m (comment p l _ _ _) = absurd (n l)
  other_same n m (other l _ _ _ _) = absurd (n l)

  -- LAW: a piece that is whole is cut off as it is when more have come
  pub next_same : from < length doc → Ended doc from → cut_next (doc ++ more) from ≡ cut_next doc from
  unfolding cut_next
  next_same h w =
      rw (byte_stays doc more from h)
      (both_picked (eqb (get_or doc from 0) lt) _ _ _ _
      (λ x. markup_same (eqb-true _ _ x) w)
      (λ x. both_picked (eqb (get_or doc from 0) amp) _ _ _ _
      (λ y. reference_same (eqb-true _ _ y) w)
      (λ y. other_same (eqb-false _ _ x) (eqb-false _ _ y) w)))
