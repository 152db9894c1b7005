-- What is cut off a document next, by the first bytes there and by the end that is found. Assumes nothing.
use Prim.Native.Nat.{ℕ, ◌+◌, ◌≤◌, ◌<◌}
use mathlib.Core.Path.{◌≡◌, refl, sym, ◌∙◌}
use mathlib.Core.List.{List}
use mathlib.Core.Bool.{Bool, true, false, ◌||◌}
use native.Mathlib.Omega.{arith}
use lib.ListN.{length, get_or}
use lib.Dec.{eqb}
use borrow.Author.Tests.{ne_eqb, lt-leb, le-leb}
use Rattle.ground.specs.Bytes.{amp, bang, hyphen, lower_d, lt, open_bracket, question, semicolon, slash, upper_d}
use Rattle.ground.specs.Choose.{pick}
use Rattle.ground.proofs.Lists.{stands_in}
use Rattle.parser.specs.Element.{element_found}
use Rattle.parser.specs.First.{text_found, reference_found}
use Rattle.parser.specs.Marks.{pi_found}
use Rattle.parser.specs.declared.element.ElementState.{ElementState}
use Rattle.parser.specs.declared.element.Found.{Found as TagFound}
use Rattle.parser.specs.declared.first.Found.{Found as FirstFound}
use Rattle.parser.specs.declared.marks.Found.{Found as MarksFound}
use Rattle.parser.proofs.Cases.{marks_cases}
use Rattle.state.specs.declared.answer.Error.{Error}
use Rattle.state.specs.declared.run.Phase.{Phase}
use Rattle.state.specs.Place.{at}
use Rattle.emit.specs.Question.{unclosed_question}
use Rattle.reader.specs.declared.piece.Shape.{Shape}
use Rattle.reader.specs.declared.piece.Cut.{Cut}
use Rattle.reader.specs.Cut.{whole, stop, phase_at, unclosed_tag, cut_text, cut_ref, cut_tag, cut_marked, cut_bang, cut_question, cut_markup, cut_next}
use Rattle.plain.specs.Told.{no_markup}
use Rattle.plain.proofs.Flags.{or_then}

-- ---- by the first byte

module _ (doc : List ℕ) (from : ℕ) where
  pub text_cut : (b : ℕ) → get_or doc from 0 ≡ b → eqb b lt ≡ false → eqb b amp ≡ false → cut_next doc from ≡ cut_text doc from
  unfolding cut_next
  text_cut b e n o = rw (e, n, o)

  pub ref_cut : get_or doc from 0 ≡ amp → cut_next doc from ≡ cut_ref doc from
  unfolding cut_next
  ref_cut e = rw e

  pub markup_cut : get_or doc from 0 ≡ lt → cut_next doc from ≡ cut_markup doc from
  unfolding cut_next
  markup_cut e = rw e

-- ---- markup, by the bytes behind its `<`

module _ (doc : List ℕ) (from : ℕ) (first : get_or doc from 0 ≡ lt) where
  -- there is none
  pub lone_cut : length doc ≤ from + 1 → cut_next doc from ≡ stop Error.UnclosedTag from from
  unfolding cut_markup
  lone_cut h = markup_cut doc from first ∙ rw (le-leb (length doc) (from + 1) h)

  -- `!`
  pub bang_cut : (third : ℕ) → get_or doc (from + 1) 0 ≡ bang → get_or doc (from + 2) 0 ≡ third → cut_next doc from ≡ cut_bang doc from third
  unfolding cut_markup
  bang_cut third e f =
      markup_cut doc from first ∙ rw (lt-leb (length doc) (from + 1) (stands_in doc (from + 1) bang e (omega arith)), e, f)

  -- `?`
  pub question_cut : get_or doc (from + 1) 0 ≡ question → cut_next doc from ≡ cut_marked doc from (pi_found doc from) Shape.QuestionMark (unclosed_question doc (at from))
  unfolding cut_markup cut_question cut_marked
  question_cut e = markup_cut doc from first ∙ rw (lt-leb (length doc) (from + 1) (stands_in doc (from + 1) question e (omega arith)), e)

  -- `/`
  pub end_cut : get_or doc (from + 1) 0 ≡ slash → cut_next doc from ≡ cut_tag doc from Shape.End
  unfolding cut_markup
  end_cut e = markup_cut doc from first ∙ rw (lt-leb (length doc) (from + 1) (stands_in doc (from + 1) slash e (omega arith)), e)

  -- any other
  pub start_cut : from + 1 < length doc → (get_or doc (from + 1) 0 ≡ bang → ⊥) → (get_or doc (from + 1) 0 ≡ question → ⊥) → (get_or doc (from + 1) 0 ≡ slash → ⊥)
      → cut_next doc from ≡ cut_tag doc from Shape.Start
  unfolding cut_markup
  start_cut h n m o =
      markup_cut doc from first
      ∙ rw (
        lt-leb (length doc) (from + 1) h,
        ne_eqb (get_or doc (from + 1) 0) bang n,
        ne_eqb (get_or doc (from + 1) 0) question m,
        ne_eqb (get_or doc (from + 1) 0) slash o,
      )

-- `<!` and neither `[` nor `-`
pub bang_else : (doc : List ℕ) (from b : ℕ) → eqb b open_bracket ≡ false → eqb b hyphen ≡ false → cut_bang doc from b ≡ stop (no_markup b) from from
unfolding cut_bang no_markup
bang_else doc from b n o =
    rw (n, o)
    (sym (or_then (eqb b upper_d) (eqb b lower_d) (stop Error.DocType from from) (stop Error.InvalidBangMarkup from from)) ∙ by (eqb b upper_d || eqb b lower_d))
  where
    by : (t : Bool) → pick t (stop Error.DocType from from) (stop Error.InvalidBangMarkup from from) ≡ stop (pick t Error.DocType Error.InvalidBangMarkup) from from
    by true = refl
    by false = refl

-- ---- by the end that is found, or none

module _ (doc : List ℕ) (from : ℕ) where
  pub text_to : (end : ℕ) → text_found doc from ≡ FirstFound.At end → cut_text doc from ≡ whole Shape.Text from end (phase_at doc end)
  unfolding cut_text
  text_to end e = rw e

  pub text_last : text_found doc from ≡ FirstFound.End → cut_text doc from ≡ whole Shape.LastText from (length doc) Phase.Done
  unfolding cut_text
  text_last e = rw e

  pub ref_to : (end : ℕ) → reference_found doc from ≡ FirstFound.At end → get_or doc end 0 ≡ semicolon
      → cut_ref doc from ≡ whole Shape.GeneralRef from (end + 1) Phase.InsideText
  unfolding cut_ref
  ref_to end e f = rw (e, f)

  pub ref_short : (end : ℕ) → reference_found doc from ≡ FirstFound.At end → (get_or doc end 0 ≡ semicolon → ⊥)
      → cut_ref doc from ≡ whole Shape.Dangling from end (phase_at doc end)
  unfolding cut_ref
  ref_short end e n = rw (e, ne_eqb (get_or doc end 0) semicolon n)

  pub ref_last : reference_found doc from ≡ FirstFound.End → cut_ref doc from ≡ whole Shape.Dangling from (length doc) Phase.Done
  unfolding cut_ref
  ref_last e = rw e

  pub tag_to : (shape : Shape) (end : ℕ) → element_found doc from ≡ TagFound.At end → cut_tag doc from shape ≡ whole shape from (end + 1) Phase.InsideText
  unfolding cut_tag
  tag_to shape end e = rw e

  pub tag_open : (shape : Shape) (s : ElementState) → element_found doc from ≡ TagFound.Open s → cut_tag doc from shape ≡ stop (unclosed_tag (TagFound.Open s)) from (length doc)
  unfolding cut_tag
  tag_open shape s e = rw e

  module _ (found : MarksFound) (shape : Shape) (error : Error) where
    pub marked_to : (end : ℕ) → found ≡ MarksFound.At end → cut_marked doc from found shape error ≡ whole shape from (end + 1) Phase.InsideText
    unfolding cut_marked
    marked_to end e = rw e

    pub marked_open : ((end : ℕ) → found ≡ MarksFound.At end → ⊥) → cut_marked doc from found shape error ≡ stop error from (length doc)
    unfolding cut_marked
    marked_open n = marks_cases (λ (c : Cut). c ≡ stop error from (length doc)) found _ _ (λ p e. absurd (n p e)) refl
