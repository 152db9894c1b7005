-- A piece that is whole in the bytes so far: what it is by its first bytes, and that its own scan finds its end. Assumes nothing.
use Prim.Native.Nat.{ℕ, ◌+◌, ◌≤◌, ◌<◌}
use mathlib.Core.Path.{◌≡◌, refl, sym, ap, ◌∙◌}
use mathlib.Core.List.{List}
use mathlib.Core.Bool.{true, false}
use native.Mathlib.Omega.{arith}
use lib.ListN.{length, get_or, drop, length-drop}
use lib.Seq.{drop-drop, get_or-drop}
use lib.Dec.{eqb, leb}
use borrow.Author.Tests.{eqb-true, eqb-false, leb-false}
use Rattle.ground.specs.Bytes.{amp, bang, hyphen, lt, open_bracket, question}
use Rattle.ground.proofs.Choices.{pick_cases}
use Rattle.parser.specs.Machine.{Next, Scan as Course, found, going, feed, scan_at}
use Rattle.parser.specs.Element.{element_answer, element_found}
use Rattle.parser.specs.First.{first_answer, reference_found, text_found}
use Rattle.parser.specs.Marks.{marks_answer, marks_found, cdata_found, comment_found, pi_found}
use Rattle.parser.specs.declared.element.ElementState.{ElementState}
use Rattle.parser.specs.declared.marks.Marks.{Marks}
use Rattle.parser.specs.declared.element.Found.{Found as TagFound}
use Rattle.parser.specs.declared.first.Found.{Found as FirstFound}
use Rattle.parser.specs.declared.marks.Found.{Found as MarksFound}
use Rattle.state.specs.Limits.{longest}
use Rattle.pieces.specs.declared.scan.Kind.{Kind}
use Rattle.pieces.specs.declared.scan.State.{State}
use Rattle.pieces.specs.declared.scan.Told.{Told}
use Rattle.pieces.specs.declared.scan.Fed.{Fed}
use Rattle.pieces.specs.Kinds.{mark_of, need_of, opener_of}
use Rattle.pieces.specs.Pieces.{tag_fed, marked_fed, first_fed, bang_fed, markup_fed, piece_fed}
use Rattle.pieces.proofs.Machine.{moved, feed_moved}
use Rattle.pieces.proofs.Whole.{whole_piece}
use Rattle.pieces.proofs.Theorems.{tag_back, marked_back, first_back, found_open}
use Rattle.arrivals.specs.Whole.{Closes}

-- a piece at `from` with its end
pub data Ended (doc : List ℕ) (from : ℕ) : Type 0 where
  text : (p : ℕ) → (get_or doc from 0 ≡ lt → ⊥) → (get_or doc from 0 ≡ amp → ⊥) → text_found doc from ≡ FirstFound.At p → Ended doc from
  reference : (p : ℕ) → get_or doc from 0 ≡ amp → reference_found doc from ≡ FirstFound.At p → Ended doc from
  tag : (p : ℕ) → get_or doc from 0 ≡ lt → from + 1 < length doc → (get_or doc (from + 1) 0 ≡ bang → ⊥) → (get_or doc (from + 1) 0 ≡ question → ⊥)
      → element_found doc from ≡ TagFound.At p → Ended doc from
  instruction : (p : ℕ) → get_or doc from 0 ≡ lt → get_or doc (from + 1) 0 ≡ question → pi_found doc from ≡ MarksFound.At p → Ended doc from
  cdata : (p : ℕ) → get_or doc from 0 ≡ lt → get_or doc (from + 1) 0 ≡ bang → get_or doc (from + 2) 0 ≡ open_bracket → cdata_found doc from ≡ MarksFound.At p
      → Ended doc from
  comment : (p : ℕ) → get_or doc from 0 ≡ lt → get_or doc (from + 1) 0 ≡ bang → get_or doc (from + 2) 0 ≡ hyphen → comment_found doc from ≡ MarksFound.At p
      → Ended doc from
  -- "any other is refused there"
  other : get_or doc from 0 ≡ lt → get_or doc (from + 1) 0 ≡ bang → from + 2 < length doc → (get_or doc (from + 2) 0 ≡ open_bracket → ⊥)
      → (get_or doc (from + 2) 0 ≡ hyphen → ⊥) → Ended doc from

-- ---- a place is told only where a scan has found it

pub tag_at : (p : ℕ) (c : Course ElementState) → element_answer c ≡ TagFound.At p → c ≡ found p
tag_at p (found q) e = cc
tag_at p (going s) e = let z : ◌≡◌ {A = ℕ} 0 1 = cc in absurd (omega arith)

pub marks_at : (p : ℕ) (c : Course Marks) → marks_answer c ≡ MarksFound.At p → c ≡ found p
marks_at p (found q) e = cc
marks_at p (going s) e = let z : ◌≡◌ {A = ℕ} 0 1 = cc in absurd (omega arith)

pub first_at : (p : ℕ) (c : Course (Unit {0})) → first_answer c ≡ FirstFound.At p → c ≡ found p
first_at p (found q) e = cc
first_at p (going s) e = let z : ◌≡◌ {A = ℕ} 0 1 = cc in absurd (omega arith)

tag_found : (n p : ℕ) (c : Course ElementState) → (tag_fed n (element_answer c)).told ≡ Told.At p → c ≡ found p
tag_found n p c e = tag_at p c (tag_back n (element_answer c) p e)

marks_found_lem : (k : Kind) (n p : ℕ) (c : Course Marks) → (marked_fed k n (marks_answer c)).told ≡ Told.At p → c ≡ found p
marks_found_lem k n p c e = marks_at p c (marked_back k n (marks_answer c) p e)

first_found_lem : (t : State) (n p : ℕ) (c : Course (Unit {0})) → (first_fed t n (first_answer c)).told ≡ Told.At p → c ≡ found p
first_found_lem t n p c e = first_at p c (first_back t n (first_answer c) p e)

module _ (doc : List ℕ) (from : ℕ) where
  -- ---- byte k from `from` on is the byte at i

  module _ (k i b : ℕ) (e : from + k ≡ i) where
    byte_here : get_or (drop from doc) k 0 ≡ get_or doc i 0
    byte_here = get_or-drop from doc k 0 ∙ ap (λ (n : ℕ). get_or doc n 0) e

    is : eqb (get_or (drop from doc) k 0) b ≡ true → get_or doc i 0 ≡ b
    is t = sym byte_here ∙ eqb-true _ _ t

    is_not : eqb (get_or (drop from doc) k 0) b ≡ false → get_or doc i 0 ≡ b → ⊥
    is_not t f = eqb-false _ _ t (byte_here ∙ f)

  come : (k i : ℕ) → from + k ≡ i → leb (length (drop from doc)) k ≡ false → i < length doc
  come k i e t = omega (arith, leb-false (length (drop from doc)) k t, length-drop from doc)

  -- what is found in the rest from `from` on is found in the document
  found_here : {S : Type 0} (step : S → ℕ → Next S) (s : S) (k i p : ℕ) → from + k ≡ i → scan_at step s (drop from doc) k ≡ found p
      → scan_at step s doc i ≡ found (from + p)
  found_here step s k i p e f =
      ap (scan_at step s doc) (sym e)
      ∙ ap (feed step (going s) (from + k)) (sym (drop-drop k from doc))
      ∙ feed_moved step from (going s) k (drop k (drop from doc))
      ∙ ap (moved from) f

  module _ (place : ℕ) where
    -- if the place is told, then the piece has its end
    abbrev Tells : Fed → Type 0
    Tells x = x.told ≡ Told.At place → Ended doc from

    here : from + 0 ≡ from
    here = omega arith

    marked_ended : (k : Kind) (n : ℕ) → (marked_fed k n (marks_found (opener_of k) (mark_of k) (need_of k) (drop from doc) 0)).told ≡ Told.At place
        → marks_found (opener_of k) (mark_of k) (need_of k) doc from ≡ MarksFound.At (from + place)
    marked_ended k n e = ap marks_answer (found_here _ _ 0 from place here (marks_found_lem k n place _ e))

    module _ (l : get_or doc from 0 ≡ lt) where
      bang_ended : get_or doc (from + 1) 0 ≡ bang → Tells (bang_fed (drop from doc))
      bang_ended b =
          pick_cases Tells (leb (length (drop from doc)) 2) _ _
          (λ z e. found_open place e)
          (λ z. pick_cases Tells (eqb (get_or (drop from doc) 2 0) open_bracket) _ _
          (λ x e. cdata (from + place) l b (is 2 _ _ refl x) (marked_ended Kind.CData (length (drop from doc)) e))
          (λ x. pick_cases Tells (eqb (get_or (drop from doc) 2 0) hyphen) _ _
          (λ y e. comment (from + place) l b (is 2 _ _ refl y) (marked_ended Kind.Comment (length (drop from doc)) e))
          (λ y e. other l b (come 2 _ refl z) (is_not 2 _ _ refl x) (is_not 2 _ _ refl y))))

      markup_ended : Tells (markup_fed (drop from doc))
      markup_ended =
          pick_cases Tells (leb (length (drop from doc)) 1) _ _
          (λ z e. found_open place e)
          (λ z. pick_cases Tells (eqb (get_or (drop from doc) 1 0) bang) _ _
          (λ x. bang_ended (is 1 _ _ refl x))
          (λ x. pick_cases Tells (eqb (get_or (drop from doc) 1 0) question) _ _
          (λ y e. instruction (from + place) l (is 1 _ _ refl y) (marked_ended Kind.Pi (length (drop from doc)) e))
          (λ y e. tag (from + place) l (come 1 _ refl z) (is_not 1 _ _ refl x) (is_not 1 _ _ refl y)
          (ap element_answer (found_here _ _ 0 from place here (tag_found (length (drop from doc)) place _ e))))))

    piece_ended : Tells (piece_fed (drop from doc))
    piece_ended =
        pick_cases Tells (leb (length (drop from doc)) 0) _ _
        (λ z e. found_open place e)
        (λ z. pick_cases Tells (eqb (get_or (drop from doc) 0 0) lt) _ _
        (λ x. markup_ended (is 0 _ _ here x))
        (λ x. pick_cases Tells (eqb (get_or (drop from doc) 0 0) amp) _ _
        (λ y e. reference (from + place) (is 0 _ _ here y)
        (ap first_answer (found_here _ _ 1 (from + 1) place refl (first_found_lem State.Reference (length (drop from doc)) place _ e))))
        (λ y e. text (from + place) (is_not 0 _ _ here x) (is_not 0 _ _ here y)
        (ap first_answer (found_here _ _ 0 from place here (first_found_lem State.Text (length (drop from doc)) place _ e))))))

    -- and it stands before the end
    piece_come : (piece_fed (drop from doc)).told ≡ Told.At place → from < length doc
    piece_come =
        pick_cases (λ (x : Fed). x.told ≡ Told.At place → from < length doc) (leb (length (drop from doc)) 0) _ _
        (λ z e. found_open place e)
        (λ z e. come 0 from here z)

  module _ (h : length doc ≤ longest) (w : Closes (drop from doc)) where
    told_so : (piece_fed (drop from doc)).told ≡ Told.At w.place
    told_so = ap (λ (x : Fed). x.told) (sym (whole_piece (drop from doc) (omega (arith, length-drop from doc)))) ∙ w.tells

    -- LAW: a piece that is whole has its end
    pub closes_ended : Ended doc from
    closes_ended = piece_ended w.place told_so

    pub closes_come : from < length doc
    closes_come = piece_come w.place told_so
