-- What a fresh scan is told of uncut bytes: what the scans of `parser` say of them. Assumes nothing.
use Prim.Native.Nat.{ℕ, ◌+◌, ◌≤◌, ◌<◌}
use mathlib.Core.Path.{◌≡◌, refl, sym, ap, ◌∙◌}
use mathlib.Core.Bool.{true}
use mathlib.Core.List.{List}
use native.Mathlib.Omega.{arith}
use lib.ListN.{length, get_or}
use lib.Dec.{eqb, leb}
use borrow.Author.Tests.{eqb-true, eqb-false, ne_eqb, leb-true, leb-false}
use Rattle.ground.specs.Bytes.{amp, bang, hyphen, lt, open_bracket, question}
use Rattle.ground.proofs.Choices.{pick_cases}
use Rattle.parser.specs.Machine.{Next, go, Scan as Course, found, going, scan_at}
use Rattle.parser.specs.Element.{element_step, element_answer, element_found}
use Rattle.parser.specs.First.{first_step, first_answer, one_of, reference_ends, text_ends, text_found}
use Rattle.parser.specs.Marks.{marks_step, marks_answer, marks_found, passing, seeing}
use Rattle.parser.specs.declared.element.ElementState.{ElementState}
use Rattle.parser.specs.declared.marks.Marks.{Marks}
use Rattle.parser.proofs.Machine.{scan_end, scan_more, scan_halt}
use Rattle.state.specs.Limits.{longest}
use Rattle.pieces.specs.declared.scan.Kind.{Kind}
use Rattle.pieces.specs.declared.scan.What.{What}
use Rattle.pieces.specs.declared.scan.State.{State}
use Rattle.pieces.specs.declared.scan.Fed.{Fed}
use Rattle.pieces.specs.Kinds.{mark_of, need_of, opener_of, piece_step, within}
use Rattle.pieces.specs.Reached.{reached}
use Rattle.pieces.specs.Fed.{answer_of, begins, fed, fresh}
use Rattle.pieces.specs.Pieces.{tag_fed, marked_fed, first_fed, bang_fed, markup_fed, piece_fed}
use Rattle.pieces.proofs.Machine.{feed_named, named, same_step}
use Rattle.pieces.proofs.Calls.{fed_open}

-- ---- a fresh scan goes on

marked_fresh : (k : Kind) → reached 0 (State.Marked k (passing (opener_of k))) ≡ true
marked_fresh Kind.Pi = refl
marked_fresh Kind.Comment = refl
marked_fresh Kind.CData = refl

pub fresh_reached : (w : What) → reached 0 (begins w) ≡ true
fresh_reached What.Piece = refl
fresh_reached What.Tag = refl
fresh_reached (What.Marked k) = marked_fresh k
fresh_reached What.Text = refl

-- over all bytes
fed_fresh : (w : What) (bytes : List ℕ) → length bytes ≤ longest → fed (fresh w) bytes ≡ answer_of (length bytes) (scan_at piece_step (begins w) bytes 0)
fed_fresh w bytes h =
    let e : 0 + length bytes ≡ length bytes = omega arith in
    fed_open 0 (begins w) bytes (fresh_reached w) (omega arith) _ refl ∙ ap (λ (n : ℕ). answer_of n (scan_at piece_step (begins w) bytes 0)) e

-- ---- in a scan of one kind, what that scan says

module _ {S F : Type 0} (name : S → State) (step : S → ℕ → Next S) (alike : (t : S) (b : ℕ) → piece_step (name t) b ≡ within name (step t b))
    (out : Course S → F) (tell : ℕ → F → Fed) (fits : (n : ℕ) (r : Course S) → answer_of n (named name r) ≡ tell n (out r)) where
  told_as : (bytes : List ℕ) (t : S) (i : ℕ) → answer_of (length bytes) (scan_at piece_step (name t) bytes i) ≡ tell (length bytes) (out (scan_at step t bytes i))
  told_as bytes t i = ap (answer_of (length bytes)) (feed_named name step piece_step alike (going t) i _) ∙ fits (length bytes) (scan_at step t bytes i)

tag_told : (n : ℕ) (r : Course ElementState) → answer_of n (named State.Tag r) ≡ tag_fed n (element_answer r)
tag_told n (found p) = refl
tag_told n (going q) = refl

marked_told : (k : Kind) (n : ℕ) (r : Course Marks) → answer_of n (named (State.Marked k) r) ≡ marked_fed k n (marks_answer r)
marked_told k n (found p) = refl
marked_told k n (going m) = refl

first_told : (t : State) (n : ℕ) (r : Course (Unit {0})) → answer_of n (named (λ (u : Unit {0}). t) r) ≡ first_fed t n (first_answer r)
first_told t n (found p) = refl
first_told t n (going u) = refl

module _ (bytes : List ℕ) where
  -- where a scan of all comes to from i on
  abbrev At : State → ℕ → Course State
  At s i = scan_at piece_step s bytes i

  abbrev Told : Course State → Fed
  Told = answer_of (length bytes)

  tag_as : (q : ElementState) (i : ℕ) → Told (At (State.Tag q) i) ≡ tag_fed (length bytes) (element_answer (scan_at element_step q bytes i))
  tag_as = told_as State.Tag element_step (λ q b. refl) element_answer tag_fed tag_told bytes

  marked_as : (k : Kind) (m : Marks) (i : ℕ)
      → Told (At (State.Marked k m) i) ≡ marked_fed k (length bytes) (marks_answer (scan_at (marks_step (mark_of k) (need_of k)) m bytes i))
  marked_as k = told_as (State.Marked k) (marks_step (mark_of k) (need_of k)) (λ m b. refl) marks_answer (marked_fed k) (marked_told k) bytes

  text_as : (i : ℕ) → Told (At State.Text i) ≡ first_fed State.Text (length bytes) (first_answer (scan_at (first_step (one_of text_ends)) tt bytes i))
  text_as = told_as (λ u. State.Text) (first_step (one_of text_ends)) (λ u b. refl) first_answer (first_fed State.Text) (first_told State.Text) bytes tt

  reference_as : (i : ℕ)
      → Told (At State.Reference i) ≡ first_fed State.Reference (length bytes) (first_answer (scan_at (first_step (one_of reference_ends)) tt bytes i))
  reference_as =
      told_as (λ u. State.Reference) (first_step (one_of reference_ends)) (λ u b. refl) first_answer (first_fed State.Reference) (first_told State.Reference)
      bytes tt

  -- ---- what the first bytes tell

  abbrev Is : Fed → Type 0
  Is x = Told (At State.Start 0) ≡ x

  -- a byte on, in two scans that then stand alike
  both_more : (s t u : State) (i : ℕ) → i < length bytes → piece_step s (get_or bytes i 0) ≡ go u → piece_step t (get_or bytes i 0) ≡ go u → At s i ≡ At t i
  both_more s t u i h e f = scan_more piece_step s bytes i u h e ∙ sym (scan_more piece_step t bytes i u h f)

  -- the end, in the state of the first bytes
  ended : (s : State) (n : ℕ) → length bytes ≤ n → n < length bytes + 1 → Told (At s n) ≡ answer_of n (going s)
  ended s n h l =
      let e : length bytes ≡ n = omega arith in
      ap Told (scan_end piece_step s bytes n h) ∙ ap (λ (k : ℕ). answer_of k (going s)) e

  module _ (h : 0 < length bytes) (b : get_or bytes 0 0 ≡ lt) where
    -- behind `<`, the scan of a tag and that of a kind whose marks begin behind it
    markup_on : At State.Start 0 ≡ At State.Opened 1
    markup_on = scan_more piece_step State.Start bytes 0 State.Opened h (rw b)

    tag_on : At (State.Tag ElementState.Outside) 0 ≡ At (State.Tag ElementState.Outside) 1
    tag_on = scan_more piece_step (State.Tag ElementState.Outside) bytes 0 (State.Tag ElementState.Outside) h (rw b)

    pi_on : At (State.Marked Kind.Pi (passing 0)) 0 ≡ At (State.Marked Kind.Pi (seeing 0)) 1
    pi_on = scan_more piece_step (State.Marked Kind.Pi (passing 0)) bytes 0 (State.Marked Kind.Pi (seeing 0)) h (rw b)

    module _ (l : 1 < length bytes) where
      opened_tag : (get_or bytes 1 0 ≡ bang → ⊥) → (get_or bytes 1 0 ≡ question → ⊥) → At State.Start 0 ≡ At (State.Tag ElementState.Outside) 0
      opened_tag n m =
          markup_on
          ∙ same_step piece_step State.Opened (State.Tag ElementState.Outside) bytes 1 l (simp (ne_eqb (get_or bytes 1 0) bang n, ne_eqb (get_or bytes 1 0) question m))
          ∙ sym tag_on

      opened_pi : get_or bytes 1 0 ≡ question → At State.Start 0 ≡ At (State.Marked Kind.Pi (passing 0)) 0
      opened_pi e =
          markup_on
          ∙ both_more State.Opened (State.Marked Kind.Pi (seeing 0)) (State.Marked Kind.Pi (seeing 1)) 1 l (rw e) (rw e)
          ∙ sym pi_on

      module _ (e : get_or bytes 1 0 ≡ bang) where
        bang_on : At State.Start 0 ≡ At State.Bang 2
        bang_on = markup_on ∙ scan_more piece_step State.Opened bytes 1 State.Bang l (rw e)

        cdata_on : At (State.Marked Kind.CData (passing 0)) 0 ≡ At (State.Marked Kind.CData (seeing 0)) 2
        cdata_on =
            scan_more piece_step (State.Marked Kind.CData (passing 0)) bytes 0 (State.Marked Kind.CData (seeing 0)) h (rw b)
            ∙ scan_more piece_step (State.Marked Kind.CData (seeing 0)) bytes 1 (State.Marked Kind.CData (seeing 0)) l (rw e)

        comment_on : At (State.Marked Kind.Comment (passing 4)) 0 ≡ At (State.Marked Kind.Comment (passing 2)) 2
        comment_on =
            scan_more piece_step (State.Marked Kind.Comment (passing 4)) bytes 0 (State.Marked Kind.Comment (passing 3)) h refl
            ∙ scan_more piece_step (State.Marked Kind.Comment (passing 3)) bytes 1 (State.Marked Kind.Comment (passing 2)) l refl

        module _ (m : 2 < length bytes) where
          bang_cdata : get_or bytes 2 0 ≡ open_bracket → At State.Start 0 ≡ At (State.Marked Kind.CData (passing 0)) 0
          bang_cdata f =
              bang_on
              ∙ both_more State.Bang (State.Marked Kind.CData (seeing 0)) (State.Marked Kind.CData (seeing 0)) 2 m (rw f) (rw f)
              ∙ sym cdata_on

          bang_comment : get_or bytes 2 0 ≡ hyphen → At State.Start 0 ≡ At (State.Marked Kind.Comment (passing 4)) 0
          bang_comment f =
              bang_on
              ∙ both_more State.Bang (State.Marked Kind.Comment (passing 2)) (State.Marked Kind.Comment (passing 1)) 2 m (rw f) refl
              ∙ sym comment_on

          bang_other : (get_or bytes 2 0 ≡ open_bracket → ⊥) → (get_or bytes 2 0 ≡ hyphen → ⊥) → At State.Start 0 ≡ found 2
          bang_other n o =
              bang_on
              ∙ scan_halt piece_step State.Bang bytes 2 m (simp (ne_eqb (get_or bytes 2 0) open_bracket n, ne_eqb (get_or bytes 2 0) hyphen o))

        bang_fed_lem : Told (At State.Start 0) ≡ bang_fed bytes
        bang_fed_lem =
            pick_cases Is (leb (length bytes) 2) _ _
            (λ z. ap Told bang_on ∙ ended State.Bang 2 (leb-true _ _ z) (omega arith))
            (λ z. let m = leb-false (length bytes) 2 z in
            pick_cases Is (eqb (get_or bytes 2 0) open_bracket) _ _
            (λ x. ap Told (bang_cdata m (eqb-true _ _ x)) ∙ marked_as Kind.CData (passing 0) 0)
            (λ x. pick_cases Is (eqb (get_or bytes 2 0) hyphen) _ _
            (λ y. ap Told (bang_comment m (eqb-true _ _ y)) ∙ marked_as Kind.Comment (passing 4) 0)
            (λ y. ap Told (bang_other m (eqb-false _ _ x) (eqb-false _ _ y)))))

    markup_fed_lem : Told (At State.Start 0) ≡ markup_fed bytes
    markup_fed_lem =
        pick_cases Is (leb (length bytes) 1) _ _
        (λ z. ap Told markup_on ∙ ended State.Opened 1 (leb-true _ _ z) (omega arith))
        (λ z. let l = leb-false (length bytes) 1 z in
        pick_cases Is (eqb (get_or bytes 1 0) bang) _ _
        (λ x. bang_fed_lem l (eqb-true _ _ x))
        (λ x. pick_cases Is (eqb (get_or bytes 1 0) question) _ _
        (λ y. ap Told (opened_pi l (eqb-true _ _ y)) ∙ marked_as Kind.Pi (passing 0) 0)
        (λ y. ap Told (opened_tag l (eqb-false _ _ x) (eqb-false _ _ y)) ∙ tag_as ElementState.Outside 0)))

  piece_fed_lem : Told (At State.Start 0) ≡ piece_fed bytes
  piece_fed_lem =
      pick_cases Is (leb (length bytes) 0) _ _
      (λ z. ended State.Start 0 (leb-true _ _ z) (omega arith))
      (λ z. let h = leb-false (length bytes) 0 z in
      pick_cases Is (eqb (get_or bytes 0 0) lt) _ _
      (λ x. markup_fed_lem h (eqb-true _ _ x))
      (λ x. let n = eqb-false (get_or bytes 0 0) lt x in
      pick_cases Is (eqb (get_or bytes 0 0) amp) _ _
      (λ y. let b = eqb-true (get_or bytes 0 0) amp y in
      ap Told (scan_more piece_step State.Start bytes 0 State.Reference h (rw b)) ∙ reference_as 1)
      (λ y. let m = eqb-false (get_or bytes 0 0) amp y in
      ap Told (both_more State.Start State.Text State.Text 0 h (simp (ne_eqb _ _ n, ne_eqb _ _ m)) (simp (ne_eqb _ _ n, ne_eqb _ _ m)))
      ∙ text_as 0)))

-- ---- the six fresh scans over all bytes

module _ (bytes : List ℕ) (h : length bytes ≤ longest) where
  pub whole_piece : fed (fresh What.Piece) bytes ≡ piece_fed bytes
  whole_piece = fed_fresh What.Piece bytes h ∙ piece_fed_lem bytes

  pub whole_tag : fed (fresh What.Tag) bytes ≡ tag_fed (length bytes) (element_found bytes 0)
  whole_tag = fed_fresh What.Tag bytes h ∙ tag_as bytes ElementState.Outside 0

  pub whole_marked : (k : Kind) → fed (fresh (What.Marked k)) bytes ≡ marked_fed k (length bytes) (marks_found (opener_of k) (mark_of k) (need_of k) bytes 0)
  whole_marked k = fed_fresh (What.Marked k) bytes h ∙ marked_as bytes k (passing (opener_of k)) 0

  pub whole_text_lem : fed (fresh What.Text) bytes ≡ first_fed State.Text (length bytes) (text_found bytes 0)
  whole_text_lem = fed_fresh What.Text bytes h ∙ text_as bytes 0
