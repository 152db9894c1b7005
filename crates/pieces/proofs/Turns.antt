-- The turns and the ends of the routines that go on with a scan, over plain variables. Assumes nothing.
use Prim.Native.Nat.{ℕ, ◌+◌, ◌≤◌, ◌<◌}
use mathlib.Core.Path.{◌≡◌, refl, sym, ap, ap₂, ◌∙◌}
use mathlib.Core.List.{List}
use mathlib.Core.Bool.{true}
use mathlib.Core.Logic.{inl, inr}
use lib.ListN.{length, get_or, drop}
use borrow.Author.Tests.{ne_eqb}
use Rattle.ground.specs.Bytes.{amp, bang, close_bracket, hyphen, lt, open_bracket, question, semicolon}
use Rattle.ground.proofs.Choices.{choices, by_case}
use Rattle.parser.specs.Machine.{Next, go, halt, Scan as Course, found, going, scan_at}
use Rattle.parser.specs.Element.{element_step, element_answer, element_found, quote_of, IsQuote}
use Rattle.parser.specs.First.{first_step, first_answer, first_found, one_of, reference_ends, reference_found, text_ends, text_found}
use Rattle.parser.specs.Marks.{marks_step, marks_answer, marks_found, passing, seeing}
use Rattle.parser.specs.declared.element.ElementState.{ElementState}
use Rattle.parser.specs.declared.element.Found.{Found as TagFound}
use Rattle.parser.specs.declared.first.Found.{Found as FirstFound}
use Rattle.parser.specs.declared.marks.Found.{Found as MarksFound}
use Rattle.parser.specs.declared.marks.Marks.{Marks}
use Rattle.parser.proofs.Machine.{scan_more, run_turn, run_end, run_halt}
use Rattle.parser.proofs.Turns.{turn_close}
use Rattle.parser.proofs.Passed.{tag_passes}
use Rattle.pieces.specs.declared.scan.Kind.{Kind}
use Rattle.pieces.specs.declared.scan.State.{State}
use Rattle.pieces.specs.declared.ahead.Ahead.{Ahead}
use Rattle.pieces.specs.Kinds.{mark_of, need_of, piece_step, within}
use Rattle.pieces.specs.Ahead.{ahead_of, tag_ahead, marked_ahead, first_ahead}
use Rattle.pieces.proofs.Machine.{feed_named, named, same_step}

-- ---- within a quote

module _ (s : List ℕ) (b i : ℕ) (r : Course ElementState) (v : r ≡ scan_at element_step (quote_of b) s i) where
  -- behind the quote that closes
  pub quote_rest : (x : TagFound) → IsQuote b → i < length s → get_or s i 0 ≡ b → x ≡ element_found s (i + 1) → x ≡ element_answer r
  quote_rest x q h e f = f ∙ sym (ap element_answer (turn_close s r i b v h q e))

pub ruleset quote_turns = (tag_passes, quote_rest)

-- the state of the code's own match
pub quote_case : (s : List ℕ) (i : ℕ) (x : TagFound) (q r : ElementState) → q ≡ r → x ≡ element_answer (scan_at element_step r s i)
    → x ≡ element_answer (scan_at element_step q s i)
quote_case s i = by_case (λ q. element_answer (scan_at element_step q s i))

pub ruleset quote_cases = (choices, inl, inr, quote_case)

-- ---- marks

module _ (mark need : ℕ) (s : List ℕ) (i : ℕ) where
  -- nothing was fed
  pub marks_none : (m : Marks) → length s ≤ i → MarksFound.Open m ≡ marks_answer (scan_at (marks_step mark need) m s i)
  marks_none m h = run_end marks_answer (marks_step mark need) _ m s i (MarksFound.Open m) refl h refl

  -- within the opener marks do not count
  pub marks_opener : (m : Marks) (x : MarksFound) → (m.left ≡ 0 → ⊥) → i < length s → x ≡ marks_found m.left mark need s i
      → x ≡ marks_answer (scan_at (marks_step mark need) m s i)
  marks_opener m x n h e =
      e
      ∙ ap marks_answer (same_step (marks_step mark need) (passing m.left) m s i h (rw (ne_eqb m.left 0 n)))

  -- behind it they do
  pub marks_behind : (m : Marks) (x : MarksFound) → m.left ≡ 0 → x ≡ marks_answer (scan_at (marks_step mark need) (seeing m.seen) s i)
      → x ≡ marks_answer (scan_at (marks_step mark need) m s i)
  marks_behind m x z e = e ∙ ap (λ (l : ℕ). marks_answer (scan_at (marks_step mark need) (record { left = l; seen = m.seen }) s i)) (sym z)

  -- a loop that stands at i with so many marks before it
  module _ (seen : ℕ) (r : Course Marks) (v : r ≡ scan_at (marks_step mark need) (seeing seen) s i) where
    pub marks_turn : (t : Marks) → i < length s → go t ≡ marks_step mark need (seeing seen) (get_or s i 0)
        → r ≡ scan_at (marks_step mark need) t s (i + 1)
    marks_turn = run_turn (marks_step mark need) r (seeing seen) s i v

    pub marks_open : length s ≤ i → MarksFound.Open (seeing seen) ≡ marks_answer r
    marks_open h = run_end marks_answer (marks_step mark need) r (seeing seen) s i _ v h refl

    pub marks_here : i < length s → halt ≡ marks_step mark need (seeing seen) (get_or s i 0) → MarksFound.At i ≡ marks_answer r
    marks_here h e = run_halt marks_answer (marks_step mark need) r (seeing seen) s i _ v h e refl

    -- from a byte on that is no mark, none stands before
    pub marks_rest : (x : MarksFound) → i < length s → go (seeing 0) ≡ marks_step mark need (seeing seen) (get_or s i 0)
        → x ≡ marks_found 0 mark need s (i + 1) → x ≡ marks_answer r
    marks_rest x h e f = f ∙ sym (ap marks_answer (marks_turn (seeing 0) h e))

pub ruleset marks_turns = (choices, marks_turn, marks_open, marks_here, marks_rest)

pub ruleset marks_starts = (choices, marks_none, marks_opener, marks_behind)

-- ---- the machine of all scans

tag_named : (r : Course ElementState) → ahead_of (named State.Tag r) ≡ tag_ahead (element_answer r)
tag_named (found p) = refl
tag_named (going q) = refl

marked_named : (k : Kind) (r : Course Marks) → ahead_of (named (State.Marked k) r) ≡ marked_ahead k (marks_answer r)
marked_named k (found p) = refl
marked_named k (going m) = refl

first_named : (t : State) (r : Course (Unit {0})) → ahead_of (named (λ (u : Unit {0}). t) r) ≡ first_ahead t (first_answer r)
first_named t (found p) = refl
first_named t (going u) = refl

-- where the code's own match has said what was found
pub tag_case : (x : Ahead) (f g : TagFound) → f ≡ g → x ≡ tag_ahead g → x ≡ tag_ahead f
tag_case = by_case tag_ahead

pub marked_case : (k : Kind) (x : Ahead) (f g : MarksFound) → f ≡ g → x ≡ marked_ahead k g → x ≡ marked_ahead k f
marked_case k = by_case (marked_ahead k)

pub first_case : (t : State) (x : Ahead) (f g : FirstFound) → f ≡ g → x ≡ first_ahead t g → x ≡ first_ahead t f
first_case t = by_case (first_ahead t)

pub ruleset found_cases = (choices, tag_case, marked_case, first_case)

-- from i on, in a state of a kind, what the scan of that kind answers
module _ {S F : Type 0} (name : S → State) (step : S → ℕ → Next S) (alike : (t : S) (b : ℕ) → piece_step (name t) b ≡ within name (step t b))
    (out : Course S → F) (tell : F → Ahead) (fits : (r : Course S) → ahead_of (named name r) ≡ tell (out r)) where
  on : (s : List ℕ) (i : ℕ) (x : Ahead) (t : S) (f : F) → x ≡ tell f → f ≡ out (scan_at step t s i) → x ≡ ahead_of (scan_at piece_step (name t) s i)
  on s i x t f e g = e ∙ ap tell g ∙ sym (ap ahead_of (feed_named name step piece_step alike (going t) i (drop i s)) ∙ fits (scan_at step t s i))

module _ (s : List ℕ) (i : ℕ) (x : Ahead) where
  pub on_tag : (q : ElementState) (f : TagFound) → x ≡ tag_ahead f → f ≡ element_answer (scan_at element_step q s i)
      → x ≡ ahead_of (scan_at piece_step (State.Tag q) s i)
  on_tag = on State.Tag element_step (λ q b. refl) element_answer tag_ahead tag_named s i x

  pub on_marked : (k : Kind) (m : Marks) (f : MarksFound) → x ≡ marked_ahead k f → f ≡ marks_answer (scan_at (marks_step (mark_of k) (need_of k)) m s i)
      → x ≡ ahead_of (scan_at piece_step (State.Marked k m) s i)
  on_marked k = on (State.Marked k) (marks_step (mark_of k) (need_of k)) (λ m b. refl) marks_answer (marked_ahead k) (marked_named k) s i x

  pub on_text : (f : FirstFound) → x ≡ first_ahead State.Text f → f ≡ first_found (one_of text_ends) s i → x ≡ ahead_of (scan_at piece_step State.Text s i)
  on_text = on (λ u. State.Text) (first_step (one_of text_ends)) (λ u b. refl) first_answer (first_ahead State.Text) (first_named State.Text) s i x tt

  pub on_reference : (f : FirstFound) → x ≡ first_ahead State.Reference f → f ≡ first_found (one_of reference_ends) s i
      → x ≡ ahead_of (scan_at piece_step State.Reference s i)
  on_reference =
      on (λ u. State.Reference) (first_step (one_of reference_ends)) (λ u b. refl) first_answer (first_ahead State.Reference) (first_named State.Reference)
      s i x tt

-- the kind's numbers as the code has them
pub on_kind : (s : List ℕ) (i : ℕ) (x : Ahead) (k : Kind) (m : Marks) (f : MarksFound) (mark need : ℕ) → x ≡ marked_ahead k f
    → f ≡ marks_answer (scan_at (marks_step mark need) m s i) → mark ≡ mark_of k → need ≡ need_of k → x ≡ ahead_of (scan_at piece_step (State.Marked k m) s i)
on_kind s i x k m f mark need e g a b =
    on_marked s i x k m f e (g ∙ ap₂ (λ (a b : ℕ). marks_answer (scan_at (marks_step a b) m s i)) a b)

pub on_case : (s : List ℕ) (i : ℕ) (x : Ahead) (t u : State) → t ≡ u → x ≡ ahead_of (scan_at piece_step u s i) → x ≡ ahead_of (scan_at piece_step t s i)
on_case s i = by_case (λ t. ahead_of (scan_at piece_step t s i))

-- a byte on, at the end, and at the byte that is found
module _ (t : State) (s : List ℕ) (i : ℕ) where
  pub ahead_end : length s ≤ i → Ahead.Open t ≡ ahead_of (scan_at piece_step t s i)
  ahead_end h = run_end ahead_of piece_step _ t s i (Ahead.Open t) refl h refl

  pub ahead_here : i < length s → halt ≡ piece_step t (get_or s i 0) → Ahead.At i ≡ ahead_of (scan_at piece_step t s i)
  ahead_here h e = run_halt ahead_of piece_step _ t s i (Ahead.At i) refl h e refl

  ahead_next : (u : State) (x : Ahead) → i < length s → piece_step t (get_or s i 0) ≡ go u → x ≡ ahead_of (scan_at piece_step u s (i + 1))
      → x ≡ ahead_of (scan_at piece_step t s i)
  ahead_next u x h f e = e ∙ sym (ap ahead_of (scan_more piece_step t s i u h f))

-- the byte that ends a reference
pub reference_here : (s : List ℕ) (i : ℕ) → i < length s → true ≡ one_of reference_ends (get_or s i 0) → Ahead.At i ≡ ahead_of (scan_at piece_step State.Reference s i)
reference_here s i h e = ahead_here State.Reference s i h (rw (← e))

-- what the first bytes tell
module _ (s : List ℕ) (i : ℕ) (x : Ahead) (h : i < length s) where
  -- the first one
  pub start_markup : x ≡ ahead_of (scan_at piece_step State.Opened s (i + 1)) → get_or s i 0 ≡ lt → x ≡ ahead_of (scan_at piece_step State.Start s i)
  start_markup e b = ahead_next State.Start s i State.Opened x h (rw b) e

  pub start_reference : x ≡ ahead_of (scan_at piece_step State.Reference s (i + 1)) → get_or s i 0 ≡ amp → x ≡ ahead_of (scan_at piece_step State.Start s i)
  start_reference e b = ahead_next State.Start s i State.Reference x h (rw b) e

  pub start_text : (f : FirstFound) → x ≡ first_ahead State.Text f → f ≡ text_found s (i + 1) → (get_or s i 0 ≡ lt → ⊥) → (get_or s i 0 ≡ amp → ⊥)
      → x ≡ ahead_of (scan_at piece_step State.Start s i)
  start_text f e g n m =
      ahead_next State.Start s i State.Text x h (simp (ne_eqb (get_or s i 0) lt n, ne_eqb (get_or s i 0) amp m)) (on_text s (i + 1) x f e g)

  -- the one behind `<`: a tag is scanned as from its `<` on
  pub opened_bang : x ≡ ahead_of (scan_at piece_step State.Bang s (i + 1)) → get_or s i 0 ≡ bang → x ≡ ahead_of (scan_at piece_step State.Opened s i)
  opened_bang e b = ahead_next State.Opened s i State.Bang x h (rw b) e

  pub opened_pi : (f : MarksFound) → x ≡ marked_ahead Kind.Pi f → f ≡ marks_answer (scan_at (marks_step question 1) (seeing 1) s (i + 1))
      → get_or s i 0 ≡ question → x ≡ ahead_of (scan_at piece_step State.Opened s i)
  opened_pi f e g b =
      ahead_next State.Opened s i (State.Marked Kind.Pi (seeing 1)) x h (rw b) (on_marked s (i + 1) x Kind.Pi (seeing 1) f e g)

  pub opened_tag : (f : TagFound) → x ≡ tag_ahead f → f ≡ element_found s i → (get_or s i 0 ≡ bang → ⊥) → (get_or s i 0 ≡ question → ⊥)
      → x ≡ ahead_of (scan_at piece_step State.Opened s i)
  opened_tag f e g n m =
      on_tag s i x ElementState.Outside f e g
      ∙ ap ahead_of
      (same_step piece_step (State.Tag ElementState.Outside) State.Opened s i h (simp (ne_eqb (get_or s i 0) bang n, ne_eqb (get_or s i 0) question m)))

  -- the one behind `<!`
  pub bang_cdata : (f : MarksFound) → x ≡ marked_ahead Kind.CData f → f ≡ marks_found 0 close_bracket 2 s (i + 1) → get_or s i 0 ≡ open_bracket
      → x ≡ ahead_of (scan_at piece_step State.Bang s i)
  bang_cdata f e g b =
      ahead_next State.Bang s i (State.Marked Kind.CData (seeing 0)) x h (rw b) (on_marked s (i + 1) x Kind.CData (seeing 0) f e g)

  pub bang_comment : (f : MarksFound) → x ≡ marked_ahead Kind.Comment f → f ≡ marks_found 1 hyphen 2 s (i + 1) → get_or s i 0 ≡ hyphen
      → x ≡ ahead_of (scan_at piece_step State.Bang s i)
  bang_comment f e g b =
      ahead_next State.Bang s i (State.Marked Kind.Comment (passing 1)) x h (rw b) (on_marked s (i + 1) x Kind.Comment (passing 1) f e g)

  -- one of a reference that does not end it
  pub reference_on : (f : FirstFound) → x ≡ first_ahead State.Reference f → f ≡ reference_found s i → (get_or s i 0 ≡ semicolon → ⊥)
      → (get_or s i 0 ≡ amp → ⊥) → (get_or s i 0 ≡ lt → ⊥) → x ≡ ahead_of (scan_at piece_step State.Reference s i)
  reference_on f e g n m o =
      ahead_next State.Reference s i State.Reference x h
      (simp (ne_eqb (get_or s i 0) semicolon n, ne_eqb (get_or s i 0) amp m, ne_eqb (get_or s i 0) lt o)) (on_reference s (i + 1) x f e g)

pub ruleset starts =
    (choices, ahead_end, ahead_here, start_markup, start_reference, start_text, opened_bang, opened_pi, opened_tag, bang_cdata, bang_comment, reference_here, reference_on)

pub ruleset aheads = (choices, on_case, on_tag, on_kind, on_text)
