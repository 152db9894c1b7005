-- A byte takes a scan that feeding leads to to one that it leads to: so the next call does not refuse it. Assumes nothing.
use Prim.Native.Nat.{ℕ, ◌+◌, ◌-◌, ◌≤◌, ◌<◌}
use mathlib.Core.Path.{◌≡◌, refl, sym, subst}
use mathlib.Core.Bool.{Bool, true}
use mathlib.Core.List.{List, [], ◌∷◌}
use native.Mathlib.Omega.{arith}
use native.Mathlib.Decide.{dec_lt}
use lib.ListN.{length}
use lib.Dec.{eqb, leb, ltb}
use borrow.Author.Tests.{eqb-true, eqb-false, eq-eqb, ne_eqb, leb-true, le-leb, ltb-true, lt-ltb}
use Rattle.ground.specs.Bytes.{amp, apos, bang, gt, hyphen, lt, open_bracket, question, quot}
use Rattle.ground.proofs.Choices.{both, pick_cases}
use Rattle.parser.specs.Machine.{Next, go, halt, Scan as Course, found, going, stand, feed}
use Rattle.parser.specs.Element.{element_step}
use Rattle.parser.specs.First.{one_of, reference_ends, text_ends}
use Rattle.parser.specs.Marks.{marks_step, passing, seeing}
use Rattle.parser.specs.declared.element.ElementState.{ElementState}
use Rattle.parser.specs.declared.marks.Marks.{Marks}
use Rattle.parser.proofs.Machine.{feed_found}
use Rattle.pieces.specs.declared.scan.Kind.{Kind}
use Rattle.pieces.specs.declared.scan.State.{State}
use Rattle.pieces.specs.Kinds.{mark_of, need_of, opener_of, piece_step, within}
use Rattle.pieces.specs.Reached.{marks_reached, state_reached}

-- ---- any machine: what each byte keeps, all bytes keep

module _ {S : Type 0} (I : ℕ → S → Type 0) where
  -- after the byte at n
  abbrev pub After : ℕ → Next S → Type 0
  After n (go t) = I (n + 1) t
  After n halt = Unit {0}

  -- after n bytes
  abbrev pub Holds : ℕ → Course S → Type 0
  Holds n (found p) = Unit {0}
  Holds n (going t) = I n t

  module _ (step : S → ℕ → Next S) (keeps : (n : ℕ) (s : S) (b : ℕ) → I n s → After n (step s b)) where
    pub feed_keeps : (n : ℕ) (s : S) (bs : List ℕ) → I n s → Holds (n + length bs) (feed step (going s) n bs)
    unfolding feed
    feed_keeps n s [] i = let e : n ≡ n + 0 = omega arith in subst (λ (k : ℕ). I k s) e i
    feed_keeps n s (b ∷ bs) i = by (step s b) (keeps n s b i) (λ t. feed_keeps (n + 1) t bs)
      where
        on : n + 1 + length bs ≡ n + length (b ∷ bs)
        on = omega arith

        by : (x : Next S) → After n x → ((t : S) → I (n + 1) t → Holds (n + 1 + length bs) (feed step (going t) (n + 1) bs))
            → Holds (n + length (b ∷ bs)) (feed step (stand n x) (n + 1) bs)
        by (go t) a r = subst (λ (k : ℕ). Holds k (feed step (going t) (n + 1) bs)) on (r t a)
        by halt a r = subst (Holds (n + length (b ∷ bs))) (sym (feed_found step n (n + 1) bs)) tt

-- ---- marks

-- the marks of a scan that was fed so many bytes: no more than are needed, all behind the opener, of which that is left which has not come
pub record MarksIn (kind : Kind) (taken : ℕ) (m : Marks) : Type 0 where
  pub most : m.seen ≤ need_of kind
  pub room : opener_of kind + m.seen ≤ taken + m.left
  pub in_opener : 0 < m.left → taken + m.left ≡ opener_of kind

module _ (k : Kind) (taken : ℕ) (m : Marks) where
  -- from the test, and to it
  pub marks_in_lem : marks_reached taken k m ≡ true → MarksIn k taken m
  marks_in_lem =
      pick_cases (λ (t : Bool). t ≡ true → MarksIn k taken m) (eqb m.left 0) _ _
      (λ z e. let z = eqb-true m.left 0 z in
      let h = both (leb m.seen (need_of k)) _ e in
      let a = leb-true m.seen (need_of k) h.0 in
      let b = leb-true (opener_of k + m.seen) taken h.1 in
      record { most = a; room = omega arith; in_opener = λ l. absurd (omega arith) })
      (λ z e. let h = both (eqb m.seen 0) _ e in
      let g = both (leb m.left (opener_of k)) _ h.1 in
      let s = eqb-true m.seen 0 h.0 in
      let a = leb-true m.left (opener_of k) g.0 in
      let b = eqb-true taken (opener_of k - m.left) g.1 in
      record { most = omega arith; room = omega arith; in_opener = λ l. omega arith })

  pub in_marks : MarksIn k taken m → marks_reached taken k m ≡ true
  in_marks c = elim (dec_lt 0 m.left) [
    | yes l ↦ let o = c.in_opener l in
        let r = c.room in
        let s : m.seen ≡ 0 = omega arith in
        let a : m.left ≤ opener_of k = omega arith in
        let b : taken ≡ opener_of k - m.left = omega arith in
        rw (ne_eqb m.left 0 (λ z. omega arith), eq-eqb m.seen 0 s, le-leb m.left (opener_of k) a, eq-eqb taken (opener_of k - m.left) b)
    | no l ↦ let r = c.room in
        let z : m.left ≡ 0 = omega arith in
        rw (eq-eqb m.left 0 z, le-leb m.seen (need_of k) c.most, le-leb (opener_of k + m.seen) taken (omega arith))
  ]

  -- a byte
  module _ (c : MarksIn k taken m) where
    abbrev Kept : Next Marks → Type 0
    Kept = After (MarksIn k) taken

    marks_seen : m.left ≡ 0 → (n : ℕ) → n ≤ m.seen + 1 → n ≤ need_of k → Kept (go (seeing n))
    marks_seen z n h l = let r = c.room in record { most = l; room = omega arith; in_opener = λ q. absurd (omega arith) }

    marks_kept : (b : ℕ) → Kept (marks_step (mark_of k) (need_of k) m b)
    marks_kept b =
        let most = c.most in
        pick_cases Kept (eqb m.left 0) _ _
        (λ z. let z = eqb-true m.left 0 z in
        let none = marks_seen z 0 (omega arith) (omega arith) in
        pick_cases Kept (eqb b gt) _ _
        (λ e. pick_cases Kept (leb (need_of k) m.seen) _ _ (λ l. tt) (λ l. none))
        (λ e. pick_cases Kept (eqb b (mark_of k)) _ _
        (λ f. pick_cases Kept (ltb m.seen (need_of k)) _ _
        (λ l. marks_seen z (m.seen + 1) (omega arith) (let h = ltb-true m.seen (need_of k) l in omega arith))
        (λ l. marks_seen z m.seen (omega arith) most))
        (λ f. none)))
        (λ z. let n = eqb-false m.left 0 z in
        let l : 0 < m.left = elim (dec_lt 0 m.left) [
          | yes h ↦ h
          | no h ↦ absurd (n (omega arith))
        ] in
        let o = c.in_opener l in
        let r = c.room in
        record { most = omega arith; room = omega arith; in_opener = λ q. omega arith })

-- ---- the machine of all scans

-- so many bytes may leave this state
abbrev pub MayStand : ℕ → State → Type 0
MayStand n s = state_reached n s ≡ true

some : (n : ℕ) → ltb 0 (n + 1) ≡ true
some n = lt-ltb 0 (n + 1) (omega arith)

-- in a scan of one kind
abbrev KeptAs : {S : Type 0} → (S → State) → ℕ → Next S → Type 0
KeptAs name n x = After MayStand n (within name x)

tag_kept : (n : ℕ) (q : ElementState) (b : ℕ) → KeptAs State.Tag n (element_step q b)
tag_kept n ElementState.Outside b =
    pick_cases (KeptAs State.Tag n) (eqb b gt) _ _ (λ e. tt)
    (λ e. pick_cases (KeptAs State.Tag n) (eqb b apos) _ _ (λ e. some n)
    (λ e. pick_cases (KeptAs State.Tag n) (eqb b quot) _ _ (λ e. some n) (λ e. refl)))
tag_kept n ElementState.SingleQ b = pick_cases (KeptAs State.Tag n) (eqb b apos) _ _ (λ e. refl) (λ e. some n)
tag_kept n ElementState.DoubleQ b = pick_cases (KeptAs State.Tag n) (eqb b quot) _ _ (λ e. refl) (λ e. some n)

marked_kept : (n : ℕ) (k : Kind) (x : Next Marks) → After (MarksIn k) n x → KeptAs (State.Marked k) n x
marked_kept n k (go m) c = in_marks k (n + 1) m c
marked_kept n k halt c = tt

-- each byte keeps it
step_kept : (n : ℕ) (s : State) (b : ℕ) → MayStand n s → After MayStand n (piece_step s b)
step_kept n State.Start b e =
    let z = eqb-true n 0 e in
    pick_cases (After MayStand n) (eqb b lt) _ _ (λ f. eq-eqb (n + 1) 1 (omega arith))
    (λ f. pick_cases (After MayStand n) (eqb b amp) _ _ (λ g. some n) (λ g. refl))
step_kept n State.Opened b e =
    let z = eqb-true n 1 e in
    pick_cases (After MayStand n) (eqb b bang) _ _ (λ f. eq-eqb (n + 1) 2 (omega arith))
    (λ f. pick_cases (After MayStand n) (eqb b question) _ _
    (λ g. in_marks Kind.Pi (n + 1) (seeing 1) (record { most = omega arith; room = omega arith; in_opener = λ l. absurd (omega arith) }))
    (λ g. tag_kept n ElementState.Outside b))
step_kept n State.Bang b e =
    let z = eqb-true n 2 e in
    pick_cases (After MayStand n) (eqb b open_bracket) _ _
    (λ f. in_marks Kind.CData (n + 1) (seeing 0) (record { most = omega arith; room = omega arith; in_opener = λ l. absurd (omega arith) }))
    (λ f. pick_cases (After MayStand n) (eqb b hyphen) _ _
    (λ g. in_marks Kind.Comment (n + 1) (passing 1) (record { most = omega arith; room = omega arith; in_opener = λ l. omega arith }))
    (λ g. tt))
step_kept n (State.Tag q) b e = tag_kept n q b
step_kept n (State.Marked k m) b e =
    marked_kept n k (marks_step (mark_of k) (need_of k) m b) (marks_kept k n m (marks_in_lem k n m e) b)
step_kept n State.Reference b e = pick_cases (KeptAs (λ u. State.Reference) n) (one_of reference_ends b) _ _ (λ f. tt) (λ f. some n)
step_kept n State.Text b e = pick_cases (KeptAs (λ u. State.Text) n) (one_of text_ends b) _ _ (λ f. tt) (λ f. refl)

-- and so do all
pub kept : (n : ℕ) (s : State) (bs : List ℕ) → MayStand n s → Holds MayStand (n + length bs) (feed piece_step (going s) n bs)
kept = feed_keeps MayStand piece_step step_kept
