-- Which scans feeding leads to: those that the test passes, and no others. Assumes nothing.
use Prim.Native.Nat.{ℕ, zero, suc, ◌+◌, ◌-◌, ◌≤◌, ◌<◌}
use mathlib.Core.Path.{◌≡◌, refl, sym, ap, ap₂, ◌∙◌, subst}
use mathlib.Core.Bool.{Bool, true}
use mathlib.Core.List.{List, [], ◌∷◌, ◌++◌}
use native.Mathlib.Omega.{arith}
use native.Mathlib.Decide.{dec_lt}
use lib.ListN.{length, length-append, replicate, length-replicate}
use lib.Dec.{leb, ltb}
use borrow.Author.Tests.{eqb-true, leb-true, ltb-true, lt-ltb, ne_eqb}
use Rattle.ground.specs.Bytes.{amp, apos, bang, gt, lt, quot, space}
use Rattle.ground.proofs.Choices.{both}
use Rattle.parser.specs.Machine.{Next, go, halt, Scan as Course, found, going, stand, feed}
use Rattle.parser.specs.Marks.{passing, seeing}
use Rattle.parser.specs.declared.element.ElementState.{ElementState}
use Rattle.parser.specs.declared.marks.Marks.{Marks}
use Rattle.state.specs.Limits.{longest}
use Rattle.pieces.specs.declared.scan.Kind.{Kind}
use Rattle.pieces.specs.declared.scan.What.{What}
use Rattle.pieces.specs.declared.scan.State.{State}
use Rattle.pieces.specs.declared.scan.Scan.{Scan}
use Rattle.pieces.specs.declared.scan.Fed.{Fed}
use Rattle.pieces.specs.Kinds.{mark_of, need_of, opener_of, piece_step}
use Rattle.pieces.specs.Reached.{reached, state_reached, quotes_reached}
use Rattle.pieces.specs.Fed.{answer_of, begins, fed, fresh, scan_of}
use Rattle.pieces.specs.Pieces.{fed_all, Reaches}
use Rattle.pieces.proofs.Machine.{feed_append}
use Rattle.pieces.proofs.Calls.{fed_closed, fed_long, fed_open}
use Rattle.pieces.proofs.Kept.{MarksIn, marks_in_lem}
use Rattle.pieces.proofs.Cutting.{reached_on, found_below}
use Rattle.pieces.proofs.Whole.{fresh_reached}

-- the test, for a scan that is closed too
abbrev pub passes : Scan → Bool
passes (Scan.Closed place) = ltb place longest
passes (Scan.Open taken state) = reached taken state

-- ---- feeding leads only to scans that pass

course_passes : (n : ℕ) (s : State) (piece : List ℕ) → reached n s ≡ true → n + length piece ≤ longest
    → (c : Course State) → feed piece_step (going s) n piece ≡ c → passes (answer_of (n + length piece) c).scan ≡ true
course_passes n s piece e h (found p) f = lt-ltb p longest (found_below n s piece e h p f)
course_passes n s piece e h (going t) f = reached_on n s piece e h t f

-- a call keeps it
pub fed_passes : (scan : Scan) (piece : List ℕ) → passes scan ≡ true → passes (fed scan piece).scan ≡ true
fed_passes (Scan.Closed p) piece e = subst (λ (x : Fed). passes x.scan ≡ true) (sym (fed_closed p piece (ltb-true p longest e))) e
fed_passes (Scan.Open n s) piece e = elim (dec_lt longest (n + length piece)) [
  | yes l ↦ subst (λ (x : Fed). passes x.scan ≡ true) (sym (fed_long n s piece e l)) e
  | no l ↦ let h : n + length piece ≤ longest = omega arith in
      subst (λ (x : Fed). passes x.scan ≡ true) (sym (fed_open n s piece e h _ refl)) (course_passes n s piece e h _ refl)
]

all_passes : (scan : Scan) (piece : List ℕ) (pieces : List (List ℕ)) → passes scan ≡ true → passes (fed_all scan piece pieces).scan ≡ true
unfolding fed_all
all_passes scan piece [] e = fed_passes scan piece e
all_passes scan piece (next ∷ pieces) e = all_passes (fed scan piece).scan next pieces (fed_passes scan piece e)

pub reaches_passes : (scan : Scan) → Reaches scan → passes scan ≡ true
reaches_passes scan r =
    subst (λ (s : Scan). passes s ≡ true) r.leaves (all_passes (fresh r.what) r.piece r.pieces (fresh_reached r.what))

-- ---- and to all of them: bytes that lead there

-- bytes take a fresh scan so far
abbrev Comes : What → List ℕ → Course State → Type 0
Comes w bytes c = feed piece_step (going (begins w)) 0 bytes ≡ c

leads : (w : What) (bytes : List ℕ) (c : Course State) → Comes w bytes c → length bytes ≤ longest → (scan : Scan) → scan_of (length bytes) c ≡ scan → Reaches scan
unfolding fed_all
leads w bytes c e h scan f = record {
  what = w;
  piece = bytes;
  pieces = [];
  leaves =
      let z : 0 + length bytes ≡ length bytes = omega arith in
      ap (λ (x : Fed). x.scan) (fed_open 0 (begins w) bytes (fresh_reached w) (omega arith) c e) ∙ ap (λ (n : ℕ). scan_of n c) z ∙ f;
}

-- as many bytes as the scan was fed
module _ (w : What) (bytes : List ℕ) (n : ℕ) (l : length bytes ≡ n) (h : n ≤ longest) where
  leads_open : (s : State) → Comes w bytes (going s) → Reaches (Scan.Open n s)
  leads_open s e = leads w bytes (going s) e (omega arith) (Scan.Open n s) (ap (λ (k : ℕ). Scan.Open k s) l)

-- ---- bytes one behind the other

behind : (s t : State) (xs ys : List ℕ) (i : ℕ) (c : Course State) → feed piece_step (going s) i xs ≡ going t
    → feed piece_step (going t) (i + length xs) ys ≡ c → feed piece_step (going s) i (xs ++ ys) ≡ c
behind s t xs ys i c e f = feed_append piece_step (going s) i xs ys ∙ ap (λ (c : Course State). feed piece_step c (i + length xs) ys) e ∙ f

-- one
feed_one : (s : State) (i b : ℕ) (n : Next State) → piece_step s b ≡ n → feed piece_step (going s) i (b ∷ []) ≡ stand i n
unfolding feed
feed_one s i b n e = ap (stand i) e

-- the same n times, through the states of a row
module _ (row : ℕ → State) (b top : ℕ) (on : (a : ℕ) → a < top → piece_step (row a) b ≡ go (row (a + 1))) where
  feed_row : (n a i : ℕ) → a + n ≤ top → feed piece_step (going (row a)) i (replicate n b) ≡ going (row (a + n))
  unfolding feed
  feed_row zero a i h = ap (λ (k : ℕ). going (row k)) (omega arith)
  feed_row (suc n) a i h =
      ap (λ (x : Next State). feed piece_step (stand i x) (i + 1) (replicate n b)) (on a (omega arith))
      ∙ feed_row n (a + 1) (i + 1) (omega arith)
      ∙ ap (λ (k : ℕ). going (row k)) (omega arith)

-- spaces, at which the state stays, and a byte behind them
module _ (s : State) (e : piece_step s space ≡ go s) where
  spaces : (n i : ℕ) → feed piece_step (going s) i (replicate n space) ≡ going s
  spaces n i = feed_row (λ (a : ℕ). s) space n (λ a h. e) n 0 i (omega arith)

  spaced : (n b : ℕ) (x : Next State) → piece_step s b ≡ x → feed piece_step (going s) 0 (replicate n space ++ (b ∷ [])) ≡ stand n x
  spaced n b x f =
      behind s s (replicate n space) (b ∷ []) 0 (stand n x) (spaces n 0)
      (feed_one s (0 + length (replicate n space)) b x f ∙ ap (λ (i : ℕ). stand i x) (omega (arith, length-replicate n space)))

spaced_length : (n b : ℕ) → length (replicate n space ++ (b ∷ [])) ≡ n + 1
spaced_length n b = length-append (replicate n space) (b ∷ []) ∙ omega (arith, length-replicate n space)

-- ---- marks

passing_on : (k : Kind) (left : ℕ) → piece_step (State.Marked k (passing left)) space ≡ go (State.Marked k (passing (left - 1)))
passing_on Kind.Pi zero = refl
passing_on Kind.Comment zero = refl
passing_on Kind.CData zero = refl
passing_on k (suc left) = rw (ne_eqb (suc left) 0 (λ e. omega arith))

mark_on : (k : Kind) (a : ℕ) → a < need_of k → piece_step (State.Marked k (seeing a)) (mark_of k) ≡ go (State.Marked k (seeing (a + 1)))
mark_on Kind.Pi a h = rw (lt-ltb a 1 h)
mark_on Kind.Comment a h = rw (lt-ltb a 2 h)
mark_on Kind.CData a h = rw (lt-ltb a 2 h)

module _ (k : Kind) where
  -- past the opener, or into it
  opener_comes : (n : ℕ) → Comes (What.Marked k) (replicate n space) (going (State.Marked k (passing (opener_of k - n))))
  opener_comes n =
      let z : opener_of k ≡ opener_of k - 0 = omega arith in
      let m : opener_of k - (0 + n) ≡ opener_of k - n = omega arith in
      ap (λ (l : ℕ). feed piece_step (going (State.Marked k (passing l))) 0 (replicate n space)) z
      ∙ feed_row (λ (a : ℕ). State.Marked k (passing (opener_of k - a))) space n
      (λ a h. passing_on k (opener_of k - a) ∙ ap (λ (l : ℕ). go (State.Marked k (passing l))) (omega arith)) n 0 0 (omega arith)
      ∙ ap (λ (l : ℕ). going (State.Marked k (passing l))) m

  marks_come : (n seen : ℕ) → opener_of k ≤ n → seen ≤ need_of k
      → Comes (What.Marked k) (replicate n space ++ replicate seen (mark_of k)) (going (State.Marked k (seeing seen)))
  marks_come n seen h l =
      let z : opener_of k - n ≡ 0 = omega arith in
      let s : 0 + seen ≡ seen = omega arith in
      behind (begins (What.Marked k)) (State.Marked k (seeing 0)) (replicate n space) (replicate seen (mark_of k)) 0 _
      (opener_comes n ∙ ap (λ (l : ℕ). going (State.Marked k (passing l))) z)
      (feed_row (λ (a : ℕ). State.Marked k (seeing a)) (mark_of k) (need_of k) (mark_on k) seen 0 _ (omega arith)
      ∙ ap (λ (a : ℕ). going (State.Marked k (seeing a))) s)

  marked_reached : (taken : ℕ) (m : Marks) → taken ≤ longest → MarksIn k taken m → Reaches (Scan.Open taken (State.Marked k m))
  marked_reached taken m h c = elim (dec_lt 0 m.left) [
    | yes l ↦ let o = c.in_opener l in
        let r = c.room in
        leads_open (What.Marked k) (replicate taken space) taken (length-replicate taken space) h (State.Marked k m)
        (opener_comes taken ∙ ap₂ (λ (a b : ℕ). going (State.Marked k (record { left = a; seen = b }))) (omega arith) (omega arith))
    | no l ↦ let r = c.room in
        leads_open (What.Marked k) (replicate (taken - m.seen) space ++ replicate m.seen (mark_of k)) taken
        (length-append (replicate (taken - m.seen) space) (replicate m.seen (mark_of k))
        ∙ omega (arith, length-replicate (taken - m.seen) space, length-replicate m.seen (mark_of k))) h (State.Marked k m)
        (marks_come (taken - m.seen) m.seen (omega arith) c.most
        ∙ ap (λ (a : ℕ). going (State.Marked k (record { left = a; seen = m.seen }))) (omega arith))
  ]

-- ---- each state

quotes_reached_lem : (taken : ℕ) (q : ElementState) → taken ≤ longest → quotes_reached taken q ≡ true → Reaches (Scan.Open taken (State.Tag q))
quotes_reached_lem taken ElementState.Outside h e =
    leads_open What.Tag (replicate taken space) taken (length-replicate taken space) h (State.Tag ElementState.Outside)
    (spaces (State.Tag ElementState.Outside) refl taken 0)
quotes_reached_lem taken ElementState.SingleQ h e =
    let l = ltb-true 0 taken e in
    leads_open What.Tag (replicate (taken - 1) space ++ (apos ∷ [])) taken (spaced_length (taken - 1) apos ∙ omega arith) h _
    (spaced (State.Tag ElementState.Outside) refl (taken - 1) apos _ refl)
quotes_reached_lem taken ElementState.DoubleQ h e =
    let l = ltb-true 0 taken e in
    leads_open What.Tag (replicate (taken - 1) space ++ (quot ∷ [])) taken (spaced_length (taken - 1) quot ∙ omega arith) h _
    (spaced (State.Tag ElementState.Outside) refl (taken - 1) quot _ refl)

state_reached_lem : (taken : ℕ) (s : State) → taken ≤ longest → state_reached taken s ≡ true → Reaches (Scan.Open taken s)
unfolding feed
state_reached_lem taken State.Start h e = leads_open What.Piece [] taken (sym (eqb-true taken 0 e)) h State.Start refl
state_reached_lem taken State.Opened h e = leads_open What.Piece (lt ∷ []) taken (sym (eqb-true taken 1 e)) h State.Opened refl
state_reached_lem taken State.Bang h e = leads_open What.Piece (lt ∷ bang ∷ []) taken (sym (eqb-true taken 2 e)) h State.Bang refl
state_reached_lem taken (State.Tag q) h e = quotes_reached_lem taken q h e
state_reached_lem taken (State.Marked k m) h e = marked_reached k taken m h (marks_in_lem k taken m e)
state_reached_lem taken State.Reference h e =
    let l = ltb-true 0 taken e in
    let n : suc (taken - 1) ≡ taken = omega arith in
    leads_open What.Piece (amp ∷ replicate (taken - 1) space) taken (ap suc (length-replicate (taken - 1) space) ∙ n) h State.Reference
    (spaces State.Reference refl (taken - 1) 1)
state_reached_lem taken State.Text h e =
    leads_open What.Text (replicate taken space) taken (length-replicate taken space) h State.Text (spaces State.Text refl taken 0)

pub passes_reaches : (scan : Scan) → passes scan ≡ true → Reaches scan
passes_reaches (Scan.Closed p) e =
    let l = ltb-true p longest e in
    leads What.Tag (replicate p space ++ (gt ∷ [])) (found p) (spaced (State.Tag ElementState.Outside) refl p gt halt refl)
    (omega (arith, spaced_length p gt)) (Scan.Closed p) refl
passes_reaches (Scan.Open n s) e =
    let h = both (leb n longest) (state_reached n s) e in
    state_reached_lem n s (leb-true n longest h.0) h.1
