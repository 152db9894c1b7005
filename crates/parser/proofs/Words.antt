-- Each scan in the words of document 01: it answers "at p" exactly when p is the least position with the stated property, and otherwise exactly when there
-- is none. Assumes nothing.
use Prim.Native.Nat.{ℕ, ◌+◌, ◌-◌, ◌≤◌, ◌<◌}
use mathlib.Core.Path.{◌≡◌, refl, sym, ap, ◌∙◌, subst}
use mathlib.Core.List.{List, [], ◌∷◌, ◌++◌}
use mathlib.Core.Bool.{Bool, true, false}
use mathlib.Core.Logic.{◌↔◌, ◌⊎◌, inl, inr, ⊎_elim}
use native.Mathlib.Omega.{arith}
use lib.ListN.{length, get_or, take, drop, length-drop}
use lib.Seq.{take_all}
use lib.Dec.{eqb}
use borrow.Author.Tests.{eqb-true, eqb-false}
use Rattle.ground.specs.Choose.{pick}
use Rattle.ground.specs.Bytes.{quot, apos, gt, hyphen, question, close_bracket}
use Rattle.ground.specs.Least.{Least, Nowhere, Gives}
use Rattle.ground.proofs.Choices.{pick_cases, clash}
use Rattle.ground.proofs.Lists.{stands_in, part_in, take_next}
use Rattle.parser.specs.Machine.{Next, go, scan_at}
use Rattle.parser.specs.Element.{element_step, element_answer, element_found, IsQuote, OutsideQuotes, at_first, unquoted, WithinQuote, LeavesIn, TagEnd}
use Rattle.parser.specs.Marks.{marks_step, marks_answer, marks_found, pi_found, comment_found, cdata_found, passing}
use Rattle.parser.specs.Marks.{MarkedEnd, MarksLeft, PiEnd, CommentEnd, CDataEnd}
use Rattle.parser.specs.First.{first_step, first_answer, first_found, one_of, text_ends, text_found, reference_ends, reference_found}
use Rattle.parser.specs.First.{Among, ByteAmong, TextEnd, ReferenceEnd}
use Rattle.parser.specs.Hyphens.{pair_step, pair_answer, pair_found, PairEnd, HyphensAt}
use Rattle.parser.specs.declared.element.ElementState.{ElementState}
use Rattle.parser.specs.declared.element.ElementState.TheVariants.{Outside, SingleQ, DoubleQ}
use Rattle.parser.specs.declared.element.Found.TheVariants.{At, Open}
use Rattle.parser.specs.declared.marks.Marks.{Marks}
use Rattle.parser.specs.declared.marks.Found.TheVariants.{At as MarkedAt, Open as MarkedOpen}
use Rattle.parser.specs.declared.first.Found.TheVariants.{At as FirstAt, End}
use Rattle.parser.proofs.Outcome.{Meets, Tells, tells, tells_gives, tells_none, tells_open}
use Rattle.parser.proofs.Quotes.{opens, closes, stays, leaves_one}
use Rattle.parser.proofs.Counts.{Counts, counts_meets, counts_start, counts_end, left_one}

-- ---- tags

-- how many quotes are open
abbrev depth : ElementState → ℕ
depth Outside = 0
depth SingleQ = 1
depth DoubleQ = 1

module _ (s : List ℕ) (from : ℕ) where
  -- the bytes that the scan has passed at i
  abbrev passed : ℕ → List ℕ
  passed i = take (i - from) (drop from s)

  abbrev Means : ElementState → ℕ → Type 0
  Means q i = (from ≤ i) × LeavesIn q (passed i)

  module _ (i : ℕ) (h : i < length s) (f : from ≤ i) where
    abbrev Here : Next ElementState → Type 0
    Here = Meets element_step s (TagEnd s from) Means i

    abbrev b : ℕ
    b = get_or s i 0

    next : (t : ElementState) → LeavesIn t (passed i ++ (b ∷ [])) → Means t (i + 1)
    next t x = (omega arith, subst (LeavesIn t) (sym (take_next s from i f h)) x)

    outside_meets : OutsideQuotes (passed i) → Here (element_step Outside b)
    outside_meets o =
        pick_cases Here (eqb b gt) _ _
        (λ x. record { after = f; within = h; closes = eqb-true b gt x; outside = subst OutsideQuotes (sym (part_in s from i f (omega arith))) o })
        (λ x. let no_end : TagEnd s from i → ⊥ = λ p. eqb-false b gt x p.closes in
        pick_cases Here (eqb b apos) _ _
        (λ y. (no_end, next SingleQ (opened_by apos (eqb-true b apos y))))
        (λ y. pick_cases Here (eqb b quot) _ _
        (λ z. (no_end, next DoubleQ (opened_by quot (eqb-true b quot z))))
        (λ z. (no_end, next Outside (unquoted o (⊎_elim (eqb-false b quot z) (eqb-false b apos y)))))))
      where
        opened_by : (q : ℕ) → b ≡ q → WithinQuote q (passed i ++ (b ∷ []))
        opened_by q e = subst (λ (x : ℕ). WithinQuote q (passed i ++ (x ∷ []))) (sym e) (opens q (passed i) o)

    -- within a quote q, whose state is t
    module _ (q : ℕ) (t : ElementState) (a-quote : IsQuote q) (other : q ≡ gt → ⊥) (inner : 0 < depth t)
        (is : (bs : List ℕ) → WithinQuote q bs → LeavesIn t bs) (w : WithinQuote q (passed i)) where
      within_meets : Here (pick (eqb b q) (go Outside) (go t))
      within_meets =
          pick_cases Here (eqb b q) _ _
          (λ x. let e = eqb-true b q x in (
            λ p. other (sym e ∙ p.closes),
            next Outside (subst (λ (x : ℕ). OutsideQuotes (passed i ++ (x ∷ []))) (sym e) (closes q (passed i) a-quote w)),
          ))
          (λ x. (
            λ p. let o = subst OutsideQuotes (part_in s from i f (omega arith)) p.outside in
                omega (arith, ap depth (leaves_one t Outside (passed i) (is (passed i) w) o)),
            next t (is _ (stays q b (passed i) (eqb-false b q x) w)),
          ))

  element_meets : (q : ElementState) (i : ℕ) → Means q i → i < length s → Meets element_step s (TagEnd s from) Means i (element_step q (get_or s i 0))
  element_meets Outside i m h = outside_meets i h m.0 m.1
  element_meets SingleQ i m h = within_meets i h m.0 apos SingleQ (inr refl) (λ e. omega arith) (omega arith) (λ bs w. w) m.1
  element_meets DoubleQ i m h = within_meets i h m.0 quot DoubleQ (inl refl) (λ e. omega arith) (omega arith) (λ bs w. w) m.1

  element_tells : Tells element_step s (TagEnd s from) Means (scan_at element_step Outside s from)
  element_tells =
      tells element_step s (TagEnd s from) Means (λ p q. q.within) element_meets Outside from
      (omega arith, subst (λ (n : ℕ). OutsideQuotes (take n (drop from s))) none at_first) (λ k h p. omega (arith, p.after))
    where
      none : 0 ≡ from - from
      none = omega arith

  -- the first `>` outside quotes
  pub element_gives : Gives At (element_found s from) (TagEnd s from)
  element_gives =
      tells_gives element_step s (TagEnd s from) Means element_answer (λ t p e. let z : ◌≡◌ {A = ℕ} 0 1 = cc in omega arith) (λ p q e. cc)
      (scan_at element_step Outside s from) element_tells

  -- the bytes end with none: outside quotes, within `'` or within `"`
  pub element_open : (q : ElementState) → (element_found s from ≡ Open q) ↔ (Nowhere (TagEnd s from) × LeavesIn q (drop from s))
  element_open q =
      tells_open element_step s (TagEnd s from) Means element_answer (λ t p e. let z : ◌≡◌ {A = ℕ} 0 1 = cc in omega arith) (λ t u e. cc)
      (λ t. LeavesIn t (drop from s))
      (λ t e h m. subst (LeavesIn t) (take_all (e - from) (drop from s) (omega (arith, length-drop from s))) m.1)
      (λ t u x y. leaves_one t u (drop from s) x y)
      q (scan_at element_step Outside s from) element_tells

-- ---- processing instructions, comments and CDATA

module _ (s : List ℕ) (from opener mark need : ℕ) (other : mark ≡ gt → ⊥) where
  abbrev Closes : ℕ → Type 0
  Closes = MarkedEnd mark need (opener + need) s from

  abbrev Counted : Marks → ℕ → Type 0
  Counted = Counts mark need opener s from

  marks_tells : Tells (marks_step mark need) s Closes Counted (scan_at (marks_step mark need) (passing opener) s from)
  marks_tells =
      tells (marks_step mark need) s Closes Counted (λ p q. q.within) (counts_meets mark need opener s from other) (passing opener) from
      (counts_start mark need opener s from) (λ k h p. omega (arith, p.after))

  -- the first `>` with its marks just before, for any mark but `>`
  pub marks_gives : Gives MarkedAt (marks_found opener mark need s from) Closes
  marks_gives =
      tells_gives (marks_step mark need) s Closes Counted marks_answer (λ t p e. let z : ◌≡◌ {A = ℕ} 0 1 = cc in omega arith) (λ p q e. cc)
      (scan_at (marks_step mark need) (passing opener) s from) marks_tells

  -- the bytes end with none: so much of the opener is left, and so many marks stand at the end
  pub marks_open : (m : Marks) → (marks_found opener mark need s from ≡ MarkedOpen m) ↔ (Nowhere Closes × MarksLeft mark need opener s from m)
  marks_open m =
      tells_open (marks_step mark need) s Closes Counted marks_answer (λ t p e. let z : ◌≡◌ {A = ℕ} 0 1 = cc in omega arith) (λ t u e. cc)
      (MarksLeft mark need opener s from) (counts_end mark need opener s from) (left_one mark need opener s from)
      m (scan_at (marks_step mark need) (passing opener) s from) marks_tells

module _ (s : List ℕ) (from : ℕ) where
  -- the first `>` with a `?` just before
  pub pi_gives : Gives MarkedAt (pi_found s from) (PiEnd s from)
  pi_gives = marks_gives s from 0 question 1 (λ e. omega arith)

  -- the first `>` at offset 6 or more with `--` just before
  pub comment_gives : Gives MarkedAt (comment_found s from) (CommentEnd s from)
  comment_gives = marks_gives s from 4 hyphen 2 (λ e. omega arith)

  -- the first `>` with `]]` just before
  pub cdata_gives : Gives MarkedAt (cdata_found s from) (CDataEnd s from)
  cdata_gives = marks_gives s from 0 close_bracket 2 (λ e. omega arith)

-- ---- text and references

-- the test of a byte says whether it is among those listed
one_of_lem : (ks : List ℕ) (b : ℕ) → one_of ks b ≡ true → Among ks b
one_of_lem [] b e = clash false e refl
one_of_lem (k ∷ ks) b e = by (eqb b k) refl e (one_of_lem ks b)
  where
    by : (x : Bool) → eqb b k ≡ x → pick x true (one_of ks b) ≡ true → (one_of ks b ≡ true → Among ks b) → (b ≡ k) ⊎ Among ks b
    by true q e r = inl (eqb-true b k q)
    by false q e r = inr (r e)

not_one_of : (ks : List ℕ) (b : ℕ) → one_of ks b ≡ false → Among ks b → ⊥
not_one_of [] b e a = a
not_one_of (k ∷ ks) b e a = by (eqb b k) refl e (not_one_of ks b) a
  where
    by : (x : Bool) → eqb b k ≡ x → pick x true (one_of ks b) ≡ false → (one_of ks b ≡ false → Among ks b → ⊥)
        → (b ≡ k) ⊎ Among ks b → ⊥
    by true q e r = clash true refl e
    by false q e r = ⊎_elim (eqb-false b k q) (r e)

module _ (ks s : List ℕ) (from : ℕ) where
  abbrev From : Unit {0} → ℕ → Type 0
  From u i = from ≤ i

  first_meets : (u : Unit {0}) (i : ℕ) → From u i → i < length s
      → Meets (first_step (one_of ks)) s (ByteAmong ks s from) From i (first_step (one_of ks) u (get_or s i 0))
  first_meets u i m h =
      pick_cases (Meets (first_step (one_of ks)) s (ByteAmong ks s from) From i) (one_of ks (get_or s i 0)) _ _
      (λ x. record { after = m; within = h; among = one_of_lem ks (get_or s i 0) x })
      (λ x. (λ p. not_one_of ks (get_or s i 0) x p.among, omega arith))

  first_tells : Tells (first_step (one_of ks)) s (ByteAmong ks s from) From (scan_at (first_step (one_of ks)) tt s from)
  first_tells =
      tells (first_step (one_of ks)) s (ByteAmong ks s from) From (λ p q. q.within) first_meets tt from (omega arith) (λ k h p. omega (arith, p.after))

  -- the first byte of those listed
  pub first_gives : Gives FirstAt (first_found (one_of ks) s from) (ByteAmong ks s from)
  first_gives =
      tells_gives (first_step (one_of ks)) s (ByteAmong ks s from) From first_answer (λ t p e. let z : ◌≡◌ {A = ℕ} 0 1 = cc in omega arith) (λ p q e. cc)
      (scan_at (first_step (one_of ks)) tt s from) first_tells

  -- the bytes end with none
  pub first_end : (first_found (one_of ks) s from ≡ End) ↔ Nowhere (ByteAmong ks s from)
  first_end =
      tells_none (first_step (one_of ks)) s (ByteAmong ks s from) From first_answer (λ t p e. let z : ◌≡◌ {A = ℕ} 0 1 = cc in omega arith)
      tt (λ u. refl) (scan_at (first_step (one_of ks)) tt s from) first_tells

module _ (s : List ℕ) (from : ℕ) where
  -- the first `<` or `&`, or the end
  pub text_gives : Gives FirstAt (text_found s from) (TextEnd s from)
  text_gives = first_gives text_ends s from

  pub text_end_lem : (text_found s from ≡ End) ↔ Nowhere (TextEnd s from)
  text_end_lem = first_end text_ends s from

  -- the first of `;`, `&`, `<` after the `&` at `from`, or the end
  pub reference_gives : Gives FirstAt (reference_found s from) (ReferenceEnd s from)
  reference_gives = first_gives reference_ends s (from + 1)

  pub reference_end : (reference_found s from ≡ End) ↔ Nowhere (ReferenceEnd s from)
  reference_end = first_end reference_ends s (from + 1)

-- ---- two hyphens

module _ (s : List ℕ) (from : ℕ) where
  -- what the byte just before i is, if it stands at `from` or later
  abbrev Before : Bool → ℕ → Type 0
  Before true i = (from < i) × (get_or s (i - 1) 0 ≡ hyphen)
  Before false i = (from ≤ i) × (from < i → get_or s (i - 1) 0 ≡ hyphen → ⊥)

  module _ (i : ℕ) (h : i < length s) where
    abbrev At-pair : Next Bool → Type 0
    At-pair = Meets pair_step s (PairEnd s from) Before i

    back : get_or s (i + 1 - 1) 0 ≡ get_or s i 0
    back = let e : i + 1 - 1 ≡ i = omega arith in ap (λ (k : ℕ). get_or s k 0) e

    -- any other byte
    pair_other : from ≤ i → eqb (get_or s i 0) hyphen ≡ false → At-pair (go false)
    pair_other f x =
        let n = eqb-false (get_or s i 0) hyphen x in
        (λ p. n p.second, (omega arith, λ l e. n (sym back ∙ e)))

    pair_meets : (before : Bool) → Before before i → At-pair (pair_step before (get_or s i 0))
    pair_meets true m =
        pick_cases At-pair (eqb (get_or s i 0) hyphen) _ _
        (λ x. record { after = m.0; within = h; second = eqb-true (get_or s i 0) hyphen x; first = m.1 })
        (pair_other (omega (arith, m.0)))
    pair_meets false m =
        pick_cases At-pair (eqb (get_or s i 0) hyphen) _ _
        (λ x. (λ p. m.1 p.after p.first, (omega (arith, m.0), back ∙ eqb-true (get_or s i 0) hyphen x)))
        (pair_other m.0)

  pair_tells : Tells pair_step s (PairEnd s from) Before (scan_at pair_step false s from)
  pair_tells =
      tells pair_step s (PairEnd s from) Before (λ p q. q.within) (λ t i m h. pair_meets i h t m) false from
      (omega arith, λ l e. omega arith) (λ k h p. omega (arith, p.after))

  -- the second of the first two hyphens in a row
  pub pair_gives : Gives FirstAt (pair_found s from) (PairEnd s from)
  pair_gives =
      tells_gives pair_step s (PairEnd s from) Before pair_answer (λ t p e. let z : ◌≡◌ {A = ℕ} 0 1 = cc in omega arith) (λ p q e. cc)
      (scan_at pair_step false s from) pair_tells

  pub pair_end : (pair_found s from ≡ End) ↔ Nowhere (PairEnd s from)
  pair_end =
      tells_none pair_step s (PairEnd s from) Before pair_answer (λ t p e. let z : ◌≡◌ {A = ℕ} 0 1 = cc in omega arith)
      false (λ u. refl) (scan_at pair_step false s from) pair_tells

-- two hyphens in a span, the second at its end at the latest
module _ (s : List ℕ) (from to : ℕ) where
  -- the second of them is where a pair ends
  pair_of : (k : ℕ) → HyphensAt s from to k → PairEnd s from (k + 1)
  pair_of k h =
      let back : k + 1 - 1 ≡ k = omega arith in
      record {
        after = omega (arith, h.after);
        within = stands_in s (k + 1) hyphen h.second (omega arith);
        second = h.second;
        first = rw back h.first;
      }

  -- the scan finds one that ends in the span: it is the first there
  pub pair_first : (p : ℕ) → pair_found s from ≡ FirstAt p → p ≤ to → Least (HyphensAt s from to) (p - 1)
  pair_first p e l =
      let least = ((pair_gives s from).found p).0 e in
      let h = least.has in
      let on : p - 1 + 1 ≡ p = omega (arith, h.after) in
      record {
        has = record { after = omega (arith, h.after); before = omega (arith, h.after); first = h.first; second = rw on h.second };
        before = λ k b two. least.before (k + 1) (omega (arith, b)) (pair_of k two);
      }

  -- one that ends behind it, or none
  pub pair_behind : (p : ℕ) → pair_found s from ≡ FirstAt p → to < p → Nowhere (HyphensAt s from to)
  pair_behind p e l k h = (((pair_gives s from).found p).0 e).before (k + 1) (omega (arith, h.before)) (pair_of k h)

  pub pair_nowhere : pair_found s from ≡ End → Nowhere (HyphensAt s from to)
  pair_nowhere e k h = (pair_end s from).0 e (k + 1) (pair_of k h)
