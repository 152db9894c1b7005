-- The laws of a layout: parts that follow each other, how many parts a byte is in, which part is one of them, and which are pieces. Assumes nothing.
use Prim.Native.Nat.{ℕ, ◌+◌, ◌≤◌, ◌<◌}
use mathlib.Core.Path.{◌≡◌, refl, sym, ap, ◌∙◌, subst}
use mathlib.Core.Logic.{◌⊎◌, inl, inr}
use mathlib.Core.Bool.{Bool, true, false}
use mathlib.Core.List.{List, [], ◌∷◌, ◌++◌, reverse, reverse-cons}
use native.Mathlib.Omega.{arith}
use lib.Dec.{ltb, leb}
use borrow.Author.Tests.{le-leb, lt-leb, lt-ltb, le-ltb, ltb-true, ltb-false}
use Rattle.ground.specs.Choose.{pick}
use Rattle.ground.proofs.Choices.{pick_cases}
use Rattle.state.specs.declared.place.Span.{Span}
use Rattle.state.specs.Place.{span}
use Rattle.reader.specs.Step.{begin}
use Rattle.demands.specs.Answers.{count}
use Rattle.demands.specs.Laid.{What, Laid, laid, gap, skipped_before, layout, Chained, AmongParts, is_piece, pieces_in, has_byte, times_set}

pub chained_append : (a b c : ℕ) (xs ys : List Laid) → Chained a xs b → Chained b ys c → Chained a (xs ++ ys) c
unfolding Chained
chained_append a b c [] ys e h = subst (λ (n : ℕ). Chained n ys c) (sym e) h
chained_append a b c (x ∷ xs) ys h k = (h.0, h.1, chained_append x.span.to b c xs ys h.2 k)

chained_parts : (a c : ℕ) (xs ys : List Laid) → Chained a (xs ++ ys) c → (b : ℕ) × Chained a xs b × Chained b ys c
unfolding Chained
chained_parts a c [] ys h = (a, refl, h)
chained_parts a c (x ∷ xs) ys h = let t = chained_parts x.span.to c xs ys h.2 in (t.0, (h.0, h.1, t.1), t.2)

chained_up : (a b : ℕ) (xs : List Laid) → Chained a xs b → a ≤ b
unfolding Chained
chained_up a b [] e = omega arith
chained_up a b (x ∷ xs) h = omega (arith, h.0, h.1, chained_up x.span.to b xs h.2)

pub in_order_lem : (to : ℕ) (before between behind : List Laid) (x y : Laid) → Chained 0 (before ++ (x ∷ (between ++ (y ∷ behind)))) to → x.span.to ≤ y.span.from
unfolding Chained
in_order_lem to before between behind x y h =
    let later = (chained_parts 0 to before (x ∷ (between ++ (y ∷ behind))) h).2 in
    let last = chained_parts x.span.to to between (y ∷ behind) later.2 in
    omega (arith, chained_up x.span.to last.0 between last.1, last.2.0)

pub chained_gap : (what : What) (from to : ℕ) → from ≤ to → Chained from (gap what from to) to
unfolding Chained
chained_gap what from to h =
    pick_cases (λ (xs : List Laid). Chained from xs to) (ltb from to) _ _
    (λ _. (refl, h, refl))
    (λ e. omega (arith, ltb-false from to e))

-- how often a place stands in parts that follow each other
module _ (place : ℕ) where
  has_it : (s : Span) → s.from ≤ place → place < s.to → has_byte place s ≡ true
  has_it s h k = rw (le-leb _ _ h, lt-ltb _ _ k)

  not_before : (s : Span) → place < s.from → has_byte place s ≡ false
  not_before s h = rw (lt-leb _ _ h)

  pub not_behind : (s : Span) → s.to ≤ place → has_byte place s ≡ false
  not_behind s h = pick_cases (λ (b : Bool). b ≡ false) (leb s.from place) _ _ (λ _. rw (le-ltb place s.to h)) (λ _. refl)

  none_before : (a b : ℕ) (xs : List Laid) → Chained a xs b → place < a → times_set place xs ≡ 0
  unfolding Chained count
  none_before a b [] h l = refl
  none_before a b (x ∷ xs) h l = rw (not_before x.span (omega (arith, h.0)), none_before x.span.to b xs h.2 (omega (arith, h.0, h.1)))

  pub none_behind : (a b : ℕ) (xs : List Laid) → Chained a xs b → b ≤ place → times_set place xs ≡ 0
  unfolding Chained count
  none_behind a b [] h l = refl
  none_behind a b (x ∷ xs) h l = rw (not_behind x.span (omega (arith, chained_up x.span.to b xs h.2)), none_behind x.span.to b xs h.2 l)

  pub once_within : (a b : ℕ) (xs : List Laid) → Chained a xs b → a ≤ place → place < b → times_set place xs ≡ 1
  unfolding Chained count
  once_within a b [] h l k = absurd (omega arith)
  once_within a b (x ∷ xs) h l k = by (ltb place x.span.to) refl (once_within x.span.to b xs h.2)
    where
      by : (t : Bool) → ltb place x.span.to ≡ t → (x.span.to ≤ place → place < b → times_set place xs ≡ 1)
          → pick (has_byte place x.span) 1 0 + times_set place xs ≡ 1
      by true e later = let i = ltb-true place _ e in rw (has_it x.span (omega (arith, h.0)) i, none_before x.span.to b xs h.2 i)
      by false e later = let i = ltb-false place _ e in rw (not_behind x.span i, later i k)

pub among_append : (x : Laid) (xs ys : List Laid) → AmongParts x (xs ++ ys) → AmongParts x xs ⊎ AmongParts x ys
unfolding AmongParts
among_append x [] ys h = inr h
among_append x (y ∷ xs) ys (inl e) = inl (inl e)
among_append x (y ∷ xs) ys (inr h) = by (among_append x xs ys h)
  where
    by : AmongParts x xs ⊎ AmongParts x ys → ((x ≡ y) ⊎ AmongParts x xs) ⊎ AmongParts x ys
    by (inl i) = inl (inr i)
    by (inr i) = inr i

pub among_gap : (x : Laid) (what : What) (from to : ℕ) → AmongParts x (gap what from to) → (x ≡ laid what (span from to)) × (from < to)
unfolding AmongParts
among_gap x what from to =
    pick_cases (λ (xs : List Laid). AmongParts x xs → (x ≡ laid what (span from to)) × (from < to)) (ltb from to) _ _
    (λ e h. (first h, ltb-true from to e))
    (λ _ h. absurd h)
  where
    first : {y : Laid} → (x ≡ y) ⊎ ⊥ → x ≡ y
    first (inl e) = e
    first (inr h) = absurd h

pieces_append : (xs ys : List Laid) → pieces_in (xs ++ ys) ≡ pieces_in xs ++ pieces_in ys
unfolding pieces_in
pieces_append [] ys = refl
pieces_append (x ∷ xs) ys = by (is_piece x.what) (pieces_append xs ys)
  where
    by : (t : Bool) → pieces_in (xs ++ ys) ≡ pieces_in xs ++ pieces_in ys
        → pick t (x.span ∷ pieces_in (xs ++ ys)) (pieces_in (xs ++ ys)) ≡ pick t (x.span ∷ pieces_in xs) (pieces_in xs) ++ pieces_in ys
    by true e = ap (λ (ps : List Span). x.span ∷ ps) e
    by false e = e

no_pieces : (what : What) (from to : ℕ) → is_piece what ≡ false → pieces_in (gap what from to) ≡ []
unfolding pieces_in
no_pieces what from to e = pick_cases (λ (xs : List Laid). pieces_in xs ≡ []) (ltb from to) _ _ (λ _. rw e) (λ _. refl)

no_pieces_before : (doc : List ℕ) (before : List Span) (to : ℕ) → pieces_in (skipped_before doc before to) ≡ []
unfolding pieces_in
no_pieces_before doc [] to =
    pieces_append (gap What.ByteOrderMark 0 (begin doc)) _
    ∙ ap (λ (ps : List Span). ps ++ pieces_in (gap What.WhiteSpace (begin doc) to)) (no_pieces What.ByteOrderMark 0 (begin doc) refl)
    ∙ no_pieces What.WhiteSpace (begin doc) to refl
no_pieces_before doc (p ∷ before) to = no_pieces What.WhiteSpace p.to to refl

pub pieces_laid : (doc : List ℕ) (ps : List Span) → pieces_in (layout doc ps) ≡ reverse ps
unfolding layout pieces_in
pieces_laid doc [] = refl
pieces_laid doc (p ∷ before) =
    pieces_append (layout doc before) (skipped_before doc before p.from ++ laid What.Piece p ∷ [])
    ∙ ap (λ (ps : List Span). pieces_in (layout doc before) ++ ps) (pieces_append (skipped_before doc before p.from) _ ∙ ap (λ (ps : List Span). ps ++ p ∷ []) (no_pieces_before doc before p.from))
    ∙ ap (λ (ps : List Span). ps ++ p ∷ []) (pieces_laid doc before)
    ∙ sym (reverse-cons p before)

-- a byte that is in no part but pieces is in as many parts as pieces
pub times_in_pieces : (place : ℕ) (xs : List Laid) → ((x : Laid) → AmongParts x xs → is_piece x.what ≡ false → has_byte place x.span ≡ false)
    → times_set place xs ≡ count (has_byte place) (pieces_in xs)
unfolding AmongParts pieces_in count
times_in_pieces place [] other = refl
times_in_pieces place (x ∷ xs) other = by (is_piece x.what) (other x (inl refl)) (times_in_pieces place xs (λ y i. other y (inr i)))
  where
    by : (t : Bool) → (t ≡ false → has_byte place x.span ≡ false) → times_set place xs ≡ count (has_byte place) (pieces_in xs)
        → pick (has_byte place x.span) 1 0 + times_set place xs ≡ count (has_byte place) (pick t (x.span ∷ pieces_in xs) (pieces_in xs))
    by true lacks e = ap (λ (n : ℕ). pick (has_byte place x.span) 1 0 + n) e
    by false lacks e = rw (lacks refl) (omega arith)

module _ {A : Type 0} (is : A → Bool) where
  count_append : (xs ys : List A) → count is (xs ++ ys) ≡ count is xs + count is ys
  unfolding count
  count_append [] ys = omega arith
  count_append (x ∷ xs) ys = omega (arith, count_append xs ys)

  pub count_reverse : (xs : List A) → count is (reverse xs) ≡ count is xs
  unfolding count
  count_reverse [] = refl
  count_reverse (x ∷ xs) = ap (count is) (reverse-cons x xs) ∙ count_append (reverse xs) (x ∷ []) ∙ omega (arith, count_reverse xs)
