-- What holds for any table of rows of ranges: which rows a first byte leaves, how many bytes a row takes, and that bytes which no row
-- reaches do not count. Assumes nothing.
use Prim.Native.Nat.{ℕ, suc, ◌+◌, ◌-◌, ◌≤◌, ◌<◌}
use mathlib.Core.Path.{◌≡◌, refl, sym, ap, ◌∙◌, subst}
use mathlib.Core.List.{List, [], ◌∷◌, ◌++◌}
use mathlib.Core.Bool.{Bool, true, false}
use mathlib.Core.Logic.{◌⊎◌, inl, inr}
use native.Mathlib.Omega.{arith}
use lib.ListN.{length, get_or, drop}
use lib.Dec.{T, leb, ltb}
use borrow.Author.Tests.{le-leb, lt-leb, leb-true, leb-false, ltb-false}
use Rattle.ground.specs.Choose.{pick}
use Rattle.ground.proofs.Choices.{both, pick_same}
use Rattle.ground.proofs.Lists.{drop_next, drop_done}
use Rattle.utf8.specs.Utf8.{Range, in_range, in_ranges, row_len, Matches, MatchesOne}

-- ---- a range

module _ (lo hi b : ℕ) where
  pub in_range_lem : lo ≤ b → b ≤ hi → in_range (lo, hi) b ≡ true
  in_range_lem h k = simp (le-leb lo b h, le-leb b hi k)

  pub under_range : b < lo → in_range (lo, hi) b ≡ false
  under_range h = simp (lt-leb lo b h)

  pub over_range : hi < b → in_range (lo, hi) b ≡ false
  over_range h = simp (lt-leb b hi h) (pick_same (leb lo b) false)

-- ---- a row, at a position of a list

-- a row with no range asks for nothing
pub in_ranges_all : (bs : List ℕ) → in_ranges [] bs ≡ true
unfolding in_ranges
in_ranges_all bs = refl

module _ (r : Range) (rs : List Range) (a : List ℕ) (i : ℕ) where
  pub in_ranges_end : length a ≤ i → in_ranges (r ∷ rs) (drop i a) ≡ false
  unfolding in_ranges
  in_ranges_end h = ap (in_ranges (r ∷ rs)) (drop_done a i h)

  module _ (h : i < length a) where
    pub in_ranges_out : in_range r (get_or a i 0) ≡ false → in_ranges (r ∷ rs) (drop i a) ≡ false
    unfolding in_ranges
    in_ranges_out e = ap (in_ranges (r ∷ rs)) (drop_next a i h) ∙ rw e

    pub in_ranges_in : in_range r (get_or a i 0) ≡ true → in_ranges (r ∷ rs) (drop i a) ≡ in_ranges rs (drop (i + 1) a)
    unfolding in_ranges
    in_ranges_in e = ap (in_ranges (r ∷ rs)) (drop_next a i h) ∙ rw e

-- bytes that begin with a row are as long as it
in_ranges_fits : (r : List Range) (bs : List ℕ) → in_ranges r bs ≡ true → length r ≤ length bs
unfolding in_ranges
in_ranges_fits [] bs e = omega arith
in_ranges_fits (r ∷ rs) [] e = absurd (subst T (sym e) tt)
in_ranges_fits (r ∷ rs) (b ∷ bs) e = let h = in_ranges_fits rs bs (both (in_range r b) (in_ranges rs bs) e).1 in omega arith

-- what comes after as many bytes as a row has does not count
pub in_ranges_cut : (c zs : List ℕ) (r : List Range) → length r ≤ length c → in_ranges r (c ++ zs) ≡ in_ranges r c
unfolding in_ranges
in_ranges_cut c zs [] h = refl
in_ranges_cut [] zs (r ∷ rs) h = absurd (omega arith)
in_ranges_cut (b ∷ c) zs (r ∷ rs) h = ap (λ (t : Bool). pick (in_range r b) t false) (in_ranges_cut c zs rs (omega arith))

-- ---- the rows that a first byte leaves which is at least lo and below to

abbrev pub leaves : List Range → ℕ → ℕ → Bool
leaves [] lo to = true
leaves (r ∷ rs) lo to = pick (leb lo r.1) (ltb r.0 to) false

abbrev pub left : List (List Range) → ℕ → ℕ → List (List Range)
left [] lo to = []
left (r ∷ t) lo to = pick (leaves r lo to) (r ∷ left t lo to) (left t lo to)

-- the ranges after the first of the first row, and how many bytes it takes where the bytes after the first begin with those
abbrev pub rest : List (List Range) → List Range
rest [] = []
rest ([] ∷ t) = []
rest ((r ∷ rs) ∷ t) = rs

abbrev pub rest_len : List (List Range) → List ℕ → ℕ
rest_len t bs = pick (in_ranges (rest t) bs) (suc (length (rest t))) 0

-- one row is left, and its first range is just that
abbrev pub One : List (List Range) → ℕ → ℕ → Type 0
One t lo to = left t lo to ≡ ((lo, to - 1) ∷ rest (left t lo to)) ∷ []

module _ (lo to b : ℕ) (bs : List ℕ) (h : lo ≤ b) (k : b < to) where
  outside : (r : Range) (x y : Bool) → leb lo r.1 ≡ x → ltb r.0 to ≡ y → pick x y false ≡ false → in_range r b ≡ false
  outside r true true p q e = absurd (subst T e tt)
  outside r true false p q e = under_range r.0 r.1 b (omega (arith, ltb-false r.0 to q))
  outside r false y p q e = over_range r.0 r.1 b (omega (arith, leb-false lo r.1 p))

  gone : (r : List Range) → leaves r lo to ≡ false → in_ranges r (b ∷ bs) ≡ false
  unfolding in_ranges
  gone [] e = absurd (subst T e tt)
  gone (r ∷ rs) e = rw (outside r (leb lo r.1) (ltb r.0 to) refl refl e)

  -- the others do not count
  left_same : (t : List (List Range)) → row_len t (b ∷ bs) ≡ row_len (left t lo to) (b ∷ bs)
  unfolding row_len
  left_same [] = refl
  left_same (r ∷ t) = go (leaves r lo to) refl (left_same t)
    where
      go : (m : Bool) → leaves r lo to ≡ m → row_len t (b ∷ bs) ≡ row_len (left t lo to) (b ∷ bs)
          → row_len (r ∷ t) (b ∷ bs) ≡ row_len (pick m (r ∷ left t lo to) (left t lo to)) (b ∷ bs)
      go true e f = ap (pick (in_ranges r (b ∷ bs)) (length r)) f
      go false e f = rw (gone r e) f

  -- where one is left, its other ranges decide
  pub left_one : (t : List (List Range)) → One t lo to → row_len t (b ∷ bs) ≡ rest_len (left t lo to) bs
  unfolding row_len in_ranges
  left_one t e = left_same t ∙ ap (λ (u : List (List Range)). row_len u (b ∷ bs)) e ∙ rw (in_range_lem lo (to - 1) b h (omega arith))

  -- where none is left, no row takes the bytes
  pub left_none : (t : List (List Range)) → left t lo to ≡ [] → row_len t (b ∷ bs) ≡ 0
  unfolding row_len
  left_none t e = left_same t ∙ ap (λ (u : List (List Range)). row_len u (b ∷ bs)) e

-- ---- how many bytes are taken

-- no more than there are
pub row_len_fits : (t : List (List Range)) (bs : List ℕ) → row_len t bs ≤ length bs
unfolding row_len
row_len_fits [] bs = omega arith
row_len_fits (r ∷ t) bs = go (in_ranges r bs) refl (row_len_fits t bs)
  where
    go : (m : Bool) → in_ranges r bs ≡ m → row_len t bs ≤ length bs → pick m (length r) (row_len t bs) ≤ length bs
    go true e h = in_ranges_fits r bs e
    go false e h = h

-- every row has at most n ranges
abbrev pub up_to : ℕ → List (List Range) → Bool
up_to n [] = true
up_to n (r ∷ t) = pick (leb (length r) n) (up_to n t) false

pub row_len_most : (n : ℕ) (t : List (List Range)) (bs : List ℕ) → up_to n t ≡ true → row_len t bs ≤ n
unfolding row_len
row_len_most n [] bs e = omega arith
row_len_most n (r ∷ t) bs e =
    let q = both (leb (length r) n) (up_to n t) e in
    go (in_ranges r bs) (leb-true (length r) n q.0) (row_len_most n t bs q.1)
  where
    go : (m : Bool) → length r ≤ n → row_len t bs ≤ n → pick m (length r) (row_len t bs) ≤ n
    go true h k = h
    go false h k = k

-- the rows stand in the order of their lengths, and none has fewer than n ranges
abbrev pub rising : ℕ → List (List Range) → Bool
rising n [] = true
rising n (r ∷ t) = pick (leb n (length r)) (rising (length r) t) false

row_len_least : (n : ℕ) (t : List (List Range)) (bs : List ℕ) → rising n t ≡ true → 0 < row_len t bs → n ≤ row_len t bs
unfolding row_len
row_len_least n [] bs e h = absurd (omega arith)
row_len_least n (r ∷ t) bs e h =
    let q = both (leb n (length r)) (rising (length r) t) e in
    go (in_ranges r bs) (leb-true n (length r) q.0) (row_len_least (length r) t bs q.1) h
  where
    go : (m : Bool) → n ≤ length r → (0 < row_len t bs → length r ≤ row_len t bs)
        → 0 < pick m (length r) (row_len t bs) → n ≤ pick m (length r) (row_len t bs)
    go true k f h = k
    go false k f h = let l = f h in omega arith

-- bytes that begin with the same rows of up to m ranges are taken alike, where no more than m are taken
module _ (x y : List ℕ) (m : ℕ) (alike : (r : List Range) → length r ≤ m → in_ranges r y ≡ in_ranges r x) where
  pub row_len_alike : (n : ℕ) (t : List (List Range)) → rising n t ≡ true → 0 < row_len t x → row_len t x ≤ m → row_len t y ≡ row_len t x
  unfolding row_len
  row_len_alike n [] e h k = refl
  row_len_alike n (r ∷ t) e h k =
      let q = both (leb n (length r)) (rising (length r) t) e in
      let l : rising (length r) (r ∷ t) ≡ true = rw (le-leb (length r) (length r) (omega arith)) q.1 in
      let s : length r ≤ m = omega (arith, row_len_least (length r) (r ∷ t) x l h) in
      rw (alike r s) (go (in_ranges r x) h k (row_len_alike (length r) t q.1))
    where
      go : (b : Bool) → 0 < pick b (length r) (row_len t x) → pick b (length r) (row_len t x) ≤ m
          → (0 < row_len t x → row_len t x ≤ m → row_len t y ≡ row_len t x)
          → pick b (length r) (row_len t y) ≡ pick b (length r) (row_len t x)
      go true h k f = refl
      go false h k f = f h k

-- ---- a row that matches

-- bytes that match a row are as many as its ranges, and begin with it
pub matches_length : (r : List Range) (c : List ℕ) → Matches r c → length c ≡ length r
matches_length [] [] m = refl
matches_length [] (b ∷ bs) m = absurd m
matches_length (r ∷ rs) [] m = absurd m
matches_length (r ∷ rs) (b ∷ bs) m = ap suc (matches_length rs bs m.2)

matches_begins : (r : List Range) (c : List ℕ) → Matches r c → in_ranges r c ≡ true
unfolding in_ranges
matches_begins [] c m = refl
matches_begins (r ∷ rs) [] m = absurd m
matches_begins (r ∷ rs) (b ∷ bs) m = rw (in_range_lem r.0 r.1 b m.0 m.1) (matches_begins rs bs m.2)

-- and bytes that begin with a row of as many ranges match it
in_ranges_matches : (r : List Range) (c : List ℕ) → in_ranges r c ≡ true → length c ≡ length r → Matches r c
unfolding in_ranges
in_ranges_matches [] [] e l = tt
in_ranges_matches [] (b ∷ bs) e l = absurd (omega arith)
in_ranges_matches (r ∷ rs) [] e l = absurd (omega arith)
in_ranges_matches (r ∷ rs) (b ∷ bs) e l =
    let q = both (in_range r b) (in_ranges rs bs) e in
    let i = both (leb r.0 b) (leb b r.1) q.0 in
    (leb-true r.0 b i.0, leb-true b r.1 i.1, in_ranges_matches rs bs q.1 (omega arith))

-- of any table: bytes that are taken whole match a row
pub row_len_matches : (t : List (List Range)) (c : List ℕ) → 0 < length c → row_len t c ≡ length c → MatchesOne t c
unfolding row_len
row_len_matches [] c h e = omega arith
row_len_matches (r ∷ t) c h e = go (in_ranges r c) refl (row_len_matches t c h) e
  where
    go : (m : Bool) → in_ranges r c ≡ m → (row_len t c ≡ length c → MatchesOne t c) → pick m (length r) (row_len t c) ≡ length c
        → Matches r c ⊎ MatchesOne t c
    go true b f e = inl (in_ranges_matches r c b (sym e))
    go false b f e = inr (f e)

-- the first range of each row of u leaves just that row of t
abbrev pub Alone : List (List Range) → List (List Range) → Type 0
Alone t [] = Unit {0}
Alone t ([] ∷ u) = ⊥
Alone t ((r ∷ rs) ∷ u) = (left t r.0 (suc r.1) ≡ (r ∷ rs) ∷ []) × Alone t u

-- then bytes that match a row are taken whole
pub matches_taken : (t u : List (List Range)) (c : List ℕ) → Alone t u → MatchesOne u c → row_len t c ≡ length c
unfolding row_len
matches_taken t [] c a m = absurd m
matches_taken t ([] ∷ u) c a m = absurd a
matches_taken t ((r ∷ rs) ∷ u) c a (inl m) = one c m
  where
    one : (c : List ℕ) → Matches (r ∷ rs) c → row_len t c ≡ length c
    one [] m = absurd m
    one (b ∷ bs) m =
        left_same r.0 (suc r.1) b bs m.0 (omega (arith, m.1)) t
        ∙ ap (λ (v : List (List Range)). row_len v (b ∷ bs)) a.0
        ∙ rw (matches_begins (r ∷ rs) (b ∷ bs) m) (sym (matches_length (r ∷ rs) (b ∷ bs) m))
matches_taken t ((r ∷ rs) ∷ u) c a (inr m) = matches_taken t u c a.1 m

-- and no row matches nothing
pub none_empty : (t u : List (List Range)) → Alone t u → MatchesOne u [] → ⊥
none_empty t [] a m = m
none_empty t ([] ∷ u) a m = a
none_empty t ((r ∷ rs) ∷ u) a (inl m) = m
none_empty t ((r ∷ rs) ∷ u) a (inr m) = none_empty t u a.1 m
