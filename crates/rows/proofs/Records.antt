-- Which records are given, and how many: a law for each way through the code. Assumes nothing.
use Prim.Native.Nat.{ℕ, zero, suc, ◌+◌, ◌-◌, ◌*◌, ◌≤◌, ◌<◌, ◌^◌, min}
use mathlib.Core.Path.{◌≡◌, refl, sym, ap, ◌∙◌, subst}
use mathlib.Core.Bool.{Bool, true, false}
use mathlib.Core.List.{List, [], ◌∷◌, ◌++◌}
use native.Mathlib.Omega.{arith}
use native.Mathlib.Numerals.{add-one}
use native.Mathlib.Decide.{dec_lt}
use lib.ListN.{length, get_or}
use lib.Dec.{leb}
use borrow.Author.Rules.{rules}
use borrow.Author.Tests.{le-leb, lt-leb, leb-true}
use Rattle.ground.specs.Choose.{pick, all_of}
use Rattle.ground.proofs.Choices.{clash, must_fail, both}
use Rattle.state.specs.declared.place.Position.{Position}
use Rattle.state.specs.declared.place.Depth.{Depth}
use Rattle.state.specs.Limits.{slots, capacity}
use Rattle.state.specs.Place.{at, depth_of}
use Rattle.state.proofs.Room.{told_slots}
use Rattle.rows.specs.declared.row.Row.{Row}
use Rattle.rows.specs.declared.row.Given.{Given}
use Rattle.rows.specs.declared.row.Filled.{Filled}
use Rattle.rows.specs.Rows.{row_at, in_order, all_in_order, fits, row_of, plan_of}

-- ---- tests that all have to pass, of which one fails

fails : (ts us : List Bool) (t : Bool) → t ≡ false → all_of (ts ++ (t ∷ us)) ≡ false
fails [] us t e = rw e refl
fails (true ∷ ts) us t e = fails ts us t e
fails (false ∷ ts) us t e = refl

-- ---- one record

module _ (s : List ℕ) (p : Position) (n d : Depth) where
  abbrev from : ℕ
  from = get_or s ((d.0 - 1) * slots) 0

  abbrev to : ℕ
  to = get_or s ((d.0 - 1) * slots + 1) 0

  -- the tests of its depth and of its entry
  abbrev some : Bool
  some = leb 1 d.0

  abbrev reached : Bool
  reached = leb d.0 n.0

  one_bad : all_of (fits s n ∷ some ∷ reached ∷ in_order s p (d.0 - 1) ∷ []) ≡ false → Given.BadState ≡ row_of s p n d
  unfolding row_of
  one_bad e = rw e refl

  pub one_over : (k : Depth) → k ≡ depth_of (capacity (length s)) → k.0 < n.0 → Given.BadState ≡ row_of s p n d
  one_over k e h =
      one_bad (fails [] (some ∷ reached ∷ in_order s p (d.0 - 1) ∷ []) (fits s n)
      (lt-leb n.0 (capacity (length s)) (omega (arith, ap (λ (x : Depth). x.0) e))))

  pub one_outside : d.0 ≡ 0 → Given.BadState ≡ row_of s p n d
  one_outside e = one_bad (fails (fits s n ∷ []) (reached ∷ in_order s p (d.0 - 1) ∷ []) some (lt-leb 1 d.0 (omega arith)))

  pub one_above : n.0 < d.0 → Given.BadState ≡ row_of s p n d
  one_above h = one_bad (fails (fits s n ∷ some ∷ []) (in_order s p (d.0 - 1) ∷ []) reached (lt-leb d.0 n.0 h))

  pub one_disordered : in_order s p (d.0 - 1) ≡ false → Given.BadState ≡ row_of s p n d
  one_disordered e = one_bad (fails (fits s n ∷ some ∷ reached ∷ []) [] (in_order s p (d.0 - 1)) e)

  pub one_crossed : to < from → Given.BadState ≡ row_of s p n d
  one_crossed h = one_disordered (fails [] (leb to p.0 ∷ []) (leb from to) (lt-leb from to h))

  pub one_past : p.0 < to → Given.BadState ≡ row_of s p n d
  one_past h = one_disordered (fails (leb from to ∷ []) [] (leb to p.0) (lt-leb to p.0 h))

  pub one_is_lem : (k : Depth) → k ≡ depth_of (capacity (length s)) → n.0 ≤ k.0 → (d.0 ≡ 0 → ⊥) → d.0 ≤ n.0 → from ≤ to → to ≤ p.0
      → Given.Row (record { start = at from; end = at to; depth = d }) ≡ row_of s p n d
  unfolding row_of
  one_is_lem k e deep some l h j =
      let up : d.0 ≡ d.0 - 1 + 1 = omega arith in
      rw (
        le-leb n.0 (capacity (length s)) (omega (arith, ap (λ (x : Depth). x.0) e)),
        le-leb 1 d.0 (omega arith),
        le-leb d.0 n.0 l,
        le-leb from to h,
        le-leb to p.0 j,
      )
      (ap (λ (m : ℕ). Given.Row (record { start = at from; end = at to; depth = depth_of m })) up)

-- its two slots stand on the stack
module _ (s : List ℕ) (n d k : Depth) (e : k ≡ depth_of (capacity (length s))) (deep : n.0 ≤ k.0) (some : d.0 ≡ 0 → ⊥) (l : d.0 ≤ n.0) where
  pub one_starts : (d.0 - 1) * slots < length s
  one_starts = omega (arith, told_slots (length s) k d e (omega arith))

  pub one_fits : length s < 2 ^ 64 → (d.0 - 1) * slots < 2 ^ 64
  one_fits h = omega (arith, told_slots (length s) k d e (omega arith))

  pub one_next_fits : length s < 2 ^ 64 → (d.0 - 1) * slots + 1 < 2 ^ 64
  one_next_fits h = omega (arith, told_slots (length s) k d e (omega arith))

  pub one_ends : (d.0 - 1) * slots + 1 < length s
  one_ends = omega (arith, told_slots (length s) k d e (omega arith))

pub ruleset ones = (rules, one_starts, one_fits, one_next_fits, one_ends, one_over, one_outside, one_above, one_crossed, one_past, one_is_lem)

-- ---- what is known of a record that is given

pub not_given : (row : Row) → Given.Row row ≡ Given.BadState → ⊥
not_given row e = let z : ◌≡◌ {A = ℕ} 0 1 = cc in omega arith

passes : (t : Bool) (row row' : Row) → pick t (Given.Row row) Given.BadState ≡ Given.Row row' → (t ≡ true) × (row ≡ row')
passes true row row' e = (refl, cc)
passes false row row' e = absurd (not_given row' (sym e))

module _ (s : List ℕ) (p : Position) (n d : Depth) where
  pub record Shown (row : Row) : Type 0 where
    pub deep : n.0 ≤ capacity (length s)
    pub above : 1 ≤ d.0
    pub below : d.0 ≤ n.0
    pub ordered : in_order s p (d.0 - 1) ≡ true
    pub same : row_at s (d.0 - 1) ≡ row

  pub one_shows : (row : Row) → row_of s p n d ≡ Given.Row row → Shown row
  unfolding row_of
  one_shows row e =
      let t = passes _ (row_at s (d.0 - 1)) row e in
      let a = both (fits s n) _ t.0 in
      let b = both (some s p n d) _ a.1 in
      let c = both (reached s p n d) _ b.1 in
      let o = both (in_order s p (d.0 - 1)) true c.1 in
      record {
        deep = leb-true n.0 (capacity (length s)) a.0;
        above = leb-true 1 d.0 b.0;
        below = leb-true d.0 n.0 c.0;
        ordered = o.0;
        same = t.1;
      }

  pub one_given : n.0 ≤ capacity (length s) → 1 ≤ d.0 → d.0 ≤ n.0 → in_order s p (d.0 - 1) ≡ true → row_of s p n d ≡ Given.Row (row_at s (d.0 - 1))
  unfolding row_of
  one_given h i j o = rw (le-leb n.0 (capacity (length s)) h, le-leb 1 d.0 i, le-leb d.0 n.0 j, o) refl

-- ---- the outermost names, all in order

module _ (s : List ℕ) (p : Position) where
  pub none_read : all_in_order s p 0 ≡ true
  unfolding all_in_order
  none_read = refl

  -- each of the first i, and one that is out of order
  pub each_in_order : (n i : ℕ) → i < n → all_in_order s p n ≡ true → in_order s p i ≡ true
  unfolding all_in_order
  each_in_order zero i h e = absurd (omega arith)
  each_in_order (suc n) i h e =
      let t = both (all_in_order s p n) _ e in
      elim (dec_lt i n) [
        | yes l ↦ each_in_order n i l t.0
        | no l ↦ let same : n ≡ i = omega arith in subst (λ (k : ℕ). in_order s p k ≡ true) same (both (in_order s p n) true t.1).0
      ]

  pub one_out_of_order : (n i : ℕ) → i < n → in_order s p i ≡ false → all_in_order s p n ≡ false
  one_out_of_order n i h e = must_fail (all_in_order s p n) (λ t. clash (in_order s p i) (each_in_order n i h t) e)

  module _ (n : Depth) where
    pub one_more_read : (i : ℕ) (g : Given) (row : Row) → all_in_order s p i ≡ true → g ≡ row_of s p n (depth_of (i + 1)) → g ≡ Given.Row row → all_in_order s p (i + 1) ≡ true
    unfolding all_in_order
    one_more_read i g row e f h =
        let t = (one_shows s p n (depth_of (i + 1)) row (sym f ∙ h)).ordered in
        let back : i + 1 - 1 ≡ i = omega arith in
        rw (add-one i) (rw (e, subst (λ (k : ℕ). in_order s p k ≡ true) back t) refl)

-- ---- how many are filled

module _ (s : List ℕ) (p : Position) (n : Depth) (room : ℕ) where
  pub plan_over : (k : Depth) → k ≡ depth_of (capacity (length s)) → k.0 < n.0 → Filled.BadState ≡ plan_of s p n room
  unfolding plan_of
  plan_over k e h = rw (lt-leb n.0 (capacity (length s)) (omega (arith, ap (λ (x : Depth). x.0) e))) refl

  -- an entry that is read is out of order
  pub plan_disordered : all_in_order s p (min n.0 room) ≡ false → Filled.BadState ≡ plan_of s p n room
  unfolding plan_of
  plan_disordered e = rw (fails (fits s n ∷ []) [] (all_in_order s p (min n.0 room)) e) refl

  pub plan_all : n.0 ≤ capacity (length s) → all_in_order s p (min n.0 room) ≡ true → Filled.Rows (min n.0 room) ≡ plan_of s p n room
  unfolding plan_of
  plan_all h e = rw (le-leb n.0 (capacity (length s)) h, e) refl

-- the code's own ways out: where the capacity was asked for, and the count is the lesser
module _ (s : List ℕ) (p : Position) (n : Depth) (room : ℕ) (k : Depth) (e : k ≡ depth_of (capacity (length s))) (deep : n.0 ≤ k.0) (count : ℕ) (least : count ≡ min n.0 room) where
  pub plan_stops : (i : ℕ) (g : Given) → i < count → g ≡ row_of s p n (depth_of (i + 1)) → g ≡ Given.BadState → Filled.BadState ≡ plan_of s p n room
  plan_stops i g h f bad =
      let back : i + 1 - 1 ≡ i = omega arith in
      let ordered : in_order s p i ≡ true → ⊥ = λ o. not_given (row_at s (i + 1 - 1))
      (sym (one_given s p n (depth_of (i + 1)) (omega (arith, ap (λ (x : Depth). x.0) e)) (omega arith) (omega arith) (subst (λ (m : ℕ). in_order s p m ≡ true) (sym back) o)) ∙ sym f ∙ bad) in
      plan_disordered s p n room (one_out_of_order s p (min n.0 room) i (omega arith) (must_fail (in_order s p i) ordered))

  pub plan_rows : (i : ℕ) → i ≤ count → count ≤ i → all_in_order s p i ≡ true → Filled.Rows count ≡ plan_of s p n room
  plan_rows i h l o =
      let same : i ≡ min n.0 room = omega arith in
      ap Filled.Rows least ∙ plan_all s p n room (omega (arith, ap (λ (x : Depth). x.0) e)) (subst (λ (m : ℕ). all_in_order s p m ≡ true) same o)

pub ruleset plans = (rules, none_read, one_more_read, plan_over, plan_stops, plan_rows)
