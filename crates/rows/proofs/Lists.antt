-- A list with its first records filled. Assumes nothing.
use Prim.Native.Nat.{ℕ, zero, suc, ◌+◌, ◌-◌, ◌≤◌, ◌<◌, min}
use mathlib.Core.Path.{◌≡◌, refl, sym, ap, ◌∙◌}
use mathlib.Core.Bool.{Bool, true, false}
use mathlib.Core.List.{List, [], ◌∷◌, ◌++◌}
use native.Mathlib.Omega.{arith}
use native.Mathlib.Numerals.{add-one}
use lib.ListN.{length, get_or, set, drop}
use lib.Seq.{length_front, length-take-le}
use borrow.Author.Tests.{leb-true}
use Rattle.ground.specs.Choose.{pick, all_of}
use Rattle.ground.proofs.Choices.{both, pick_cases}
use Rattle.state.specs.declared.place.Position.{Position}
use Rattle.state.specs.declared.place.Depth.{Depth}
use Rattle.state.specs.Limits.{capacity}
use Rattle.state.specs.Place.{depth_of}
use Rattle.rows.specs.declared.row.Row.{Row}
use Rattle.rows.specs.declared.row.Given.{Given}
use Rattle.rows.specs.declared.row.Filled.{Filled}
use Rattle.rows.specs.Answers.{count_of}
use Rattle.rows.specs.Rows.{row_at, all_in_order, fits, row_of, plan_of, rows_from, filled_with}
use Rattle.rows.proofs.Records.{one_given, each_in_order}

-- ---- what a plan says of each record

module _ (s : List ℕ) (p : Position) (n : Depth) (room : ℕ) where
  -- one that is to be filled: the plan is no refusal, and it is one of the lesser of names and room
  planned : {Goal : Type 0} (t : Bool) (i : ℕ) → (t ≡ true → i < min n.0 room → Goal)
      → i < count_of (pick t (Filled.Rows (min n.0 room)) Filled.BadState) → Goal
  planned true i f h = f refl h
  planned false i f h = absurd (omega arith)

  -- it is given
  pub plan_gives : (i : ℕ) → i < count_of (plan_of s p n room) → row_of s p n (depth_of (i + 1)) ≡ Given.Row (row_at s i)
  unfolding plan_of
  plan_gives i =
      planned _ i (λ e h.
      let t = both (fits s n) _ e in
      let o = each_in_order s p (min n.0 room) i h (both (all_in_order s p (min n.0 room)) true t.1).0 in
      let back : i + 1 - 1 ≡ i = omega arith in
      one_given s p n (depth_of (i + 1)) (leb-true n.0 (capacity (length s)) t.0) (omega arith) (omega arith) (rw back o) ∙ ap (λ (m : ℕ). Given.Row (row_at s m)) back)

  -- there is room for it, and a name
  pub plan_fits : count_of (plan_of s p n room) ≤ min n.0 room
  unfolding plan_of
  plan_fits =
      pick_cases (λ (f : Filled). count_of f ≤ min n.0 room) (all_of (fits s n ∷ all_in_order s p (min n.0 room) ∷ [])) (Filled.Rows (min n.0 room)) Filled.BadState (λ _. omega arith) (λ _. omega arith)

-- ---- the outermost records

pub rows_length : (stack : List ℕ) (d n : ℕ) → length (rows_from stack d n) ≡ n
unfolding rows_from
rows_length stack d zero = refl
rows_length stack d (suc n) = ap suc (rows_length stack (d + 1) n)

pub rows_more : (stack : List ℕ) (d n : ℕ) → rows_from stack d (suc n) ≡ rows_from stack d n ++ (row_at stack (d + n) ∷ [])
unfolding rows_from
rows_more stack d zero = let e : d ≡ d + 0 = omega arith in ap (λ (m : ℕ). row_at stack m ∷ []) e
rows_more stack d (suc n) =
    let e : d + 1 + n ≡ d + suc n = omega arith in
    ap (λ (rows : List Row). row_at stack d ∷ rows) (rows_more stack (d + 1) n ∙ ap (λ (m : ℕ). rows_from stack (d + 1) n ++ (row_at stack m ∷ [])) e)

from_there : (stack : List ℕ) (d n i : ℕ) (any : Row) → i < n → get_or (rows_from stack d n) i any ≡ row_at stack (d + i)
unfolding rows_from
from_there stack d zero i any h = absurd (omega arith)
from_there stack d (suc n) zero any h = let e : d ≡ d + 0 = omega arith in ap (row_at stack) e
from_there stack d (suc n) (suc i) any h = let e : d + 1 + i ≡ d + suc i = omega arith in from_there stack (d + 1) n i any (omega arith) ∙ ap (row_at stack) e

pub row_there : (stack : List ℕ) (n i : ℕ) (any : Row) → i < n → get_or (rows_from stack 0 n) i any ≡ row_at stack i
row_there stack n i any h = let e : 0 + i ≡ i = omega arith in from_there stack 0 n i any h ∙ ap (row_at stack) e

-- ---- a list, with one record more

module _ (s : List ℕ) where
  more : (d i : ℕ) (list : List Row) → i < length list → set (rows_from s d i ++ drop i list) i (row_at s (d + i)) ≡ rows_from s d (suc i) ++ drop (suc i) list
  unfolding rows_from
  more d i [] h = absurd (omega arith)
  more d zero (row ∷ list) h = let e : d + 0 ≡ d = omega arith in ap (λ (m : ℕ). row_at s m ∷ list) e
  more d (suc i) (row ∷ list) h =
      let e : d + suc i ≡ d + 1 + i = omega arith in
      ap (λ (m : ℕ). row_at s d ∷ set (rows_from s (d + 1) i ++ drop i list) i (row_at s m)) e
      ∙ ap (λ (l : List Row). row_at s d ∷ l) (more (d + 1) i list (omega arith))

  pub filled_more : (i : ℕ) (list : List Row) → i < length list → set (filled_with s i list) i (row_at s i) ≡ filled_with s (i + 1) list
  unfolding filled_with
  filled_more i list h =
      let e : i ≡ 0 + i = omega arith in
      ap (λ (m : ℕ). set (rows_from s 0 i ++ drop i list) i (row_at s m)) e ∙ more 0 i list h ∙ ap (λ (m : ℕ). rows_from s 0 m ++ drop m list) (sym (add-one i))

  pub filled_length : (i : ℕ) (list : List Row) → i ≤ length list → length (filled_with s i list) ≡ length list
  unfolding filled_with
  filled_length i list h = length_front list (rows_from s 0 i) i (rows_length s 0 i ∙ sym (length-take-le i list h))

  pub filled_none : (list : List Row) → filled_with s 0 list ≡ list
  unfolding filled_with rows_from
  filled_none list = refl
