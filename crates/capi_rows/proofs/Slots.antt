-- Rows in slots. Assumes nothing.
use Prim.Native.Nat.{ℕ, zero, suc, ◌+◌, ◌*◌, ◌/◌, ◌≤◌, ◌<◌, ◌^◌}
use mathlib.Core.Path.{◌≡◌, refl, sym, ap, ◌∙◌}
use mathlib.Core.List.{List, [], ◌∷◌, ◌++◌}
use native.Mathlib.Omega.{arith}
use native.Mathlib.Numerals.{add-one}
use lib.ListN.{length, set, drop, length-set, length-append, length-drop}
use lib.Seq.{sets-eq, take_at, drop-drop, drop_at}
use borrow.Author.Rules.{rules}
use Rattle.state.specs.declared.place.Position.{Position}
use Rattle.state.specs.declared.place.Depth.{Depth}
use Rattle.state.specs.Place.{depth_of}
use Rattle.rows.specs.declared.row.Row.{Row}
use Rattle.rows.specs.declared.row.Given.{Given}
use Rattle.rows.specs.declared.row.Filled.{Filled}
use Rattle.rows.specs.Answers.{count_of}
use Rattle.rows.specs.Rows.{row_at, row_of, plan_of, rows_from}
use Rattle.rows.proofs.Records.{not_given}
use Rattle.rows.proofs.Lists.{plan_gives, plan_fits, rows_more}
use Rattle.capi_rows.specs.Rows.{row_slots, row_numbers, row_put, numbers_of, filled_with, Filling}

-- ---- one row written

module _ (xs : List ℕ) (at : ℕ) (room : at + row_slots ≤ length xs) where
  pub put_second : (a : ℕ) → at + 1 < length (set xs at a)
  put_second a = rw (length-set xs at a) (omega arith)

  pub put_third : (a b : ℕ) → at + 2 < length (set (set xs at a) (at + 1) b)
  put_third a b = rw (length-set (set xs at a) (at + 1) b, length-set xs at a) (omega arith)

  pub put_all : (row : Row) → set (set (set xs at row.start.0) (at + 1) row.end.0) (at + 2) row.depth.0 ≡ row_put xs at row
  put_all row =
      let one : at + 1 ≡ suc at = add-one at in
      let two : at + 2 ≡ suc (suc at) = omega arith in
      rw (one, two) (sets-eq (row_numbers row) xs at room)

pub ruleset puts = (rules, put_second, put_third, put_all)

-- ---- rows in slots

numbers_length : (s : List ℕ) (d n : ℕ) → length (numbers_of (rows_from s d n)) ≡ n * row_slots
unfolding numbers_of rows_from
numbers_length s d zero = refl
numbers_length s d (suc n) = omega (arith, numbers_length s (d + 1) n)

numbers_append : (rows more : List Row) → numbers_of (rows ++ more) ≡ numbers_of rows ++ numbers_of more
unfolding numbers_of
numbers_append [] more = refl
numbers_append (row ∷ rows) more = ap (λ (ns : List ℕ). row_numbers row ++ ns) (numbers_append rows more)

-- one row more
numbers_more : (s : List ℕ) (n : ℕ) → numbers_of (rows_from s 0 (n + 1)) ≡ numbers_of (rows_from s 0 n) ++ row_numbers (row_at s n)
unfolding numbers_of
numbers_more s n =
    let none : 0 + n ≡ n = omega arith in
    ap (λ (k : ℕ). numbers_of (rows_from s 0 k)) (add-one n)
    ∙ ap numbers_of (rows_more s 0 n)
    ∙ numbers_append (rows_from s 0 n) _
    ∙ ap (λ (k : ℕ). numbers_of (rows_from s 0 n) ++ row_numbers (row_at s k)) none

filled_next : (s : List ℕ) (i : ℕ) (xs : List ℕ) → row_put (filled_with s i xs) (i * row_slots) (row_at s i) ≡ filled_with s (i + 1) xs
unfolding filled_with
filled_next s i xs =
    let front : List ℕ = numbers_of (rows_from s 0 i) in
    let back : List ℕ = drop (i * 3) xs in
    let size = numbers_length s 0 i in
    let up : i * 3 + 3 ≡ (i + 1) * 3 = omega arith in
    let rest : drop (i * 3 + 3) (front ++ back) ≡ drop ((i + 1) * 3) xs =
    sym (drop-drop 3 (i * 3) (front ++ back)) ∙ ap (drop 3) (drop_at front back (i * 3) size) ∙ drop-drop 3 (i * 3) xs ∙ ap (λ (k : ℕ). drop k xs) up in
    rw (take_at front back (i * 3) size, rest)
    (ap (λ (ns : List ℕ). ns ++ drop ((i + 1) * 3) xs) (sym (numbers_more s i)))

-- the number of slots stays
filled_as_long : (s : List ℕ) (n : ℕ) (xs : List ℕ) → n * row_slots ≤ length xs → length (filled_with s n xs) ≡ length xs
unfolding filled_with
filled_as_long s n xs h =
    length-append (numbers_of (rows_from s 0 n)) (drop (n * 3) xs) ∙ omega (arith, numbers_length s 0 n, length-drop (n * 3) xs)

-- ---- the loop: the plan has looked at the rows that are filled

-- the first i of them are
pub record Reached (s : List ℕ) (i : ℕ) (xs ys : List ℕ) : Type 0 where
  pub same : ys ≡ filled_with s i xs
  pub long : length ys ≡ length xs

pub reached_none : (s xs : List ℕ) → Reached s 0 xs xs
unfolding filled_with numbers_of rows_from
reached_none s xs = record { same = refl; long = refl }

module _ (s : List ℕ) (p : Position) (n : Depth) (xs : List ℕ) (filled : Filled) (e : filled ≡ plan_of s p n (length xs / row_slots)) (count : ℕ) (f : count ≡ count_of filled) where
  fits : count ≤ length xs / row_slots
  fits = omega (arith, ap count_of e, plan_fits s p n (length xs / row_slots))

  module _ (i : ℕ) (h : i < count) (g : Given) (told : g ≡ row_of s p n (depth_of (i + 1))) where
    given : g ≡ Given.Row (row_at s i)
    given = told ∙ plan_gives s p n (length xs / row_slots) i (omega (arith, ap count_of e))

    -- it is not refused
    impossible : g ≡ Given.BadState → ⊥
    impossible bad = not_given (row_at s i) (sym given ∙ bad)

    pub never : g ≡ Given.BadState → (xs' : List ℕ) → Filling s p n xs filled xs'
    never bad xs' = absurd (impossible bad)

    pub never_shorter : g ≡ Given.BadState → (xs' : List ℕ) → length xs' ≡ length xs
    never_shorter bad xs' = absurd (impossible bad)

    pub row_more : (row : Row) (ys ys' : List ℕ) → g ≡ Given.Row row → Reached s i xs ys → ys' ≡ row_put ys (i * row_slots) row → Reached s (i + 1) xs ys'
    row_more row ys ys' is before put =
        let both : ◌≡◌ {A = Given} (Given.Row row) (Given.Row (row_at s i)) = sym is ∙ given in
        let same : row ≡ row_at s i = cc in
        let all : ys' ≡ filled_with s (i + 1) xs = put ∙ rw (before.same, same) (filled_next s i xs) in
        record { same = all; long = ap length all ∙ filled_as_long s (i + 1) xs (omega (arith, fits)) }

  -- its slots are there
  pub row_room : (i : ℕ) (ys : List ℕ) → i < count → length ys ≡ length xs → i * row_slots + row_slots ≤ length ys
  row_room i ys h l = omega (arith, fits)

  pub row_fits : (i : ℕ) → i < count → length xs < 2 ^ 64 → i * row_slots < 2 ^ 64
  row_fits i h l = omega (arith, fits)

  pub row_all : (i : ℕ) (ys : List ℕ) → i ≤ count → count ≤ i → Reached s i xs ys → Filling s p n xs filled ys
  row_all i ys h l b = let same : i ≡ count_of filled = omega arith in record { said = e; rows = b.same ∙ ap (λ (k : ℕ). filled_with s k xs) same }

pub ruleset fills = (rules, reached_none, never, never_shorter, row_more, row_room, row_fits, row_all)
