-- What the exported functions answer and leave. Assumes nothing.
use Prim.Native.Nat.{ℕ, ◌/◌, ◌≤◌, ◌<◌}
use mathlib.Core.Path.{◌≡◌, refl, sym, ap, ◌∙◌}
use mathlib.Core.List.{List, [], ◌∷◌}
use native.Mathlib.Omega.{arith}
use lib.ListN.{length, set, drop}
use borrow.Author.Rules.{rules}
use Rattle.ground.proofs.Choices.{pick_lt, pick_nlt}
use Rattle.state.specs.Place.{depth_of}
use Rattle.rows.specs.declared.row.Row.{Row}
use Rattle.rows.specs.declared.row.Given.{Given}
use Rattle.rows.specs.declared.row.Filled.{Filled}
use Rattle.rows.specs.Answers.{bad_number, given_number, filled_number, count_of}
use Rattle.rows.specs.Rows.{row_of}
use Rattle.capi_rows.specs.Rows.{state_slots, row_slots, filled_slots, position_in, names_in, row_put, filled_with, Filling, row_in, row_left, RowTold, filled_in, RowsTold}
use Rattle.capi_rows.proofs.Slots.{reached_none}

-- ---- one row

module _ (s st : List ℕ) (d : ℕ) (xs : List ℕ) where
  told : (g : Given) → g ≡ row_in s st d xs → RowTold s st d xs (given_number g) (row_left xs g)
  told g e = record { said = ap given_number e; row = ap (row_left xs) e }

  pub row_short : length xs < row_slots → RowTold s st d xs bad_number xs
  unfolding row_in
  row_short h = told Given.BadState (pick_lt _ _ _ _ _ h refl)

  module _ (room : row_slots ≤ length xs) where
    pub row_stateless : length st < state_slots → RowTold s st d xs bad_number xs
    unfolding row_in
    row_stateless h = told Given.BadState (pick_nlt _ _ _ _ _ room (pick_lt _ _ _ _ _ h refl))

    module _ (held : state_slots ≤ length st) (g : Given) (e : g ≡ row_of s (position_in st) (names_in st) (depth_of d)) where
      is : g ≡ row_in s st d xs
      unfolding row_in
      is = pick_nlt _ _ _ _ _ room (pick_nlt _ _ _ _ _ held e)

      pub row_told : (row : Row) (xs' : List ℕ) → g ≡ Given.Row row → xs' ≡ row_put xs 0 row → RowTold s st d xs 0 xs'
      row_told row xs' f put =
          let same : Given.Row row ≡ row_in s st d xs = sym f ∙ is in
          record { said = (told (Given.Row row) same).said; row = put ∙ (told (Given.Row row) same).row }

      pub row_bad : (number : ℕ) → number ≡ given_number g → g ≡ Given.BadState → RowTold s st d xs number xs
      row_bad number e f = rw (e, f) (told Given.BadState (sym f ∙ is))

pub ruleset ones = (rules, row_short, row_stateless, row_told, row_bad)

-- ---- a list of rows

first_set : (an : List ℕ) (v : ℕ) → filled_slots ≤ length an → set an 0 v ≡ v ∷ drop filled_slots an
first_set [] v h = absurd (omega arith)
first_set (a ∷ an) v h = refl

module _ (s st xs an : List ℕ) where
  pub rows_short : length an < filled_slots → RowsTold s st xs an bad_number xs an
  rows_short h = record { said = pick_lt _ _ _ _ _ h refl; rows = pick_lt _ _ _ _ _ h refl; count = pick_lt _ _ _ _ _ h refl }

  module _ (room : filled_slots ≤ length an) where
    rows_are : (filled : Filled) (xs' : List ℕ) → filled ≡ filled_in s st (length xs / row_slots) → xs' ≡ filled_with s (count_of filled) xs
        → RowsTold s st xs an (filled_number filled) xs' (set an 0 (count_of filled))
    rows_are filled xs' e f =
        record {
          said = pick_nlt _ _ _ _ _ room (ap filled_number e);
          rows = pick_nlt _ _ _ _ _ room (f ∙ ap (λ (y : Filled). filled_with s (count_of y) xs) e);
          count = pick_nlt _ _ _ _ _ room (first_set an (count_of filled) room ∙ ap (λ (y : Filled). count_of y ∷ drop filled_slots an) e);
        }

    pub rows_stateless : length st < state_slots → RowsTold s st xs an bad_number xs (set an 0 0)
    unfolding filled_in
    rows_stateless h = rows_are Filled.BadState xs (pick_lt _ _ _ _ _ h refl) (reached_none s xs).same

    pub rows_told : state_slots ≤ length st → (filled : Filled) (xs' : List ℕ) (number count : ℕ) → Filling s (position_in st) (names_in st) xs filled xs'
        → number ≡ filled_number filled → count ≡ count_of filled → RowsTold s st xs an number xs' (set an 0 count)
    unfolding filled_in
    rows_told h filled xs' number count f e c = rw (e, c) (rows_are filled xs' (pick_nlt _ _ _ _ _ h f.said) f.rows)

pub ruleset lists = (rules, rows_short, rows_stateless, rows_told)
