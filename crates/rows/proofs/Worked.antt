-- The definitions give what the tables of worked examples say. Assumes nothing.
use mathlib.Core.Path.{◌≡◌, refl}
use mathlib.Core.List.{map}
use Rattle.rows.specs.Rows.{all_in_order, row_of, plan_of, rows_from, filled_with}
use Rattle.rows.specs.Table.{given_by, given_in, ones, filled_by, filled_in, lists}
use Rattle.state.specs.Limits.{capacity}

pub the_ones_hold : map given_by ones ≡ map given_in ones
unfolding capacity row_of ones
the_ones_hold = refl

pub the_lists_hold : map filled_by lists ≡ map filled_in lists
unfolding capacity all_in_order plan_of rows_from filled_with lists
the_lists_hold = refl
