-- The worked examples hold of the definition of a time: one claim about the table, which antt computes. Assumes nothing.
use mathlib.Core.Path.{◌≡◌, refl}
use mathlib.Core.List.{map}
use Rattle.white.specs.White.{until, kept_of}
use Rattle.columns.specs.Time.{two_digits, is_clock, is_time, cleared, read_time}
use Rattle.columns.specs.Table.{given, wanted, table}

-- THEOREM: what the definition gives for each row of the table is what the row has; "24:10 is 1,450 and sorts after 23:50, which is 1,430"
pub worked : map given table ≡ map wanted table
unfolding table read_time cleared is_time is_clock two_digits until kept_of
worked = refl
