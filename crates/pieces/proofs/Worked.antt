-- The definition gives what the table of worked examples says. Assumes nothing.
use mathlib.Core.Path.{◌≡◌, refl}
use mathlib.Core.List.{map}
use Rattle.parser.specs.Machine.{feed}
use Rattle.pieces.specs.Fed.{fed, fed_on}
use Rattle.pieces.specs.Pieces.{fed_all}
use Rattle.pieces.specs.Table.{given, wanted, table}

pub the_table_holds : map given table ≡ map wanted table
unfolding feed fed fed_on fed_all table
the_table_holds = refl
