-- The definition gives what the table of worked examples says. Assumes nothing.
use mathlib.Core.Path.{◌≡◌, refl}
use mathlib.Core.List.{map}
use Rattle.ground.specs.Equal.{begins, same}
use Rattle.white.specs.White.{until}
use Rattle.attributes.specs.Grammar.{past, name_end, value_end, name_from, name_at, equals_at, quoted_from, value_at, named}
use Rattle.attributes.specs.Tag.{use_in, item_at, read_by, first_from, attribute_at}
use Rattle.attributes.specs.Table.{given, wanted, table}

pub the_table_holds : map given table ≡ map wanted table
unfolding begins same until past name_end value_end name_from name_at equals_at quoted_from value_at named use_in item_at read_by first_from attribute_at table
the_table_holds = refl
