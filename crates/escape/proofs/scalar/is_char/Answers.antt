-- `is_char` meets its contract. Assumes nothing.
use Rattle.ground.proofs.Choices.{by_case}
use Rattle.escape.specs.Scalar.{is_char}
use Rattle.escape.proofs.Ranges.{ranges}
use Rattle.escape.proofs.scalar.is_char.Goals as goal

pub returns-in-9 : goal.returns-in-9
returns-in-9 c = search (ranges, by_case is_char)

pub returns-in-10 : goal.returns-in-10
returns-in-10 c = search (ranges, by_case is_char)

pub returns-in-13 : goal.returns-in-13
returns-in-13 c = search (ranges, by_case is_char)

pub returns-in-32-to-55295 : goal.returns-in-32-to-55295
returns-in-32-to-55295 c = search ranges depth 9 fits 9000

pub returns-in-57344-to-65533 : goal.returns-in-57344-to-65533
returns-in-57344-to-65533 c = search ranges depth 9 fits 9000

pub returns-in-65536-to-1114111 : goal.returns-in-65536-to-1114111
returns-in-65536-to-1114111 c = search ranges depth 9 fits 9000

pub returns-in_default : goal.returns-in_default
returns-in_default c = search ranges depth 9 fits 9000

pub returns-in_default-2 : goal.returns-in_default-2
returns-in_default-2 c = search ranges depth 9 fits 9000

pub returns-in_default-3 : goal.returns-in_default-3
returns-in_default-3 c = search ranges depth 9 fits 9000

pub returns-in_default-4 : goal.returns-in_default-4
returns-in_default-4 c = search ranges depth 9 fits 9000
