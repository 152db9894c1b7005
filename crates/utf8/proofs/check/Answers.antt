-- `check` meets its contract. Assumes nothing.
use Rattle.utf8.proofs.Ascii.{ascii_turns}
use Rattle.utf8.proofs.check.Goals as goal

pub plain-requires : goal.plain-requires
plain-requires c = search ascii_turns

pub check_part-requires : goal.check_part-requires
check_part-requires c = search ascii_turns

pub returns-then-plain : goal.returns-then-plain
returns-then-plain c = search ascii_turns

pub returns-else-plain : goal.returns-else-plain
returns-else-plain c = search ascii_turns
