-- `spell` meets its contract. Assumes nothing.
use Rattle.ground.proofs.Choices.{choices}
use Rattle.columns.specs.Time.{spelt_at}
use Rattle.columns.proofs.spell.spell.Goals as goal

pub digit_for-requires : goal.digit_for-requires
digit_for-requires c = search choices

pub digit_for-requires-in-1 : goal.digit_for-requires-in-1
digit_for-requires-in-1 c = search choices

pub digit_for-requires-in-3 : goal.digit_for-requires-in-3
digit_for-requires-in-3 c = search choices

pub digit_for-requires-in_default : goal.digit_for-requires-in_default
digit_for-requires-in_default c = search choices

pub returns-in-0 : goal.returns-in-0
unfolding spelt_at
returns-in-0 c = search choices

pub returns-in-1 : goal.returns-in-1
unfolding spelt_at
returns-in-1 c = search choices

pub returns-in-2 : goal.returns-in-2
unfolding spelt_at
returns-in-2 c = search choices

pub returns-in-3 : goal.returns-in-3
unfolding spelt_at
returns-in-3 c = search choices

pub returns-in_default : goal.returns-in_default
unfolding spelt_at
returns-in_default c = search choices
