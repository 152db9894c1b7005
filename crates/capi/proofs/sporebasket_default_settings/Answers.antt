-- `sporebasket_default_settings` meets its contract. Assumes nothing.
use borrow.Author.Rules.{rules}
use Rattle.capi.proofs.sporebasket_default_settings.Goals as goal

pub default-requires : goal.default-requires
default-requires c = search rules

pub settings_number-requires : goal.settings_number-requires
settings_number-requires c = search rules

pub returns : goal.returns
returns c = simp (← c.default.ensures) c.settings_number.ensures
