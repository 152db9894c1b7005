-- `load` meets its contract. Assumes nothing.
use Rattle.ground.proofs.Choices.{choices}
use Rattle.capi.specs.Numbers.{held_of}
use Rattle.capi.proofs.Numbers.{numbers}
use Rattle.capi.proofs.slots.load.Goals as goal

pub returns-then-state-lt-STATE_SLOTS : goal.returns-then-state-lt-STATE_SLOTS
unfolding held_of
returns-then-state-lt-STATE_SLOTS c = search choices

pub bounds-state-0 : goal.bounds-state-0
bounds-state-0 c = search numbers

pub returns-then-state-gt-LAST_PHASE : goal.returns-then-state-gt-LAST_PHASE
unfolding held_of
returns-then-state-gt-LAST_PHASE c = search choices

pub bounds-state-4 : goal.bounds-state-4
bounds-state-4 c = search numbers

pub returns-then-state-gt-LAST_SETTINGS : goal.returns-then-state-gt-LAST_SETTINGS
unfolding held_of
returns-then-state-gt-LAST_SETTINGS c = search choices

pub bounds-state-0-2 : goal.bounds-state-0-2
bounds-state-0-2 c = search numbers

pub phase-requires : goal.phase-requires
phase-requires c = search numbers

pub bounds-state-1 : goal.bounds-state-1
bounds-state-1 c = search numbers

pub bounds-state-2 : goal.bounds-state-2
bounds-state-2 c = search numbers

pub bounds-state-3 : goal.bounds-state-3
bounds-state-3 c = search numbers

pub bounds-state-4-2 : goal.bounds-state-4-2
bounds-state-4-2 c = search numbers

pub config-requires : goal.config-requires
config-requires c = search numbers

pub bounds-state-5 : goal.bounds-state-5
bounds-state-5 c = search numbers

pub returns : goal.returns
returns c = search numbers
