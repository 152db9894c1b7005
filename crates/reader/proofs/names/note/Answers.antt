-- `note` meets its contract. Assumes nothing.
use mathlib.Core.Path.{refl}
use borrow.Author.Rules.{rules}
use Rattle.reader.proofs.Written.{room_fits, room_slots, start_writes, other_keeps}
use Rattle.reader.proofs.names.note.Goals as goal

pub values-values-requires : goal.values-values-requires
values-values-requires c = search rules

pub number-requires : goal.number-requires
number-requires c = search rules

pub overflow_add-to : goal.overflow_add-to
overflow_add-to c =
    record { fits = room_fits _ _ _ c.values-values.ensures c.number.ensures _ _ c.requires c.if-values-number.true }

pub push-requires : goal.push-requires
push-requires c =
    room_slots _ _ _ c.values-values.ensures c.number.ensures _ _ c.requires c.if-values-number.true

pub shape_of-stack : goal.shape_of-stack
shape_of-stack c = search rules

pub returns-then-values-number : goal.returns-then-values-number
returns-then-values-number c =
    start_writes _ _ _ c.values-values.ensures c.number.ensures _ _ _ c.if-values-number.true c.push.ensures

pub returns-else-values-number : goal.returns-else-values-number
returns-else-values-number c =
    other_keeps _ _ _ c.values-values.ensures c.number.ensures _ _ _ c.if-values-number.false refl
