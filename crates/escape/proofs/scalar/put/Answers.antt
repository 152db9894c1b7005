-- `put` meets its contract. Assumes nothing.
use Rattle.ground.proofs.Slots.{slot_in}
use Rattle.escape.proofs.Encodes.{width_4, last_fits, puts}
use Rattle.escape.proofs.scalar.put.Goals as goal

pub overflow_cast-out : goal.overflow_cast-out
overflow_cast-out c = search puts

pub bounds-out-0 : goal.bounds-out-0
bounds-out-0 c = search (puts, slot_in 1)

pub overflow_cast-out-in-128-to-2047 : goal.overflow_cast-out-in-128-to-2047
overflow_cast-out-in-128-to-2047 c = search puts

pub overflow_add-out : goal.overflow_add-out
overflow_add-out c = search puts

pub bounds-out-0-in-128-to-2047 : goal.bounds-out-0-in-128-to-2047
bounds-out-0-in-128-to-2047 c = search (puts, slot_in 2)

pub tail-requires : goal.tail-requires
tail-requires c = search puts

pub bounds-out-1 : goal.bounds-out-1
bounds-out-1 c = search (puts, slot_in 2)

pub overflow_cast-out-in-2048-to-65535 : goal.overflow_cast-out-in-2048-to-65535
overflow_cast-out-in-2048-to-65535 c = search puts

pub overflow_add-out-in-2048-to-65535 : goal.overflow_add-out-in-2048-to-65535
overflow_add-out-in-2048-to-65535 c = search puts

pub bounds-out-0-in-2048-to-65535 : goal.bounds-out-0-in-2048-to-65535
bounds-out-0-in-2048-to-65535 c = search (puts, slot_in 3)

pub tail-requires-in-2048-to-65535 : goal.tail-requires-in-2048-to-65535
tail-requires-in-2048-to-65535 c = search puts

pub bounds-out-1-in-2048-to-65535 : goal.bounds-out-1-in-2048-to-65535
bounds-out-1-in-2048-to-65535 c = search (puts, slot_in 3)

pub tail-requires-in-2048-to-65535-2 : goal.tail-requires-in-2048-to-65535-2
tail-requires-in-2048-to-65535-2 c = search puts

pub bounds-out-2 : goal.bounds-out-2
bounds-out-2 c = search (puts, slot_in 3)

pub overflow_cast-out-in_default : goal.overflow_cast-out-in_default
overflow_cast-out-in_default c = search puts

pub overflow_add-out-in_default : goal.overflow_add-out-in_default
overflow_add-out-in_default c = search puts

pub bounds-out-0-in_default : goal.bounds-out-0-in_default
bounds-out-0-in_default c = search (puts, slot_in 4)

pub tail-requires-in_default : goal.tail-requires-in_default
tail-requires-in_default c = search puts

pub bounds-out-1-in_default : goal.bounds-out-1-in_default
bounds-out-1-in_default c = search (puts, slot_in 4)

pub tail-requires-in_default-2 : goal.tail-requires-in_default-2
tail-requires-in_default-2 c = search puts

pub bounds-out-2-in_default : goal.bounds-out-2-in_default
bounds-out-2-in_default c = search (puts, slot_in 4)

pub tail-requires-in_default-3 : goal.tail-requires-in_default-3
tail-requires-in_default-3 c = search puts

pub bounds-out-3 : goal.bounds-out-3
bounds-out-3 c = last_fits c.args.out.now c.args.value c.requires.1 (width_4 _ c.in_default.if-value-lt65536-own.false) _ _ _

pub shape_of-out-in-0-to-127 : goal.shape_of-out-in-0-to-127
shape_of-out-in-0-to-127 c = search puts

pub returns-in-0-to-127 : goal.returns-in-0-to-127
returns-in-0-to-127 c = search puts

pub shape_of-out-in-128-to-2047 : goal.shape_of-out-in-128-to-2047
shape_of-out-in-128-to-2047 c = search puts

pub returns-in-128-to-2047 : goal.returns-in-128-to-2047
returns-in-128-to-2047 c = search puts

pub shape_of-out-in-2048-to-65535 : goal.shape_of-out-in-2048-to-65535
shape_of-out-in-2048-to-65535 c = search puts

pub returns-in-2048-to-65535 : goal.returns-in-2048-to-65535
returns-in-2048-to-65535 c = search puts

pub shape_of-out-in_default : goal.shape_of-out-in_default
shape_of-out-in_default c = search puts

pub returns-in_default : goal.returns-in_default
returns-in_default c = search puts
