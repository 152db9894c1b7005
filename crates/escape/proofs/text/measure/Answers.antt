-- `measure` meets its contract. The invariant: the answer is that of the text from here on, with the bytes counted so far. Assumes nothing.
use borrow.Author.Rules.{rules}
use Rattle.escape.proofs.Measures.{character_on, measures}
use Rattle.escape.proofs.text.measure.Goals as goal

pub loop-i-init : goal.loop-i-init
loop-i-init c = search measures

pub plain_end-end-requires : goal.plain_end-end-requires
plain_end-end-requires c = search measures

pub room_at-room-requires : goal.room_at-room-requires
room_at-room-requires c = search measures

pub overflow_sub-end : goal.overflow_sub-end
overflow_sub-end c = search measures

pub overflow_add-i : goal.overflow_add-i
overflow_add-i c = search measures

pub refused-requires : goal.refused-requires
refused-requires c = search measures

pub returns-then-room-end : goal.returns-then-room-end
returns-then-room-end c = search measures

pub overflow_sub-p : goal.overflow_sub-p
overflow_sub-p c = search measures

pub overflow_add-p : goal.overflow_add-p
overflow_add-p c = search measures

pub refused-requires-then-size-p : goal.refused-requires-then-size-p
refused-requires-then-size-p c = search measures

pub returns-then-size-p : goal.returns-then-size-p
returns-then-size-p c = search measures

pub overflow_sub-result : goal.overflow_sub-result
overflow_sub-result c = search measures

pub returns-then-content-end : goal.returns-then-content-end
returns-then-content-end c = search measures

pub overflow_add-end : goal.overflow_add-end
overflow_add-end c = search measures

pub found_at-requires : goal.found_at-requires
found_at-requires c = search measures

pub enum_known-fault : goal.enum_known-fault
enum_known-fault c = search measures

pub refused-requires-in-Refused : goal.refused-requires-in-Refused
refused-requires-in-Refused c = search measures

pub returns-in-Refused : goal.returns-in-Refused
returns-in-Refused c = search measures

pub enum_known-value : goal.enum_known-value
enum_known-value c = search measures

pub width-n-requires : goal.width-n-requires
width-n-requires c = search measures

pub room_at-requires : goal.room_at-requires
room_at-requires c = search measures

pub refused-requires-then-room_at-n : goal.refused-requires-then-room_at-n
refused-requires-then-room_at-n c = search measures

pub returns-then-room_at-n : goal.returns-then-room_at-n
returns-then-room_at-n c = search measures

pub overflow_add-p-in-Character : goal.overflow_add-p-in-Character
overflow_add-p-in-Character c = search measures

pub loop-i-smaller : goal.loop-i-smaller
loop-i-smaller c = search measures

pub loop-i-preserved : goal.loop-i-preserved
loop-i-preserved c = character_on _ _ _ _ _ _ c.loop-i.invariant _ c.plain_end-end.ensures _ c.room_at-room.ensures c.if-room-end.false
    c.if-content-end.false _ c.found_at.ensures _ _ c.in-Character.is _ c.width-n.ensures _ c.room_at.ensures c.if-room_at-n.false (search rules)
