-- `read` meets its contract, and ends: fewer calls are left after each. The invariant: the loop has what i calls leave and tell, and the lent slices keep their
-- lengths. Assumes nothing.
use Rattle.columns.proofs.Turns.{reads}
use Rattle.columns.proofs.read.Goals as goal

pub overflow_add-calls : goal.overflow_add-calls
overflow_add-calls c = search reads

pub loop-i-init : goal.loop-i-init
loop-i-init c = search reads

pub overflow_add-i : goal.overflow_add-i
overflow_add-i c = search reads

pub advance-step-requires : goal.advance-step-requires
advance-step-requires c = search reads

pub is_eof-requires : goal.is_eof-requires
is_eof-requires c = search reads

pub shape_of-stack-then-is_eof : goal.shape_of-stack-then-is_eof
shape_of-stack-then-is_eof c = search reads

pub shape_of-column-then-is_eof : goal.shape_of-column-then-is_eof
shape_of-column-then-is_eof c = search reads

pub returns-then-is_eof : goal.returns-then-is_eof
returns-then-is_eof c = search reads

pub tells-told-requires : goal.tells-told-requires
tells-told-requires c = search reads

pub fill-filled-requires : goal.fill-filled-requires
fill-filled-requires c = search reads

pub is_refused-requires : goal.is_refused-requires
is_refused-requires c = search reads

pub shape_of-stack-then-is_refused : goal.shape_of-stack-then-is_refused
shape_of-stack-then-is_refused c = search reads

pub shape_of-column-then-is_refused : goal.shape_of-column-then-is_refused
shape_of-column-then-is_refused c = search reads

pub returns-then-is_refused : goal.returns-then-is_refused
returns-then-is_refused c = search reads

pub loop-i-smaller : goal.loop-i-smaller
loop-i-smaller c = search reads

pub loop-i-preserved : goal.loop-i-preserved
loop-i-preserved c = (search reads, search reads, search reads, search reads, search reads, search reads)

pub shape_of-stack : goal.shape_of-stack
shape_of-stack c = search reads

pub shape_of-column : goal.shape_of-column
shape_of-column c = search reads

pub returns : goal.returns
returns c = search reads
