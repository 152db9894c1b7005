-- `alike` meets its contract. The invariant of both loops: the answer is that of comparing from i on. Assumes nothing.
use Rattle.ground.proofs.Eights.{alikes}
use Rattle.ground.proofs.alike.Goals as goal

pub loop-i-init : goal.loop-i-init
loop-i-init c = search alikes

pub overflow_sub-n : goal.overflow_sub-n
overflow_sub-n c = search alikes

pub differ_8-requires : goal.differ_8-requires
differ_8-requires c = search alikes

pub overflow_add-i : goal.overflow_add-i
overflow_add-i c = search alikes

pub loop-i-smaller : goal.loop-i-smaller
loop-i-smaller c = search alikes

pub loop-i-preserved : goal.loop-i-preserved
loop-i-preserved c = search alikes

pub loop-i-2-init : goal.loop-i-2-init
loop-i-2-init c = search alikes

pub bounds-a-i : goal.bounds-a-i
bounds-a-i c = search alikes

pub bounds-b-i : goal.bounds-b-i
bounds-b-i c = search alikes

pub returns-then-a-i : goal.returns-then-a-i
returns-then-a-i c = search alikes

pub overflow_add-i-in-loop-i-2 : goal.overflow_add-i-in-loop-i-2
overflow_add-i-in-loop-i-2 c = search alikes

pub loop-i-2-smaller : goal.loop-i-2-smaller
loop-i-2-smaller c = search alikes

pub loop-i-2-preserved : goal.loop-i-2-preserved
loop-i-2-preserved c = search alikes

pub returns : goal.returns
returns c = search alikes
