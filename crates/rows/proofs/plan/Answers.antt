-- `plan` meets its contract. The invariant: the first i names are in order. Assumes nothing.
use Rattle.rows.proofs.Records.{plans}
use Rattle.rows.proofs.plan.Goals as goal

pub capacity-most-requires : goal.capacity-most-requires
capacity-most-requires c = search plans

pub returns-then-most-names : goal.returns-then-most-names
returns-then-most-names c = search plans

pub lesser-count-requires : goal.lesser-count-requires
lesser-count-requires c = search plans

pub loop-i-init : goal.loop-i-init
loop-i-init c = search plans

pub overflow_add-i : goal.overflow_add-i
overflow_add-i c = search plans

pub open_row-requires : goal.open_row-requires
open_row-requires c = search plans

pub enum_told-1 : goal.enum_told-1
enum_told-1 c = search plans

pub enum_told-in_default : goal.enum_told-in_default
enum_told-in_default c = search plans

pub returns-in_default : goal.returns-in_default
returns-in_default c = search plans

pub overflow_add-i-in-loop-i : goal.overflow_add-i-in-loop-i
overflow_add-i-in-loop-i c = search plans

pub loop-i-smaller : goal.loop-i-smaller
loop-i-smaller c = search plans

pub loop-i-preserved : goal.loop-i-preserved
loop-i-preserved c = search plans

pub returns : goal.returns
returns c = search plans
