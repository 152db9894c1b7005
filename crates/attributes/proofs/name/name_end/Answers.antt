-- `name_end` meets its contract. The invariant: the answer is i and the answer for what is left at i. Assumes nothing.
use Rattle.white.proofs.Runs.{run_past, run_here, run_turn}
use Rattle.attributes.specs.Grammar.{ends_name}
use Rattle.attributes.proofs.Bytes.{name_turns}
use Rattle.attributes.proofs.name.name_end.Goals as goal

pub loop-i-init : goal.loop-i-init
loop-i-init c = search name_turns

pub bounds-content-i : goal.bounds-content-i
bounds-content-i c = search (name_turns, run_past ends_name, run_here ends_name, run_turn ends_name)

pub ends_name-requires : goal.ends_name-requires
ends_name-requires c = search name_turns

pub overflow_add-i : goal.overflow_add-i
overflow_add-i c = search (name_turns, run_past ends_name, run_here ends_name, run_turn ends_name)

pub loop-i-smaller : goal.loop-i-smaller
loop-i-smaller c = search (name_turns, run_past ends_name, run_here ends_name, run_turn ends_name)

pub loop-i-preserved : goal.loop-i-preserved
loop-i-preserved c = search (name_turns, run_past ends_name, run_here ends_name, run_turn ends_name)

pub returns-after-loop-i : goal.returns-after-loop-i
returns-after-loop-i c = search (name_turns, run_past ends_name, run_here ends_name)

pub returns-then-ends_name : goal.returns-then-ends_name
returns-then-ends_name c = search (name_turns, run_past ends_name, run_here ends_name)
