-- `tally` meets its contract, and ends: fewer calls are left after each. The invariant: the loop has what i calls leave, and the stack keeps its length.
-- Assumes nothing.
use Rattle.tally.proofs.Calls.{call_turns}
use Rattle.tally.proofs.tally.Goals as goal

pub new-requires : goal.new-requires
new-requires c = search call_turns

pub enum_known-refusal : goal.enum_known-refusal
enum_known-refusal c = search call_turns

pub enum_known-fresh : goal.enum_known-fresh
enum_known-fresh c = search call_turns

pub number-start-requires : goal.number-start-requires
number-start-requires c = search call_turns

pub number-end-requires : goal.number-end-requires
number-end-requires c = search call_turns

pub overflow_add-calls : goal.overflow_add-calls
overflow_add-calls c = search call_turns

pub loop-i-init : goal.loop-i-init
loop-i-init c = search call_turns

pub overflow_add-i : goal.overflow_add-i
overflow_add-i c = search call_turns

pub advance-step-requires : goal.advance-step-requires
advance-step-requires c = search call_turns

pub values-values-requires : goal.values-values-requires
values-values-requires c = search call_turns

pub one-openings-requires : goal.one-openings-requires
one-openings-requires c = search call_turns

pub overflow_add-openings : goal.overflow_add-openings
overflow_add-openings c = search call_turns

pub one-closings-requires : goal.one-closings-requires
one-closings-requires c = search call_turns

pub overflow_add-closings : goal.overflow_add-closings
overflow_add-closings c = search call_turns

pub one-mismatches-requires : goal.one-mismatches-requires
one-mismatches-requires c = search call_turns

pub overflow_add-mismatches : goal.overflow_add-mismatches
overflow_add-mismatches c = search call_turns

pub loop-i-smaller : goal.loop-i-smaller
loop-i-smaller c = search call_turns

pub loop-i-preserved : goal.loop-i-preserved
loop-i-preserved c = (search call_turns, search call_turns, search call_turns, search call_turns)

pub returns-in-Refused : goal.returns-in-Refused
returns-in-Refused c = search call_turns

pub shape_of-stack : goal.shape_of-stack
shape_of-stack c = search call_turns

pub returns-after-loop-i : goal.returns-after-loop-i
returns-after-loop-i c = search call_turns
