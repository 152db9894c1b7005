-- `report` meets its contract. Assumes nothing.
use Rattle.ground.proofs.Slots.{slot_in}
use Rattle.capi_attributes.specs.Attributes.{attribute_slots}
use Rattle.capi_attributes.proofs.Answers.{tolds}
use Rattle.capi_attributes.proofs.report.Goals as goal

pub bounds-answer-0 : goal.bounds-answer-0
bounds-answer-0 c = search (tolds, slot_in attribute_slots)

pub bounds-answer-1 : goal.bounds-answer-1
bounds-answer-1 c = search (tolds, slot_in attribute_slots)

pub bounds-answer-2 : goal.bounds-answer-2
bounds-answer-2 c = search (tolds, slot_in attribute_slots)

pub bounds-answer-3 : goal.bounds-answer-3
bounds-answer-3 c = search (tolds, slot_in attribute_slots)

pub bounds-answer-4 : goal.bounds-answer-4
bounds-answer-4 c = search (tolds, slot_in attribute_slots)

pub bounds-answer-5 : goal.bounds-answer-5
bounds-answer-5 c = search (tolds, slot_in attribute_slots)

pub bounds-answer-6 : goal.bounds-answer-6
bounds-answer-6 c = search (tolds, slot_in attribute_slots)

pub bounds-answer-7 : goal.bounds-answer-7
bounds-answer-7 c = search (tolds, slot_in attribute_slots)

pub bounds-answer-8 : goal.bounds-answer-8
bounds-answer-8 c = search (tolds, slot_in attribute_slots)

pub shape_of-answer : goal.shape_of-answer
shape_of-answer c = search (tolds, slot_in attribute_slots)

pub returns : goal.returns
returns c = search (tolds, slot_in attribute_slots)
