-- `report` meets its contract. Assumes nothing.
use Rattle.ground.proofs.Slots.{slot_in}
use Rattle.capi_escape.specs.Told.{unescape_slots}
use Rattle.capi_escape.proofs.Answers.{tolds}
use Rattle.capi_escape.proofs.report.Goals as goal

pub bounds-answer-0 : goal.bounds-answer-0
bounds-answer-0 c = search (tolds, slot_in unescape_slots)

pub bounds-answer-1 : goal.bounds-answer-1
bounds-answer-1 c = search (tolds, slot_in unescape_slots)

pub shape_of-answer : goal.shape_of-answer
shape_of-answer c = search (tolds, slot_in unescape_slots)

pub returns : goal.returns
returns c = search (tolds, slot_in unescape_slots)
