-- `sporebasket_find_attribute` meets its contract. Assumes nothing.
use Rattle.capi_attributes.proofs.Answers.{tolds}
use Rattle.capi_attributes.proofs.sporebasket_find_attribute.Goals as goal

pub returns-then-answer-lt-ATTRIBUTE_SLOTS : goal.returns-then-answer-lt-ATTRIBUTE_SLOTS
returns-then-answer-lt-ATTRIBUTE_SLOTS c = search tolds

pub find_in-values-requires : goal.find_in-values-requires
find_in-values-requires c = search tolds

pub report-requires : goal.report-requires
report-requires c = search tolds

pub shape_of-answer : goal.shape_of-answer
shape_of-answer c = search tolds

pub returns : goal.returns
returns c = search tolds
