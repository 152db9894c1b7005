-- `sporebasket_attribute` meets its contract. Assumes nothing.
use Rattle.capi_attributes.proofs.Answers.{tolds}
use Rattle.capi_attributes.proofs.sporebasket_attribute.Goals as goal

pub returns-then-answer-lt-ATTRIBUTE_SLOTS : goal.returns-then-answer-lt-ATTRIBUTE_SLOTS
returns-then-answer-lt-ATTRIBUTE_SLOTS c = search tolds

pub attribute_in-values-requires : goal.attribute_in-values-requires
attribute_in-values-requires c = search tolds

pub report-requires : goal.report-requires
report-requires c = search tolds

pub shape_of-answer : goal.shape_of-answer
shape_of-answer c = search tolds

pub returns : goal.returns
returns c = search tolds
