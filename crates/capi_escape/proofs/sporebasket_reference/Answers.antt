-- `sporebasket_reference` meets its contract. Assumes nothing.
use Rattle.capi_escape.proofs.Answers.{tolds}
use Rattle.capi_escape.proofs.sporebasket_reference.Goals as goal

pub returns-then-answer-lt-UNESCAPE_SLOTS : goal.returns-then-answer-lt-UNESCAPE_SLOTS
returns-then-answer-lt-UNESCAPE_SLOTS c = search tolds

pub resolve-written-requires : goal.resolve-written-requires
resolve-written-requires c = search tolds

pub values-values-requires : goal.values-values-requires
values-values-requires c = search tolds

pub report-requires : goal.report-requires
report-requires c = search tolds

pub shape_of-galley : goal.shape_of-galley
shape_of-galley c = search tolds

pub shape_of-answer : goal.shape_of-answer
shape_of-answer c = search tolds

pub returns : goal.returns
returns c = search tolds
