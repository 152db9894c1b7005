-- `sporebasket_unescape` meets its contract. Assumes nothing.
use Rattle.capi_escape.proofs.Answers.{tolds}
use Rattle.capi_escape.proofs.sporebasket_unescape.Goals as goal

pub returns-then-answer-lt-UNESCAPE_SLOTS : goal.returns-then-answer-lt-UNESCAPE_SLOTS
returns-then-answer-lt-UNESCAPE_SLOTS c = search tolds

pub unescape-written-requires : goal.unescape-written-requires
unescape-written-requires c = search tolds

pub values-values-requires : goal.values-values-requires
values-values-requires c = search tolds

pub report-requires : goal.report-requires
report-requires c = search tolds

pub shape_of-galley : goal.shape_of-galley
shape_of-galley c = search tolds

pub shape_of-answer : goal.shape_of-answer
shape_of-answer c = search tolds

pub returns : goal.returns
returns c = search tolds
