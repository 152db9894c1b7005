-- `sporebasket_scan` meets its contract. Assumes nothing.
use Rattle.capi_pieces.proofs.Answers.{tolds}
use Rattle.capi_pieces.proofs.sporebasket_scan.Goals as goal

pub returns-then-scan-lt-SCAN_SLOTS : goal.returns-then-scan-lt-SCAN_SLOTS
returns-then-scan-lt-SCAN_SLOTS c = search tolds

pub begun-requires : goal.begun-requires
begun-requires c = search tolds

pub enum_known-fresh : goal.enum_known-fresh
enum_known-fresh c = search tolds

pub enum_told-1 : goal.enum_told-1
enum_told-1 c = search tolds

pub returns-in_default : goal.returns-in_default
returns-in_default c = search tolds

pub store-requires : goal.store-requires
store-requires c = search tolds

pub shape_of-scan : goal.shape_of-scan
shape_of-scan c = search tolds

pub returns : goal.returns
returns c = search tolds
