-- `sporebasket_feed` meets its contract. Assumes nothing.
use Rattle.capi_pieces.proofs.Answers.{tolds}
use Rattle.capi_pieces.proofs.sporebasket_feed.Goals as goal

pub load-requires : goal.load-requires
load-requires c = search tolds

pub enum_known-held : goal.enum_known-held
enum_known-held c = search tolds

pub enum_told-1 : goal.enum_told-1
enum_told-1 c = search tolds

pub shape_of-scan-in_default : goal.shape_of-scan-in_default
shape_of-scan-in_default c = search tolds

pub returns-in_default : goal.returns-in_default
returns-in_default c = search tolds

pub feed-fed-requires : goal.feed-fed-requires
feed-fed-requires c = search tolds

pub store-requires : goal.store-requires
store-requires c = search tolds

pub number-requires : goal.number-requires
number-requires c = search tolds

pub shape_of-scan : goal.shape_of-scan
shape_of-scan c = search tolds

pub returns : goal.returns
returns c = search tolds
