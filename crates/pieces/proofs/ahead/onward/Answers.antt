-- `onward` meets its contract. Assumes nothing.
use Rattle.pieces.proofs.Turns.{aheads}
use Rattle.pieces.proofs.ahead.onward.Goals as goal

pub enum_told-1 : goal.enum_told-1
enum_told-1 c = search aheads

pub start-requires : goal.start-requires
start-requires c = search aheads

pub enum_told-in-Opened : goal.enum_told-in-Opened
enum_told-in-Opened c = search aheads

pub opened-requires : goal.opened-requires
opened-requires c = search aheads

pub enum_told-in-Bang : goal.enum_told-in-Bang
enum_told-in-Bang c = search aheads

pub bang-requires : goal.bang-requires
bang-requires c = search aheads

pub enum_known-state : goal.enum_known-state
enum_known-state c = search aheads

pub tag_end-requires : goal.tag_end-requires
tag_end-requires c = search aheads

pub in_tag-requires : goal.in_tag-requires
in_tag-requires c = search aheads

pub enum_known-state-in-Marked-1 : goal.enum_known-state-in-Marked-1
enum_known-state-in-Marked-1 c = search aheads

pub mark-requires : goal.mark-requires
mark-requires c = search aheads

pub need-requires : goal.need-requires
need-requires c = search aheads

pub marked_end-requires : goal.marked_end-requires
marked_end-requires c = search aheads

pub in_marked-requires : goal.in_marked-requires
in_marked-requires c = search aheads

pub enum_told-in-Reference : goal.enum_told-in-Reference
enum_told-in-Reference c = search aheads

pub reference-requires : goal.reference-requires
reference-requires c = search aheads

pub enum_told-in-Text : goal.enum_told-in-Text
enum_told-in-Text c = search aheads

pub text_on-requires : goal.text_on-requires
text_on-requires c = search aheads

pub in_first-requires : goal.in_first-requires
in_first-requires c = search aheads

pub returns-in-Start : goal.returns-in-Start
returns-in-Start c = search aheads

pub returns-in-Opened : goal.returns-in-Opened
returns-in-Opened c = search aheads

pub returns-in-Bang : goal.returns-in-Bang
returns-in-Bang c = search aheads

pub returns-in-Tag : goal.returns-in-Tag
returns-in-Tag c = search aheads

pub returns-in-Marked : goal.returns-in-Marked
returns-in-Marked c = search aheads

pub returns-in-Reference : goal.returns-in-Reference
returns-in-Reference c = search aheads

pub returns-in-Text : goal.returns-in-Text
returns-in-Text c = search aheads
