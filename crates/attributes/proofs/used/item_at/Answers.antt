-- `item_at` meets its contract. Assumes nothing.
use Rattle.attributes.proofs.Turns.{items}
use Rattle.attributes.proofs.used.item_at.Goals as goal

pub name_at-requires : goal.name_at-requires
name_at-requires c = search items

pub enum_told-1 : goal.enum_told-1
enum_told-1 c = search items

pub enum_known-refusal : goal.enum_known-refusal
enum_known-refusal c = search items

pub enum_known-own : goal.enum_known-own
enum_known-own c = search items

pub mark_of-mark-requires : goal.mark_of-mark-requires
mark_of-mark-requires c = search items

pub bounds-seen-mark : goal.bounds-seen-mark
bounds-seen-mark c = search items

pub named-requires : goal.named-requires
named-requires c = search items

pub returns-then-seen-mark-eq0 : goal.returns-then-seen-mark-eq0
returns-then-seen-mark-eq0 c = search items

pub use_of-requires : goal.use_of-requires
use_of-requires c = search items

pub enum_known-first : goal.enum_known-first
enum_known-first c = search items

pub refused-requires : goal.refused-requires
refused-requires c = search items

pub enum_told-in-New : goal.enum_told-in-New
enum_told-in-New c = search items

pub named-requires-in-New : goal.named-requires-in-New
named-requires-in-New c = search items

pub returns-in-Nothing : goal.returns-in-Nothing
returns-in-Nothing c = search items

pub returns-in-Refused : goal.returns-in-Refused
returns-in-Refused c = search items

pub returns-in-At : goal.returns-in-At
returns-in-At c = search items

pub returns-in-New : goal.returns-in-New
returns-in-New c = search items
