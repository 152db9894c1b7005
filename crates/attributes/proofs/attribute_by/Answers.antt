-- `attribute_by` meets its contract. The invariant: reading comes to this place, the names before it are marked, and no place before it is `at`. Assumes nothing.
use Rattle.attributes.proofs.Walks.{goes}
use Rattle.attributes.proofs.attribute_by.Goals as goal

pub name_len-requires : goal.name_len-requires
name_len-requires c = search goes

pub refused-requires : goal.refused-requires
refused-requires c = search goes

pub returns-then-name_len-name : goal.returns-then-name_len-name
returns-then-name_len-name c = search goes

pub loop-from-init : goal.loop-from-init
loop-from-init c = search goes

pub item_at-requires : goal.item_at-requires
item_at-requires c = search goes

pub enum_told-1 : goal.enum_told-1
enum_told-1 c = search goes

pub refused-requires-in-Nothing : goal.refused-requires-in-Nothing
refused-requires-in-Nothing c = search goes

pub shape_of-seen-in-Nothing : goal.shape_of-seen-in-Nothing
shape_of-seen-in-Nothing c = search goes

pub returns-in-Nothing : goal.returns-in-Nothing
returns-in-Nothing c = search goes

pub enum_told-in-Refused : goal.enum_told-in-Refused
enum_told-in-Refused c = search goes

pub refused-requires-in-Refused : goal.refused-requires-in-Refused
refused-requires-in-Refused c = search goes

pub shape_of-seen-in-Refused : goal.shape_of-seen-in-Refused
shape_of-seen-in-Refused c = search goes

pub returns-in-Refused : goal.returns-in-Refused
returns-in-Refused c = search goes

pub enum_known-attribute : goal.enum_known-attribute
enum_known-attribute c = search goes

pub mark_of-mark-requires : goal.mark_of-mark-requires
mark_of-mark-requires c = search goes

pub bounds-seen-mark : goal.bounds-seen-mark
bounds-seen-mark c = search goes

pub loop-from-smaller : goal.loop-from-smaller
loop-from-smaller c = search goes

pub loop-from-preserved : goal.loop-from-preserved
loop-from-preserved c = search goes

pub refused-requires-then-from-at : goal.refused-requires-then-from-at
refused-requires-then-from-at c = search goes

pub shape_of-seen-then-from-at : goal.shape_of-seen-then-from-at
shape_of-seen-then-from-at c = search goes

pub returns-then-from-at : goal.returns-then-from-at
returns-then-from-at c = search goes

pub item_at-requires-2 : goal.item_at-requires-2
item_at-requires-2 c = search goes

pub shape_of-seen : goal.shape_of-seen
shape_of-seen c = search goes

pub returns : goal.returns
returns c = search goes
