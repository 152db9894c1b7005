-- `find_by` meets its contract. The invariant: reading comes to this place, the names before it are marked, and no answer before it ends the search. Assumes nothing.
use Rattle.attributes.proofs.Walks.{looks}
use Rattle.attributes.proofs.find.find_by.Goals as goal

pub name_len-requires : goal.name_len-requires
name_len-requires c = search looks

pub refused-requires : goal.refused-requires
refused-requires c = search looks

pub returns-then-name_len-name : goal.returns-then-name_len-name
returns-then-name_len-name c = search looks

pub loop-item-init : goal.loop-item-init
loop-item-init c = search looks

pub item_at-item-requires : goal.item_at-item-requires
item_at-item-requires c = search looks

pub enum_told-1 : goal.enum_told-1
enum_told-1 c = search looks

pub shape_of-seen-in-Nothing : goal.shape_of-seen-in-Nothing
shape_of-seen-in-Nothing c = search looks

pub returns-in-Nothing : goal.returns-in-Nothing
returns-in-Nothing c = search looks

pub enum_told-in-Refused : goal.enum_told-in-Refused
enum_told-in-Refused c = search looks

pub shape_of-seen-in-Refused : goal.shape_of-seen-in-Refused
shape_of-seen-in-Refused c = search looks

pub returns-in-Refused : goal.returns-in-Refused
returns-in-Refused c = search looks

pub enum_known-item : goal.enum_known-item
enum_known-item c = search looks

pub part-requires : goal.part-requires
part-requires c = search looks

pub same-requires : goal.same-requires
same-requires c = search looks

pub shape_of-seen-then-same : goal.shape_of-seen-then-same
shape_of-seen-then-same c = search looks

pub returns-then-same : goal.returns-then-same
returns-then-same c = search looks

pub mark_of-mark-requires : goal.mark_of-mark-requires
mark_of-mark-requires c = search looks

pub bounds-seen-mark : goal.bounds-seen-mark
bounds-seen-mark c = search looks

pub loop-item-smaller : goal.loop-item-smaller
loop-item-smaller c = search looks

pub loop-item-preserved : goal.loop-item-preserved
loop-item-preserved c = search looks
