-- `use_of` meets its contract. The invariant: if reading comes to `at`, it comes to i before, and has not met the name. Assumes nothing.
use Rattle.attributes.proofs.Turns.{pass_turn, uses}
use Rattle.attributes.proofs.used.use_of.Goals as goal

pub part-wanted-requires : goal.part-wanted-requires
part-wanted-requires c = search uses

pub loop-i-init : goal.loop-i-init
loop-i-init c = search uses

pub shape_at-requires : goal.shape_at-requires
shape_at-requires c = search uses

pub enum_told-1 : goal.enum_told-1
enum_told-1 c = search uses

pub returns-in-Nothing : goal.returns-in-Nothing
returns-in-Nothing c = search uses

pub enum_told-in-Refused : goal.enum_told-in-Refused
enum_told-in-Refused c = search uses

pub returns-in-Refused : goal.returns-in-Refused
returns-in-Refused c = search uses

pub enum_known-attribute : goal.enum_known-attribute
enum_known-attribute c = search uses

pub part-requires : goal.part-requires
part-requires c = search uses

pub same-requires : goal.same-requires
same-requires c = search uses

pub returns-then-same : goal.returns-then-same
returns-then-same c = search uses

pub loop-i-smaller : goal.loop-i-smaller
loop-i-smaller c = search uses

pub loop-i-preserved : goal.loop-i-preserved
loop-i-preserved c = pass_turn _ _ _ _ _ c.loop-i.invariant c.loop-i-test.true _ c.shape_at.ensures _
    c.in-Attribute.is _ _ _ c.part.ensures.bytes c.part-wanted.ensures.bytes c.same.ensures c.if-same.false

pub returns : goal.returns
returns c = search uses
