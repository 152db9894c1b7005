-- `shape_at` meets its contract. Assumes nothing.
use Rattle.attributes.proofs.Stages.{shapes}
use Rattle.attributes.proofs.shape.shape_at.Goals as goal

pub name_at-requires : goal.name_at-requires
name_at-requires c = search shapes

pub enum_told-1 : goal.enum_told-1
enum_told-1 c = search shapes

pub enum_known-refusal : goal.enum_known-refusal
enum_known-refusal c = search shapes

pub enum_known-name : goal.enum_known-name
enum_known-name c = search shapes

pub named-requires : goal.named-requires
named-requires c = search shapes

pub returns-in-Nothing : goal.returns-in-Nothing
returns-in-Nothing c = search shapes

pub returns-in-Refused : goal.returns-in-Refused
returns-in-Refused c = search shapes

pub returns-in-Name : goal.returns-in-Name
returns-in-Name c = search shapes
