-- `named` meets its contract. Assumes nothing.
use Rattle.attributes.proofs.Stages.{shapes}
use Rattle.attributes.proofs.shape.named.Goals as goal

pub equals_at-requires : goal.equals_at-requires
equals_at-requires c = search shapes

pub enum_known-refusal : goal.enum_known-refusal
enum_known-refusal c = search shapes

pub enum_known-at : goal.enum_known-at
enum_known-at c = search shapes

pub value_at-requires : goal.value_at-requires
value_at-requires c = search shapes

pub enum_known-refusal-in-Refused-value_at : goal.enum_known-refusal-in-Refused-value_at
enum_known-refusal-in-Refused-value_at c = search shapes

pub enum_known-value : goal.enum_known-value
enum_known-value c = search shapes

pub overflow_add-result : goal.overflow_add-result
overflow_add-result c = search shapes

pub returns-in-Refused : goal.returns-in-Refused
returns-in-Refused c = search shapes

pub returns-in-Refused-value_at : goal.returns-in-Refused-value_at
returns-in-Refused-value_at c = search shapes

pub returns-in-Value : goal.returns-in-Value
returns-in-Value c = search shapes
