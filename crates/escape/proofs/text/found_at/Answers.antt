-- `found_at` meets its contract. Assumes nothing.
use Rattle.escape.proofs.Measures.{founds}
use Rattle.escape.proofs.text.found_at.Goals as goal

pub first-end-requires : goal.first-end-requires
first-end-requires c = search founds

pub returns-then-content-end : goal.returns-then-content-end
returns-then-content-end c = search founds

pub part-requires : goal.part-requires
part-requires c = search founds

pub read_reference-requires : goal.read_reference-requires
read_reference-requires c = search founds

pub enum_told-1 : goal.enum_told-1
enum_told-1 c = search founds

pub enum_told-in-NoCharacter : goal.enum_told-in-NoCharacter
enum_told-in-NoCharacter c = search founds

pub enum_known-value : goal.enum_known-value
enum_known-value c = search founds

pub overflow_add-result : goal.overflow_add-result
overflow_add-result c = search founds

pub returns-in-NotOfForm : goal.returns-in-NotOfForm
returns-in-NotOfForm c = search founds

pub returns-in-NoCharacter : goal.returns-in-NoCharacter
returns-in-NoCharacter c = search founds

pub returns-in-Character : goal.returns-in-Character
returns-in-Character c = search founds
