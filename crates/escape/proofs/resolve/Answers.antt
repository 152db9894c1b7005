-- `resolve` meets its contract. Assumes nothing.
use Rattle.escape.proofs.Writes.{ones}
use Rattle.escape.proofs.resolve.Goals as goal

pub read_reference-requires : goal.read_reference-requires
read_reference-requires c = search ones

pub enum_told-1 : goal.enum_told-1
enum_told-1 c = search ones

pub refused-requires : goal.refused-requires
refused-requires c = search ones

pub enum_told-in-NoCharacter : goal.enum_told-in-NoCharacter
enum_told-in-NoCharacter c = search ones

pub refused-requires-in-NoCharacter : goal.refused-requires-in-NoCharacter
refused-requires-in-NoCharacter c = search ones

pub enum_known-value : goal.enum_known-value
enum_known-value c = search ones

pub refused-requires-then-galley-at : goal.refused-requires-then-galley-at
refused-requires-then-galley-at c = search ones

pub returns-then-galley-at : goal.returns-then-galley-at
returns-then-galley-at c = search ones

pub slice_bounds-encode-count : goal.slice_bounds-encode-count
slice_bounds-encode-count c = search ones

pub slice_bounds-encode-start : goal.slice_bounds-encode-start
slice_bounds-encode-start c = search ones

pub slice_bounds-encode-end : goal.slice_bounds-encode-end
slice_bounds-encode-end c = search ones

pub encode-n-requires : goal.encode-n-requires
encode-n-requires c = search ones

pub refused-requires-then-n-eq0 : goal.refused-requires-then-n-eq0
refused-requires-then-n-eq0 c = search ones

pub shape_of-galley-then-n-eq0 : goal.shape_of-galley-then-n-eq0
shape_of-galley-then-n-eq0 c = search ones

pub returns-then-n-eq0 : goal.returns-then-n-eq0
returns-then-n-eq0 c = search ones

pub returns-in-NotOfForm : goal.returns-in-NotOfForm
returns-in-NotOfForm c = search ones

pub returns-in-NoCharacter : goal.returns-in-NoCharacter
returns-in-NoCharacter c = search ones

pub shape_of-galley : goal.shape_of-galley
shape_of-galley c = search ones

pub returns-else-n-eq0 : goal.returns-else-n-eq0
returns-else-n-eq0 c = search ones
