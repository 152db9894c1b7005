-- `write` meets its contract. The invariant: what is to be left is what is in the buffer, with the bytes of the text from here on over it. Assumes nothing.
use borrow.Author.Rules.{rules}
use Rattle.escape.proofs.Measures.{first_after, first_is}
use Rattle.escape.proofs.Writes.{write_start, writing_fits, writing_ends, plain_adds, plain_lent, plain_written, never_refused, found_less, found_adds, found_written}
use Rattle.escape.proofs.text.write.Goals as goal

pub loop-at-init : goal.loop-at-init
loop-at-init c = write_start _ _ _ c.requires

pub plain_end-end-requires : goal.plain_end-end-requires
plain_end-end-requires c = search rules

pub part-requires : goal.part-requires
part-requires c = search rules

pub slice_bounds-copy-count : goal.slice_bounds-copy-count
slice_bounds-copy-count c = search (rules, writing_fits _ _ _ _ _ _ c.loop-at.invariant)

pub slice_bounds-copy-start : goal.slice_bounds-copy-start
slice_bounds-copy-start c = writing_fits _ _ _ _ _ _ c.loop-at.invariant

pub slice_bounds-copy-end : goal.slice_bounds-copy-end
slice_bounds-copy-end c = search rules

pub copy-requires : goal.copy-requires
copy-requires c = plain_lent _ _ _ _ _ _ c.loop-at.invariant _ c.plain_end-end.ensures _ c.part.ensures.bytes

pub overflow_sub-p : goal.overflow_sub-p
overflow_sub-p c = first_after _ _ _ _ c.plain_end-end.ensures

pub overflow_add-p : goal.overflow_add-p
overflow_add-p c = plain_adds _ _ _ _ _ _ c.loop-at.invariant _ c.plain_end-end.ensures (search rules)

pub shape_of-galley-then-content-end : goal.shape_of-galley-then-content-end
shape_of-galley-then-content-end c = search rules

pub returns-then-content-end : goal.returns-then-content-end
returns-then-content-end c = writing_ends _ _ _ _ _ _ (plain_written _ _ _ _ _ _ c.loop-at.invariant _ c.plain_end-end.ensures _ c.part.ensures.bytes _ c.copy.ensures) c.if-content-end.true

pub overflow_add-end : goal.overflow_add-end
overflow_add-end c = search rules

pub found_at-requires : goal.found_at-requires
found_at-requires c = search rules

pub enum_told-1 : goal.enum_told-1
enum_told-1 c = search rules

pub shape_of-galley-in-Refused : goal.shape_of-galley-in-Refused
shape_of-galley-in-Refused c = search rules

pub returns-in-Refused : goal.returns-in-Refused
returns-in-Refused c = never_refused _ _ _ _ _ _ (plain_written _ _ _ _ _ _ c.loop-at.invariant _ c.plain_end-end.ensures _ c.part.ensures.bytes _ c.copy.ensures) c.if-content-end.false (first_is _ _ _ _ c.plain_end-end.ensures c.loop-at.invariant.within c.if-content-end.false) _ c.found_at.ensures _ c.in-Refused.is

pub enum_known-value : goal.enum_known-value
enum_known-value c = search rules

pub slice_bounds-encode-count : goal.slice_bounds-encode-count
slice_bounds-encode-count c = search (rules, writing_fits _ _ _ _ _ _ (plain_written _ _ _ _ _ _ c.loop-at.invariant _ c.plain_end-end.ensures _ c.part.ensures.bytes _ c.copy.ensures))

pub slice_bounds-encode-start : goal.slice_bounds-encode-start
slice_bounds-encode-start c = writing_fits _ _ _ _ _ _ (plain_written _ _ _ _ _ _ c.loop-at.invariant _ c.plain_end-end.ensures _ c.part.ensures.bytes _ c.copy.ensures)

pub slice_bounds-encode-end : goal.slice_bounds-encode-end
slice_bounds-encode-end c = search rules

pub encode-p-requires : goal.encode-p-requires
encode-p-requires c = search rules

pub overflow_add-p-in-Character : goal.overflow_add-p-in-Character
overflow_add-p-in-Character c = found_adds _ _ _ _ _ _ (plain_written _ _ _ _ _ _ c.loop-at.invariant _ c.plain_end-end.ensures _ c.part.ensures.bytes _ c.copy.ensures) c.if-content-end.false (first_is _ _ _ _ c.plain_end-end.ensures c.loop-at.invariant.within c.if-content-end.false) _ c.found_at.ensures _ _ c.in-Character.is _ _ c.encode-p.ensures (search rules)

pub loop-at-smaller : goal.loop-at-smaller
loop-at-smaller c = search (rules, first_after _ _ _ _ c.plain_end-end.ensures, found_less _ _ _ _ _ _ (plain_written _ _ _ _ _ _ c.loop-at.invariant _ c.plain_end-end.ensures _ c.part.ensures.bytes _ c.copy.ensures) c.if-content-end.false (first_is _ _ _ _ c.plain_end-end.ensures c.loop-at.invariant.within c.if-content-end.false) _ c.found_at.ensures _ _ c.in-Character.is)

pub loop-at-preserved : goal.loop-at-preserved
loop-at-preserved c = found_written _ _ _ _ _ _ (plain_written _ _ _ _ _ _ c.loop-at.invariant _ c.plain_end-end.ensures _ c.part.ensures.bytes _ c.copy.ensures) c.if-content-end.false (first_is _ _ _ _ c.plain_end-end.ensures c.loop-at.invariant.within c.if-content-end.false) _ c.found_at.ensures _ _ c.in-Character.is _ _ c.encode-p.ensures
