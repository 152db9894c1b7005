-- `unclosed_tag` meets its contract. Assumes nothing.
use borrow.Author.Rules.{rules}
use Rattle.reader.specs.Cut.{unclosed_tag}
use Rattle.reader.proofs.cut.unclosed_tag.Goals as goal

pub enum_told-1 : goal.enum_told-1
enum_told-1 c = search rules

pub enum_known-found : goal.enum_known-found
enum_known-found c = search rules

pub enum_told-in-Outside : goal.enum_told-in-Outside
enum_told-in-Outside c = search rules

pub enum_told-in-SingleQ : goal.enum_told-in-SingleQ
enum_told-in-SingleQ c = search rules

pub enum_told-in-DoubleQ : goal.enum_told-in-DoubleQ
enum_told-in-DoubleQ c = search rules

pub returns-in-At : goal.returns-in-At
unfolding unclosed_tag
returns-in-At c = simp c.in-At.is

pub returns-in-Outside : goal.returns-in-Outside
unfolding unclosed_tag
returns-in-Outside c = simp (c.in-Outside.is, c.in-Open.is)

pub returns-in-SingleQ : goal.returns-in-SingleQ
unfolding unclosed_tag
returns-in-SingleQ c = simp (c.in-SingleQ.is, c.in-Open.is)

pub returns-in-DoubleQ : goal.returns-in-DoubleQ
unfolding unclosed_tag
returns-in-DoubleQ c = simp (c.in-DoubleQ.is, c.in-Open.is)
