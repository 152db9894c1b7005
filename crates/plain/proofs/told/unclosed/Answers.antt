-- `unclosed` meets its contract. Assumes nothing.
use borrow.Author.Rules.{rules}
use Rattle.plain.specs.Told.{unclosed_of}
use Rattle.plain.proofs.Parts.{no_end}
use Rattle.plain.proofs.told.unclosed.Goals as goal

pub enum_told-1 : goal.enum_told-1
enum_told-1 c = search rules

pub whole-requires : goal.whole-requires
whole-requires c = search rules

pub enum_told-in-Text : goal.enum_told-in-Text
enum_told-in-Text c = search rules

pub whole-requires-in-Text : goal.whole-requires-in-Text
whole-requires-in-Text c = search rules

pub enum_told-in-Reference : goal.enum_told-in-Reference
enum_told-in-Reference c = search rules

pub whole-requires-in-Reference : goal.whole-requires-in-Reference
whole-requires-in-Reference c = search rules

pub enum_told-in-Opened : goal.enum_told-in-Opened
enum_told-in-Opened c = search rules

pub stop-requires : goal.stop-requires
stop-requires c = search rules

pub enum_told-in-Bang : goal.enum_told-in-Bang
enum_told-in-Bang c = search rules

pub stop-requires-in-Bang : goal.stop-requires-in-Bang
stop-requires-in-Bang c = search rules

pub no_closer-requires : goal.no_closer-requires
no_closer-requires c = search rules

pub stop-requires-in_default : goal.stop-requires-in_default
stop-requires-in_default c = search rules

pub returns-in-Nothing : goal.returns-in-Nothing
unfolding unclosed_of
returns-in-Nothing c = simp c.in-Nothing.is c.whole.ensures

pub returns-in-Text : goal.returns-in-Text
unfolding unclosed_of
returns-in-Text c = simp c.in-Text.is c.whole-in-Text.ensures

pub returns-in-Reference : goal.returns-in-Reference
unfolding unclosed_of
returns-in-Reference c = simp c.in-Reference.is c.whole-in-Reference.ensures

pub returns-in-Opened : goal.returns-in-Opened
unfolding unclosed_of
returns-in-Opened c = simp c.in-Opened.is c.stop.ensures

pub returns-in-Bang : goal.returns-in-Bang
unfolding unclosed_of
returns-in-Bang c = simp c.in-Bang.is c.stop-in-Bang.ensures

pub returns-in_default : goal.returns-in_default
unfolding unclosed_of
returns-in_default c =
    let d = c.in_default in
    simp (no_end c.args.reader c.args.known c.args.last c.args.room c.args.known.part d.not-Nothing d.not-Text d.not-Reference d.not-Opened d.not-Bang, ← c.no_closer.ensures) c.stop-in_default.ensures
