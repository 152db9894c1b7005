-- `next` meets its contract. Assumes nothing.
use borrow.Author.Tests.{eq-eqb, ne_eqb}
use borrow.Author.Rules.{rules}
use Rattle.plain.proofs.Parts.{stays}
use Rattle.plain.proofs.known.Part.next.Goals as goal

pub enum_told-1 : goal.enum_told-1
enum_told-1 c = search rules

pub enum_told-in-Opened : goal.enum_told-in-Opened
enum_told-in-Opened c = search rules

pub enum_told-in-Bang : goal.enum_told-in-Bang
enum_told-in-Bang c = search rules

pub returns-in-60 : goal.returns-in-60
returns-in-60 c = simp (c.in-Nothing.is, c.in-60.is)

pub returns-in-38 : goal.returns-in-38
returns-in-38 c = simp (c.in-Nothing.is, c.in-38.is)

pub returns-in_default-b : goal.returns-in_default-b
returns-in_default-b c = simp (c.in-Nothing.is, ne_eqb _ _ c.in_default-b.in_default-b-own.rest.0.1, ne_eqb _ _ c.in_default-b.in_default-b-own.rest.1)

pub returns-in-33 : goal.returns-in-33
returns-in-33 c = simp (c.in-Opened.is, c.in-33.is)

pub returns-in-63 : goal.returns-in-63
returns-in-63 c = simp (c.in-Opened.is, c.in-63.is)

pub returns-in-47 : goal.returns-in-47
returns-in-47 c = simp (c.in-Opened.is, c.in-47.is)

pub returns-in_default-b-2 : goal.returns-in_default-b-2
returns-in_default-b-2 c = simp (c.in-Opened.is, ne_eqb _ _ c.in_default-b-2.in_default-b-2-own.rest.0.0.1, ne_eqb _ _ c.in_default-b-2.in_default-b-2-own.rest.0.1, ne_eqb _ _ c.in_default-b-2.in_default-b-2-own.rest.1)

pub returns-then-b-eq91 : goal.returns-then-b-eq91
returns-then-b-eq91 c = simp (c.in-Bang.is, eq-eqb _ _ c.if-b-eq91.true)

pub returns-else-b-eq91 : goal.returns-else-b-eq91
returns-else-b-eq91 c = simp (c.in-Bang.is, ne_eqb _ _ c.if-b-eq91.false)

pub returns-in_default : goal.returns-in_default
returns-in_default c = stays c.args.self _ c.in_default.not-Nothing c.in_default.not-Opened c.in_default.not-Bang
