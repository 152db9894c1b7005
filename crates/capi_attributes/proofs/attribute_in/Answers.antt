-- `attribute_in` meets its contract. Assumes nothing.
use borrow.Author.Rules.{rules}
use Rattle.capi_attributes.proofs.Answers.{attribute_movable, answers}
use borrow.Author.Rules.{rules}
use Rattle.capi_attributes.proofs.attribute_in.Goals as goal

pub bad-requires : goal.bad-requires
bad-requires c = search answers

pub returns-then-to-from : goal.returns-then-to-from
returns-then-to-from c = search answers

pub bad-requires-then-document-to : goal.bad-requires-then-document-to
bad-requires-then-document-to c = search answers

pub returns-then-document-to : goal.returns-then-document-to
returns-then-document-to c = search answers

pub bad-requires-then-at-from : goal.bad-requires-then-at-from
bad-requires-then-at-from c = search answers

pub returns-then-at-from : goal.returns-then-at-from
returns-then-at-from c = search answers

pub part-requires : goal.part-requires
part-requires c = search answers

pub attribute-item-requires : goal.attribute-item-requires
attribute-item-requires c = search answers

pub values-requires : goal.values-requires
values-requires c = search answers

pub moved-requires : goal.moved-requires
moved-requires c = attribute_movable c.args.document.now _ _ _ c.if-to-from.false c.if-document-to.false _ c.part.ensures.bytes _ _ c.values.result c.values.ensures _
    c.if-at-from.false c.attribute-item.ensures (search rules)

pub returns : goal.returns
returns c = search answers
