-- `find_in` meets its contract. Assumes nothing.
use Rattle.capi_attributes.proofs.Answers.{answers}
use Rattle.capi_attributes.proofs.find_in.Goals as goal

pub bad-requires : goal.bad-requires
bad-requires c = search answers

pub returns-then-to-from : goal.returns-then-to-from
returns-then-to-from c = search answers

pub bad-requires-then-document-to : goal.bad-requires-then-document-to
bad-requires-then-document-to c = search answers

pub returns-then-document-to : goal.returns-then-document-to
returns-then-document-to c = search answers

pub part-requires : goal.part-requires
part-requires c = search answers

pub find-item-requires : goal.find-item-requires
find-item-requires c = search answers

pub values-requires : goal.values-requires
values-requires c = search answers

pub moved-requires : goal.moved-requires
moved-requires c = search answers

pub returns : goal.returns
returns c = search answers
