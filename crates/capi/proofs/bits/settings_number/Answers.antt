-- `settings_number` meets its contract. Assumes nothing.
use borrow.Author.Rules.{rules}
use Rattle.capi.specs.Numbers.{settings_number}
use Rattle.capi.proofs.bits.settings_number.Goals as goal

pub weigh-amp-requires : goal.weigh-amp-requires
weigh-amp-requires c = search rules

pub weigh-ends-requires : goal.weigh-ends-requires
weigh-ends-requires c = search rules

pub weigh-comments-requires : goal.weigh-comments-requires
weigh-comments-requires c = search rules

pub weigh-names-requires : goal.weigh-names-requires
weigh-names-requires c = search rules

pub weigh-empty-requires : goal.weigh-empty-requires
weigh-empty-requires c = search rules

pub weigh-closing-requires : goal.weigh-closing-requires
weigh-closing-requires c = search rules

pub weigh-start-requires : goal.weigh-start-requires
weigh-start-requires c = search rules

pub weigh-end-requires : goal.weigh-end-requires
weigh-end-requires c = search rules

pub weigh-open-requires : goal.weigh-open-requires
weigh-open-requires c = search rules

pub overflow_add-result : goal.overflow_add-result
overflow_add-result c = search rules

pub overflow_add-result-2 : goal.overflow_add-result-2
overflow_add-result-2 c = search rules

pub overflow_add-result-3 : goal.overflow_add-result-3
overflow_add-result-3 c = search rules

pub overflow_add-result-4 : goal.overflow_add-result-4
overflow_add-result-4 c = search rules

pub overflow_add-result-5 : goal.overflow_add-result-5
overflow_add-result-5 c = search rules

pub overflow_add-result-6 : goal.overflow_add-result-6
overflow_add-result-6 c = search rules

pub overflow_add-result-7 : goal.overflow_add-result-7
overflow_add-result-7 c = search rules

pub overflow_add-result-8 : goal.overflow_add-result-8
overflow_add-result-8 c = search rules

pub returns : goal.returns
unfolding settings_number
returns c = search rules
