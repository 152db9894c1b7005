-- `lead` meets its contract. Assumes nothing.
use mathlib.Core.Path.{sym, ◌∙◌}
use borrow.Author.Rules.{rules}
use native.Mathlib.Omega.{arith}
use Rattle.plain.specs.Letters.{lead}
use Rattle.plain.proofs.Flags.{lead_one, lead_low, lead_two, lead_three, lead_last_three, lead_four, lead_high}
use Rattle.plain.proofs.known.lead.Goals as goal
use Rattle.plain.proofs.known.lead.Goals.{in_default-via-then-b-lt194, in_default-via-else-b-lt194+else-b-lt224+else-b-lt237+else-b-lt240+else-b-lt244}

pub owing-requires : goal.owing-requires
owing-requires c = search rules

pub owing-requires-in-237 : goal.owing-requires-in-237
owing-requires-in-237 c = search rules

pub owing-requires-in-240 : goal.owing-requires-in-240
owing-requires-in-240 c = search rules

pub owing-requires-in-244 : goal.owing-requires-in-244
owing-requires-in-244 c = search rules

pub owing-requires-in-0-to-127 : goal.owing-requires-in-0-to-127
owing-requires-in-0-to-127 c = search rules

pub owing-requires-in-194-to-223 : goal.owing-requires-in-194-to-223
owing-requires-in-194-to-223 c = search rules

pub owing-requires-in-225-to-236 : goal.owing-requires-in-225-to-236
owing-requires-in-225-to-236 c = search rules

pub owing-requires-in-238-to-239 : goal.owing-requires-in-238-to-239
owing-requires-in-238-to-239 c = search rules

pub owing-requires-in-241-to-243 : goal.owing-requires-in-241-to-243
owing-requires-in-241-to-243 c = search rules

pub owing-requires-in_default : goal.owing-requires-in_default
owing-requires-in_default c = search rules

pub returns-in-224 : goal.returns-in-224
unfolding lead
returns-in-224 c = simp c.in-224.is c.owing.ensures

pub returns-in-237 : goal.returns-in-237
unfolding lead
returns-in-237 c = simp c.in-237.is c.owing-in-237.ensures

pub returns-in-240 : goal.returns-in-240
unfolding lead
returns-in-240 c = simp c.in-240.is c.owing-in-240.ensures

pub returns-in-244 : goal.returns-in-244
unfolding lead
returns-in-244 c = simp c.in-244.is c.owing-in-244.ensures

pub returns-in-0-to-127 : goal.returns-in-0-to-127
unfolding lead
returns-in-0-to-127 c = c.owing-in-0-to-127.ensures ∙ sym (lead_one _ _ c.in-0-to-127.if-b-lt128-own.true)

pub returns-in-194-to-223 : goal.returns-in-194-to-223
returns-in-194-to-223 c = c.owing-in-194-to-223.ensures ∙ sym (lead_two _ _ (omega arith) (omega arith))

pub returns-in-225-to-236 : goal.returns-in-225-to-236
returns-in-225-to-236 c = c.owing-in-225-to-236.ensures ∙ sym (lead_three _ _ (omega arith) (omega arith) (λ e. omega arith))

pub returns-in-238-to-239 : goal.returns-in-238-to-239
returns-in-238-to-239 c = c.owing-in-238-to-239.ensures ∙ sym (lead_last_three _ _ (omega arith) (omega arith) (λ e. omega arith))

pub returns-in-241-to-243 : goal.returns-in-241-to-243
returns-in-241-to-243 c = c.owing-in-241-to-243.ensures ∙ sym (lead_four _ _ (omega arith) (omega arith) (λ e. omega arith))

pub returns-in_default : goal.returns-in_default
returns-in_default c =
    c.owing-in_default.ensures
    ∙ sym (elim c.in_default.branch [
      | in_default-via-then-b-lt194 w ↦ lead_low _ _ (omega arith) (omega arith)
      | in_default-via-else-b-lt194+else-b-lt224+else-b-lt237+else-b-lt240+else-b-lt244 w ↦ lead_high _ _ (omega arith) (λ e. omega arith)
    ])
