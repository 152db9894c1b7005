-- A list of eight, filled. Assumes nothing.
use Rattle.std.proofs.Common.{◌∙◌, ap}
use Rattle.rows.specs.declared.row.Filled.{Filled}
use Rattle.rows.specs.Answers.{count_of}
use Rattle.rows.specs.Rows.{outermost_of, filled_with, no_rows}
use Rattle.rows.proofs.outermost.Goals as goal

pub returns : goal.returns
unfolding outermost_of
returns c = c.open_rows.ensures.rows ∙ ap (λ (f : Filled). filled_with c.args.stack.now (count_of f) no_rows) c.open_rows.ensures.said
