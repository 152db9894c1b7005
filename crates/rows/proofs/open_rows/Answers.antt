-- What the plan says of each record, and a record more. Assumes nothing.
use Rattle.std.proofs.Common.{◌≡◌, ℕ, ◌<◌, length, arith, sym, ap, ◌∙◌}
use mathlib.Core.List.{List}
use lib.ListN.{set}
use Rattle.rows.specs.declared.row.Given.{Given}
use Rattle.rows.specs.declared.row.Row.{Row}
use Rattle.rows.specs.Answers.{count_of}
use Rattle.rows.specs.Rows.{row_at, plan_of, filled_with}
use Rattle.rows.proofs.Lists.{plan_gives, plan_fits, filled_more, filled_none}
use Rattle.rows.proofs.open_rows.Goals as goal
use Rattle.rows.proofs.open_rows.Goals.{in-Row, in_default}

pub loop-i-init : goal.loop-i-init
loop-i-init c = (omega arith, sym (filled_none c.args.stack.now c.args.list.now))

pub bounds-list-i : goal.bounds-list-i
bounds-list-i c =
    let e = c.count-count.ensures ∙ ap count_of c.plan-filled.ensures in
    omega (arith, e, plan_fits c.args.stack.now c.args.position c.args.names (length c.args.list.now))

pub offset_bounds-list-i : goal.offset_bounds-list-i
offset_bounds-list-i c =
    let e = c.count-count.ensures ∙ ap count_of c.plan-filled.ensures in
    let i : c.loop-i.i < length c.loop-i.list = omega (arith, e, plan_fits c.args.stack.now c.args.position c.args.names (length c.args.list.now)) in
    omega arith

pub loop-i-preserved : goal.loop-i-preserved
loop-i-preserved c =
    let s = c.args.stack.now in
    let p = c.args.position in
    let n = c.args.names in
    let i = c.loop-i.i in
    let l = c.args.list.now in
    let e = c.count-count.ensures ∙ ap count_of c.plan-filled.ensures in
    let below : i < count_of (plan_of s p n (length l)) = omega (arith, e) in
    let room : i < length l = omega (arith, plan_fits s p n (length l)) in
    let given : c.open_row.result ≡ Given.Row (row_at s i) = c.open_row.ensures ∙ plan_gives s p n (length l) i below in (
      omega arith,
      elim c.match-open_row.branch [
        | in-Row w ↦
            let one : w.in-Row.row ≡ row_at s i = cc (w.in-Row.is, given) in
            w.list-is ∙ ap (λ (row : Row). set c.loop-i.list i row) one ∙ ap (λ (rows : List Row). set rows i (row_at s i)) c.loop-i.invariant.1 ∙ filled_more s i l room
        | in_default w ↦ absurd (w.in_default.not-Row _ given)
      ],
    )

pub returns : goal.returns
returns c =
    let s = c.args.stack.now in
    let l = c.args.list.now in
    let all : c.loop-i.i ≡ count_of c.plan-filled.result = omega (arith, c.count-count.ensures) in
    record { said = c.plan-filled.ensures; rows = c.loop-i.invariant.1 ∙ ap (λ (i : ℕ). filled_with s i l) all }
