-- The way down after calls of the code, over a stack that grows too. Assumes nothing.
use Prim.Native.Nat.{ℕ, zero, suc, ◌+◌, ◌-◌, ◌*◌, ◌≤◌, ◌<◌, min}
use mathlib.Core.Path.{◌≡◌, refl, sym, ap, ap₂, ◌∙◌, subst}
use mathlib.Core.Bool.{Bool, true, false}
use mathlib.Core.Logic.{inl, inr}
use mathlib.Core.List.{List, [], ◌∷◌, ◌++◌, append-nil, reverse}
use native.Mathlib.Omega.{arith}
use lib.ListN.{length, get_or, take, drop, replicate, length-append, length-take, length-reverse, length-replicate, get_or-append}
use lib.Seq.{get_or-take}
use borrow.Author.Tests.{le-leb}
use Rattle.ground.specs.Choose.{pick, all_of}
use Rattle.state.specs.declared.place.Span.{Span}
use Rattle.state.specs.declared.place.Position.{Position}
use Rattle.state.specs.declared.place.Depth.{Depth}
use Rattle.state.specs.declared.config.Config.{Config}
use Rattle.state.specs.Limits.{longest, slots, capacity}
use Rattle.state.specs.Place.{span, depth_of}
use Rattle.state.proofs.Room.{capacity_slots}
use Rattle.state.specs.Make.{fresh}
use Rattle.reader.specs.Names.{entry}
use Rattle.demands.specs.Run.{World, said, run}
use Rattle.demands.specs.Answers.{is_start}
use Rattle.demands.specs.Open.{left_open}
use Rattle.demands.specs.Calls.{Promise, Advances, Calls}
use Rattle.demands.specs.Growing.{Enough, Growing}
use Rattle.demands.proofs.Demand3.{start_adds_its_name, nothing_else_adds, as_many_as_the_depth}
use Rattle.demands.proofs.Held.{written_length, run_held}
use Rattle.demands.proofs.Joined.{what_holds_of_a_run_holds_of_calls}
use Rattle.demands.proofs.Growing.{growing_calls_are_a_run}
use Rattle.demands.proofs.Longer.{capacity_grows}
use Rattle.rows.specs.declared.row.Row.{Row}
use Rattle.rows.specs.declared.row.Given.{Given}
use Rattle.rows.specs.declared.row.Filled.{Filled}
use Rattle.rows.specs.Answers.{count_of}
use Rattle.rows.specs.Rows.{record_of, row_of, plan_of, rows_from, filled_with, Listed}
use Rattle.rows.specs.Words.{numbered, way_down, WayShown}
use Rattle.rows.proofs.Lists.{plan_fits}
use Rattle.rows.proofs.Theorems.{same_in_order, each_record_is_the_one_of_its_depth}
use Rattle.rows.proofs.Way.{numbered_length, the_records_are_the_way_down}

module _ (Kept : Promise) (advances : Advances Kept) (doc stack : List ℕ) (c : Config) where
  -- THEOREM: after any number of calls, the records are the way down that their answers tell
  pub after_calls_the_records_are_the_way_down : {n : ℕ} {w : World} → Calls Kept doc stack c n w → WayShown w
  after_calls_the_records_are_the_way_down {n} calls = what_holds_of_a_run_holds_of_calls Kept advances doc stack c WayShown calls (λ short. the_records_are_the_way_down doc stack c short n)

-- ---- a longer stack

module _ (stack more : List ℕ) (names : Depth) (deep : names.0 ≤ capacity (length stack)) where
  pub still_deep : names.0 ≤ capacity (length (stack ++ more))
  still_deep = omega (arith, length-append stack more, capacity_grows (length stack) (length (stack ++ more)) (omega (arith, length-append stack more)))

  same_entry : (d : ℕ) → d < names.0 → entry stack d ≡ entry (stack ++ more) d
  same_entry d h =
      let room = capacity_slots (length stack) names.0 deep in
      ap₂ span (sym (get_or-append stack more 0 (d * slots) (omega arith))) (sym (get_or-append stack more 0 (d * slots + 1) (omega arith)))

  pub same_rows : (d n : ℕ) → d + n ≤ names.0 → rows_from stack d n ≡ rows_from (stack ++ more) d n
  unfolding rows_from
  same_rows d zero h = refl
  same_rows d (suc n) h = ap₂ (λ (e : Span) (rows : List Row). record_of e (d + 1) ∷ rows) (same_entry d (omega arith)) (same_rows (d + 1) n (omega arith))

  pub same_plan : (position : Position) (room : ℕ) → plan_of stack position names room ≡ plan_of (stack ++ more) position names room
  unfolding plan_of
  same_plan position room =
      ap₂ (λ (t u : Bool). pick (all_of (t ∷ u ∷ [])) (Filled.Rows (min names.0 room)) Filled.BadState)
      (le-leb names.0 (capacity (length stack)) deep ∙ sym (le-leb names.0 (capacity (length (stack ++ more))) still_deep))
      (same_in_order stack (stack ++ more) position (min names.0 room) (λ d h. same_entry d (omega arith)))

  -- THEOREM: over a stack that has room for the names, slots behind it change nothing
  pub slots_behind_the_stack_change_nothing : (position : Position) (list : List Row) (answer : Filled) (list' : List Row)
      → Listed stack position names list answer list' → Listed (stack ++ more) position names list answer list'
  unfolding filled_with
  slots_behind_the_stack_change_nothing position list answer list' p =
      let count : count_of answer ≤ names.0 = omega (arith, ap count_of p.said, plan_fits stack position names (length list)) in
      record {
        said = p.said ∙ same_plan position (length list);
        rows = p.rows ∙ ap (λ (rows : List Row). rows ++ drop (count_of answer) list) (same_rows 0 (count_of answer) (omega arith));
      }

-- lent enough before a call that opens one name at most, the slots lent have room for the names after it
pub deep_after : (lent left back : List ℕ) (before after : ℕ) → Enough lent before back → length left ≡ length lent → after ≤ before + 1
    → after ≤ capacity (length (left ++ back)) → after ≤ capacity (length left)
deep_after lent left back before after (inl room) long h deep = rw long (omega arith)
deep_after lent left back before after (inr all) long h deep =
    subst (λ (l : List ℕ). after ≤ capacity (length l)) (ap (λ (b : List ℕ). left ++ b) all ∙ append-nil left) deep

-- ---- a stack that grows

-- a call opens one name at most
pub one_more_at_most : (doc stack : List ℕ) (c : Config) → length doc ≤ longest → (n : ℕ) → (run doc stack c (suc n)).reader.depth.0 ≤ (run doc stack c n).reader.depth.0 + 1
one_more_at_most doc stack c short n = by (is_start (said doc (run doc stack c n))) refl
  where
    by : (t : Bool) → is_start (said doc (run doc stack c n)) ≡ t → (run doc stack c (suc n)).reader.depth.0 ≤ (run doc stack c n).reader.depth.0 + 1
    by true e = omega (arith, as_many_as_the_depth doc stack c short n, as_many_as_the_depth doc stack c short (suc n), ap length (start_adds_its_name doc stack c short n e))
    by false e = elim (nothing_else_adds doc stack c short n e) [
      | inl x ↦ omega (arith, as_many_as_the_depth doc stack c short n, as_many_as_the_depth doc stack c short (suc n), ap length x)
      | inr x ↦ omega (arith, as_many_as_the_depth doc stack c short n, as_many_as_the_depth doc stack c short (suc n), ap length x)
    ]

module _ (Kept : Promise) (advances : Advances Kept) (doc stack : List ℕ) (c : Config) where
  -- the slots lent so far have room for the names
  lent_deep : {back : List ℕ} {n : ℕ} {w : World} → Growing Kept doc stack c back n w → w.reader.depth.0 ≤ capacity (length w.stack)
  unfolding run fresh
  lent_deep (Growing.none lent back r whole e) =
      let runs = growing_calls_are_a_run Kept advances doc stack c (Growing.none lent back r whole e) in
      omega (arith, ap (λ (w : World). w.reader.depth.0) runs.1)
  lent_deep (Growing.lend {n} {w} added back before) = still_deep w.stack added w.reader.depth (lent_deep before)
  lent_deep (Growing.more {back} {n} {w} {answer} {reader} {left} before enough k) =
      let was = growing_calls_are_a_run Kept advances doc stack c before in
      let runs = growing_calls_are_a_run Kept advances doc stack c (Growing.more before enough k) in
      let long : length left ≡ length w.stack = ap length (advances doc _ _ answer reader left k).slots ∙ written_length (said doc w) w.stack w.reader.depth.0 in
      let next : reader.depth.0 ≤ w.reader.depth.0 + 1 = omega (arith, ap (λ (x : World). x.reader.depth.0) was.1, ap (λ (x : World). x.reader.depth.0) runs.1, one_more_at_most doc stack c was.0 n) in
      deep_after w.stack left back w.reader.depth.0 reader.depth.0 enough long next
      (subst (λ (x : World). x.reader.depth.0 ≤ capacity (length x.stack)) (sym runs.1) (run_held doc c was.0 stack (suc n)).deep)

  -- THEOREM: so too where the stack grows: a list that is lent between two calls, with the slots lent so far, shows the way down
  pub after_growing_calls_the_records_are_the_way_down : {back : List ℕ} {n : ℕ} {w : World} → Growing Kept doc stack c back n w → WayShown w
  after_growing_calls_the_records_are_the_way_down {back} {n} {w} calls list answer list' p =
      let runs = growing_calls_are_a_run Kept advances doc stack c calls in
      let all = slots_behind_the_stack_change_nothing w.stack back w.reader.depth (lent_deep calls) w.reader.position list answer list' p in
      subst WayShown (sym runs.1) (the_records_are_the_way_down doc stack c runs.0 n) list answer list' all

-- ---- one record

-- THEOREM: where lists show the way down, so does one record by its depth: from 1 to the names open none is refused, and each is that of the way down
pub where_lists_show_the_way_so_does_a_record : (w : World) → WayShown w → (depth : Depth) (any : Row) → 1 ≤ depth.0 → depth.0 ≤ length (left_open w.answers)
    → row_of w.stack w.reader.position w.reader.depth depth ≡ Given.Row (get_or (way_down w.answers) (depth.0 - 1) any)
unfolding way_down
where_lists_show_the_way_so_does_a_record w shown depth any some below =
    let list : List Row = replicate depth.0 any in
    let i : ℕ = depth.0 - 1 in
    let up : depth_of (i + 1) ≡ depth = ap depth_of (omega arith) in
    let long = length-replicate depth.0 any in
    let way : List Row = numbered 1 (reverse (left_open w.answers)) in
    let whole : length way ≡ length (left_open w.answers) = numbered_length 1 (reverse (left_open w.answers)) ∙ length-reverse (left_open w.answers) in
    let p : Listed w.stack w.reader.position w.reader.depth list _ _ = record { said = refl; rows = refl } in
    let s = shown list _ _ p in
    let e = each_record_is_the_one_of_its_depth w.stack w.reader.position w.reader.depth list _ _ p i any (omega (arith, ap count_of s.count, long)) in
    ap (row_of w.stack w.reader.position w.reader.depth) (sym up)
    ∙ e
    ∙ ap Given.Row
    (ap (λ (l : List Row). get_or l i any) s.rows
    ∙ get_or-append (take (length list) way) (drop (length (left_open w.answers)) list) any i (omega (arith, length-take (length list) way, long, whole))
    ∙ get_or-take (length list) way i any (omega (arith, long)))
