-- What whoever calls knows of one record and of a list, from their promises alone. Assumes nothing.
use Prim.Native.Nat.{ℕ, zero, suc, ◌+◌, ◌-◌, ◌≤◌, ◌<◌, min}
use mathlib.Core.Path.{◌≡◌, refl, sym, ap, ap₂, ◌∙◌}
use mathlib.Core.Bool.{Bool, true, false, not}
use mathlib.Core.Logic.{◌↔◌}
use mathlib.Core.List.{List, [], ◌∷◌, ◌++◌}
use native.Mathlib.Omega.{arith}
use native.Mathlib.Decide.{dec_lt}
use lib.ListN.{length, get_or, drop, get_or-append}
use lib.Seq.{get_or-append-add, get_or-drop}
use lib.Dec.{leb}
use borrow.Author.Tests.{le-leb, leb-true}
use Rattle.ground.specs.Choose.{pick, all_of}
use Rattle.ground.proofs.Choices.{clash, must_fail, not_true, not_false, both}
use Rattle.state.specs.declared.place.Span.{Span}
use Rattle.state.specs.declared.place.Position.{Position}
use Rattle.state.specs.declared.place.Depth.{Depth}
use Rattle.state.specs.Limits.{capacity}
use Rattle.state.specs.Place.{depth_of}
use Rattle.reader.specs.Names.{entry}
use Rattle.rows.specs.declared.row.Row.{Row}
use Rattle.rows.specs.declared.row.Given.{Given}
use Rattle.rows.specs.declared.row.Filled.{Filled}
use Rattle.rows.specs.Answers.{count_of}
use Rattle.rows.specs.Rows.{row_at, in_order, all_in_order, row_of, plan_of, rows_from, filled_with, Listed, no_rows, outermost_of}
use Rattle.rows.specs.Words.{Ordered, RefusesOne, RefusesAll, over_capacity, at_nought, above_the_names, out_of_order}
use Rattle.rows.proofs.Records.{one_over, one_outside, one_above, one_disordered, one_given, one_shows, not_given, one_out_of_order, plan_over, plan_disordered, plan_all}
use Rattle.rows.proofs.Lists.{plan_gives, plan_fits, rows_length, row_there, filled_length}

-- ---- the test of an entry, in words

module _ (stack : List ℕ) (position : Position) (d : ℕ) where
  ordered_passes : Ordered stack position d → in_order stack position d ≡ true
  ordered_passes o = rw (le-leb _ _ o.ordered, le-leb _ _ o.behind) refl

  pub passed_ordered : in_order stack position d ≡ true → Ordered stack position d
  passed_ordered e =
      let t = both (leb (entry stack d).from (entry stack d).to) _ e in
      record { ordered = leb-true _ _ t.0; behind = leb-true _ _ (both (leb (entry stack d).to position.0) true t.1).0 }

  disordered : (Ordered stack position d → ⊥) → in_order stack position d ≡ false
  disordered n = must_fail (in_order stack position d) (λ e. n (passed_ordered e))

not_a_count : (n : ℕ) → Filled.Rows n ≡ Filled.BadState → ⊥
not_a_count n e = let z : ◌≡◌ {A = ℕ} 0 1 = cc in omega arith

module _ (stack : List ℕ) (position : Position) (names : Depth) where
  -- ---- one record

  module _ (depth : Depth) where
    why : row_of stack position names depth ≡ Given.BadState → RefusesOne stack position names depth
    why e =
        elim (dec_lt (capacity (length stack)) names.0) [
          | yes h ↦ over_capacity h
          | no h ↦ elim (dec_lt 0 depth.0) [
            | no k ↦ at_nought (omega arith)
            | yes k ↦ elim (dec_lt names.0 depth.0) [
              | yes l ↦ above_the_names l
              | no l ↦ out_of_order (λ o.
                  not_given _ (sym (one_given stack position names depth (omega arith) (omega arith) (omega arith) (ordered_passes stack position (depth.0 - 1) o)) ∙ e))
            ]
          ]
        ]

    because : RefusesOne stack position names depth → row_of stack position names depth ≡ Given.BadState
    because (over_capacity h) = sym (one_over stack position names depth (depth_of (capacity (length stack))) refl h)
    because (at_nought e) = sym (one_outside stack position names depth e)
    because (above_the_names h) = sym (one_above stack position names depth h)
    because (out_of_order n) = sym (one_disordered stack position names depth (disordered stack position (depth.0 - 1) n))

    -- THEOREM: one record is refused exactly where a reason is there
    pub one_is_refused_exactly_where : (row_of stack position names depth ≡ Given.BadState) ↔ RefusesOne stack position names depth
    one_is_refused_exactly_where = (why, because)

    -- THEOREM: one that is given has the start and the end of its entry, and its depth
    pub a_record_is_its_entry : (row : Row) → row_of stack position names depth ≡ Given.Row row
        → (row.start.0 ≡ (entry stack (depth.0 - 1)).from) × (row.end.0 ≡ (entry stack (depth.0 - 1)).to) × (row.depth ≡ depth)
    a_record_is_its_entry row e =
        let t = one_shows stack position names depth row e in
        let up : depth.0 - 1 + 1 ≡ depth.0 = omega (arith, t.above) in
        (ap (λ (r : Row). r.start.0) (sym t.same), ap (λ (r : Row). r.end.0) (sym t.same), ap (λ (r : Row). r.depth) (sym t.same) ∙ ap depth_of up)

  -- ---- how many

  -- where not all of the first n are in order, there is one that is not
  a_bad_one : (n : ℕ) → all_in_order stack position n ≡ false → (d : ℕ) × (d < n) × (in_order stack position d ≡ false)
  unfolding all_in_order
  a_bad_one zero e = clash true refl e
  a_bad_one (suc n) e = by (all_in_order stack position n) (in_order stack position n) refl refl (a_bad_one n) e
    where
      by : (t u : Bool) → all_in_order stack position n ≡ t → in_order stack position n ≡ u
          → (all_in_order stack position n ≡ false → (d : ℕ) × (d < n) × (in_order stack position d ≡ false))
          → pick t (pick u true false) false ≡ false → (d : ℕ) × (d < suc n) × (in_order stack position d ≡ false)
      by false u f g before h = let x = before f in (x.0, omega (arith, x.1), x.2)
      by true false f g before h = (n, omega arith, g)
      by true true f g before h = clash true refl h

  module _ (room : ℕ) where
    why_all : plan_of stack position names room ≡ Filled.BadState → RefusesAll stack position names room
    why_all e =
        elim (dec_lt (capacity (length stack)) names.0) [
          | yes h ↦ over_capacity h
          | no h ↦
              let bad = a_bad_one (min names.0 room) (must_fail (all_in_order stack position (min names.0 room))
              (λ t. not_a_count _ (plan_all stack position names room (omega arith) t ∙ e))) in
              out_of_order bad.0 (omega (arith, bad.1)) (omega (arith, bad.1)) (λ o. clash _ (ordered_passes stack position bad.0 o) bad.2)
        ]

    because_all : RefusesAll stack position names room → plan_of stack position names room ≡ Filled.BadState
    because_all (over_capacity h) = sym (plan_over stack position names room (depth_of (capacity (length stack))) refl h)
    because_all (out_of_order d h k n) =
        sym (plan_disordered stack position names room (one_out_of_order stack position (min names.0 room) d (omega arith) (disordered stack position d n)))

    -- THEOREM: a list is refused exactly where a reason is there: of the entries, those of the records to be filled count and no others
    pub a_list_is_refused_exactly_where : (plan_of stack position names room ≡ Filled.BadState) ↔ RefusesAll stack position names room
    a_list_is_refused_exactly_where = (why_all, because_all)

    -- THEOREM: else "the lesser of names open and room" is answered
    pub else_the_lesser_of_names_and_room : (RefusesAll stack position names room → ⊥) → plan_of stack position names room ≡ Filled.Rows (min names.0 room)
    else_the_lesser_of_names_and_room n =
        elim (dec_lt (capacity (length stack)) names.0) [
          | yes h ↦ absurd (n (over_capacity h))
          | no h ↦ sym (plan_all stack position names room (omega arith) (not_false _ (must_fail (not (all_in_order stack position (min names.0 room))) (λ f. n (why_all (sym (plan_disordered stack position names room (not_true _ f))))))))
        ]

pub same_in_order : (stack other : List ℕ) (position : Position) (n : ℕ) → ((d : ℕ) → d < n → entry stack d ≡ entry other d) → all_in_order stack position n ≡ all_in_order other position n
unfolding all_in_order
same_in_order stack other position zero same = refl
same_in_order stack other position (suc n) same =
    ap₂ (λ (t : Bool) (e : Span). all_of (t ∷ all_of (leb e.from e.to ∷ leb e.to position.0 ∷ []) ∷ []))
    (same_in_order stack other position n (λ d h. same d (omega arith))) (same n (omega arith))

-- THEOREM: entries that are not read do not count: with the same entries in the places read, and as many slots, the answer is the same
pub what_is_not_read_does_not_count : (stack other : List ℕ) (position : Position) (names : Depth) (room : ℕ) → length stack ≡ length other
    → ((d : ℕ) → d < names.0 → d < room → entry stack d ≡ entry other d) → plan_of stack position names room ≡ plan_of other position names room
unfolding plan_of
what_is_not_read_does_not_count stack other position names room long same =
    rw (long, same_in_order stack other position (min names.0 room) (λ d h. same d (omega arith) (omega arith))) refl

-- ---- every record of a list

module _ (stack : List ℕ) (position : Position) (names : Depth) (list : List Row) (answer : Filled) (list' : List Row) (p : Listed stack position names list answer list') where
  counted : count_of answer ≤ length list
  counted = omega (arith, ap count_of p.said, plan_fits stack position names (length list))

  -- THEOREM: there are as many records as before
  pub as_many_records_as_before : length list' ≡ length list
  as_many_records_as_before = ap length p.rows ∙ filled_length stack (count_of answer) list counted

  -- THEOREM: each that was filled is the one of its depth, the first at depth 1
  pub each_record_is_the_one_of_its_depth : (i : ℕ) (any : Row) → i < count_of answer → row_of stack position names (depth_of (i + 1)) ≡ Given.Row (get_or list' i any)
  unfolding filled_with
  each_record_is_the_one_of_its_depth i any h =
      let front : List Row = rows_from stack 0 (count_of answer) in
      let there : get_or list' i any ≡ row_at stack i =
      ap (λ (l : List Row). get_or l i any) p.rows
      ∙ get_or-append front (drop (count_of answer) list) any i (omega (arith, rows_length stack 0 (count_of answer)))
      ∙ row_there stack (count_of answer) i any h in
      plan_gives stack position names (length list) i (omega (arith, ap count_of p.said)) ∙ ap Given.Row (sym there)

  -- THEOREM: "records beyond stay as they were"
  pub records_beyond_stay : (i : ℕ) (any : Row) → count_of answer ≤ i → get_or list' i any ≡ get_or list i any
  unfolding filled_with
  records_beyond_stay i any h =
      let long = rows_length stack 0 (count_of answer) in
      let back : length (rows_from stack 0 (count_of answer)) + (i - count_of answer) ≡ i = omega arith in
      let there : count_of answer + (i - count_of answer) ≡ i = omega arith in
      ap (λ (l : List Row). get_or l i any) p.rows
      ∙ ap (λ (k : ℕ). get_or (rows_from stack 0 (count_of answer) ++ drop (count_of answer) list) k any) (sym back)
      ∙ get_or-append-add (rows_from stack 0 (count_of answer)) (drop (count_of answer) list) (i - count_of answer) any
      ∙ get_or-drop (count_of answer) list (i - count_of answer) any
      ∙ ap (λ (k : ℕ). get_or list k any) there

  -- THEOREM: 17 changes no record
  pub a_refusal_changes_no_record : answer ≡ Filled.BadState → list' ≡ list
  unfolding filled_with rows_from
  a_refusal_changes_no_record e = p.rows ∙ ap (λ (f : Filled). filled_with stack (count_of f) list) e

  -- THEOREM: a second answer and a second list that meet the promise are the first
  pub only_one : (answer'' : Filled) (list'' : List Row) → Listed stack position names list answer'' list'' → (answer ≡ answer'') × (list' ≡ list'')
  only_one answer'' list'' q =
      let same : answer ≡ answer'' = p.said ∙ sym q.said in
      (same, p.rows ∙ ap (λ (f : Filled). filled_with stack (count_of f) list) same ∙ sym q.rows)

-- THEOREM: the eight records by value are a list that was filled, so all of the above holds of them
pub the_outermost_are_a_list : (stack : List ℕ) (position : Position) (names : Depth) → Listed stack position names no_rows (plan_of stack position names 8) (outermost_of stack position names)
unfolding outermost_of
the_outermost_are_a_list stack position names = record { said = refl; rows = refl }
