-- After a host's calls its rows are the way down. Assumes nothing.
use Prim.Native.Nat.{ℕ, suc, ◌+◌, ◌-◌, ◌*◌, ◌/◌, ◌≤◌, min}
use mathlib.Core.Path.{◌≡◌, refl, sym, ap, ◌∙◌}
use mathlib.Core.List.{List, ◌∷◌, ◌++◌}
use native.Mathlib.Omega.{arith}
use lib.ListN.{length, get_or, take, drop}
use lib.Seq.{get_or-take}
use Rattle.ground.proofs.Choices.{pick_nlt}
use Rattle.state.specs.declared.place.Depth.{Depth}
use Rattle.state.specs.declared.answer.Answer.{Answer}
use Rattle.state.specs.declared.run.Reader.{Reader}
use Rattle.state.specs.Limits.{longest, capacity}
use Rattle.state.specs.Make.{fresh}
use Rattle.state.specs.Place.{depth_of}
use Rattle.reader.specs.Step.{step}
use Rattle.demands.specs.Run.{World, run}
use Rattle.demands.proofs.Held.{written_length, run_held}
use Rattle.rows.specs.declared.row.Row.{Row}
use Rattle.rows.specs.declared.row.Filled.{Filled}
use Rattle.rows.specs.declared.row.Given.{Given}
use Rattle.rows.specs.Answers.{given_number, filled_number, count_of}
use Rattle.rows.specs.Rows.{row_at, row_of, plan_of, rows_from}
use Rattle.rows.specs.Words.{way_down}
use Rattle.rows.proofs.Calls.{still_deep, same_plan, same_rows, deep_after, one_more_at_most}
use Rattle.rows.proofs.Lists.{plan_gives, row_there}
use Rattle.rows.proofs.Way.{no_list_is_refused, as_many_open, the_first_rows}
use Rattle.capi.specs.declared.slots.Held.{Held}
use Rattle.capi.specs.Numbers.{config_of, held_of}
use Rattle.capi.specs.Calls.{lent_to, stack_to}
use Rattle.capi.specs.Hosts.{Host, names_open, Follows}
use Rattle.capi.specs.Growing.{host_lending, HostGrowing}
use Rattle.capi.proofs.Growing.{a_growing_host's_calls_are_a_run}
use Rattle.capi.proofs.Rounds.{holds}
use Rattle.capi_rows.specs.Rows.{state_slots, row_slots, filled_slots, position_in, names_in, row_put, numbers_of, filled_with, row_in, row_left, RowTold, filled_in, RowsTold}
use Rattle.ways.specs.Hosts.{filled_for, WayTold, StepTold}

-- the slots of a state that holds a reader
module _ (state : List ℕ) (r : Reader) (held : held_of state ≡ Held.Reader r) where
  state_long : state_slots ≤ length state
  state_long = (holds state r held).0

  position_is : position_in state ≡ r.position
  position_is = ap (λ (x : Reader). x.position) (holds state r held).3

  names_are : names_in state ≡ r.depth
  names_are = ap (λ (x : Reader). x.depth) (holds state r held).3

-- a call leaves as many slots of the stack
stack_length : (doc stack : List ℕ) (x : Held) → length (stack_to doc stack x) ≡ length stack
stack_length doc stack (Held.Reader r) = written_length (step doc stack r).answer stack r.depth.0
stack_length doc stack Held.Nothing = refl

module _ (doc stack : List ℕ) (settings : ℕ) where
  -- the run that a host follows
  abbrev ran : ℕ → World
  ran n = run doc stack (config_of settings) n

  depth_is : {back : List ℕ} {n : ℕ} {h : Host} → HostGrowing doc stack settings back n h → names_open h ≡ (ran n).reader.depth.0
  depth_is {back} {n} {h} calls = ap (λ (d : Depth). d.0) (names_are h.state (ran n).reader (a_growing_host's_calls_are_a_run doc stack settings calls).1.state)

  -- the slots lent so far have room for the names
  lent_deep : {back : List ℕ} {n : ℕ} {h : Host} → HostGrowing doc stack settings back n h → names_open h ≤ capacity (length h.stack)
  unfolding run fresh
  lent_deep (HostGrowing.none lent back whole o) = omega (arith, depth_is (HostGrowing.none lent back whole o))
  lent_deep (HostGrowing.lend {n} {h} added back before) = still_deep h.stack added (depth_of (names_open h)) (lent_deep before)
  lent_deep (HostGrowing.more {back} {n} {h} {answer} {number} {stack'} {state'} {answer'} before enough room called) =
      let now = HostGrowing.more before enough room called in
      let runs = a_growing_host's_calls_are_a_run doc stack settings now in
      let after : ℕ = get_or state' 2 0 in
      let next : after ≤ names_open h + 1 = omega (arith, depth_is before, depth_is now, one_more_at_most doc stack (config_of settings) runs.0 n) in
      deep_after h.stack stack' back (names_open h) after enough (ap length called.names ∙ stack_length doc h.stack (lent_to h.state answer)) next
      (rw (depth_is now, runs.1.stack) (run_held doc (config_of settings) runs.0 stack (suc n)).deep)

  module _ {back : List ℕ} {n : ℕ} {h : Host} (calls : HostGrowing doc stack settings back n h) where
    abbrev r : Reader
    r = (ran n).reader

    abbrev told : List Answer
    told = (ran n).answers

    follows : (length doc ≤ longest) × Follows (ran n) (host_lending h back)
    follows = a_growing_host's_calls_are_a_run doc stack settings calls

    deep : r.depth.0 ≤ capacity (length h.stack)
    deep = omega (arith, depth_is calls, lent_deep calls)

    -- the plan over the slots lent so far, and as the host's state has it
    plan_is : (room : ℕ) → plan_of h.stack r.position r.depth room ≡ Filled.Rows (min r.depth.0 room)
    plan_is room =
        same_plan h.stack back r.depth deep r.position room
        ∙ ap (λ (l : List ℕ). plan_of l r.position r.depth room) follows.1.stack
        ∙ no_list_is_refused doc stack (config_of settings) follows.0 n room

    planned : (room : ℕ) → filled_in h.stack h.state room ≡ Filled.Rows (min r.depth.0 room)
    unfolding filled_in
    planned room =
        sym (pick_nlt _ _ _ _ _ (state_long h.state r follows.1.state) refl)
        ∙ rw (position_is h.state r follows.1.state, names_are h.state r follows.1.state)
        (plan_is room)

    first : (room : ℕ) → rows_from h.stack 0 (min r.depth.0 room) ≡ take room (way_down told)
    first room =
        same_rows h.stack back r.depth deep 0 (min r.depth.0 room) (omega arith)
        ∙ ap (λ (l : List ℕ). rows_from l 0 (min r.depth.0 room)) follows.1.stack
        ∙ the_first_rows doc stack (config_of settings) follows.0 n room

    -- THEOREM: after a host's calls, over a stack that grows too, `sporebasket_open_rows` with room for its answer is never refused, and its rows are the way down that the
    -- answers tell
    pub a_host's_rows_are_the_way_down : (slots answer : List ℕ) (number : ℕ) (slots' answer' : List ℕ) → filled_slots ≤ length answer
        → RowsTold h.stack h.state slots answer number slots' answer' → WayTold told slots answer number slots' answer'
    unfolding filled_with
    a_host's_rows_are_the_way_down slots answer number slots' answer' room p =
        let many : ℕ = length slots / row_slots in
        let names = as_many_open doc stack (config_of settings) follows.0 n in
        let count : count_of (filled_in h.stack h.state many) ≡ filled_for told slots = ap count_of (planned many) ∙ ap (λ (d : ℕ). min d many) names in
        let rows : rows_from h.stack 0 (filled_for told slots) ≡ take many (way_down told) = ap (λ (d : ℕ). rows_from h.stack 0 (min d many)) (sym names) ∙ first many in
        record {
          said = p.said ∙ sym (pick_nlt _ _ _ _ _ room refl) ∙ ap filled_number (planned many);
          rows =
              p.rows
              ∙ sym (pick_nlt _ _ _ _ _ room refl)
              ∙ ap (λ (k : ℕ). filled_with h.stack k slots) count
              ∙ ap (λ (rs : List Row). numbers_of rs ++ drop (filled_for told slots * row_slots) slots) rows;
          count = p.count ∙ sym (pick_nlt _ _ _ _ _ room refl) ∙ ap (λ (k : ℕ). k ∷ drop filled_slots answer) count;
        }

    -- THEOREM: and `sporebasket_open_row`, with room for a row and a depth from 1 to the names open, writes that row of the way down
    pub a_host's_row_is_that_of_the_way_down : (depth : ℕ) (slots : List ℕ) (number : ℕ) (slots' : List ℕ) → row_slots ≤ length slots → 1 ≤ depth → depth ≤ names_open h
        → RowTold h.stack h.state depth slots number slots' → StepTold told (depth - 1) slots number slots'
    unfolding row_in
    a_host's_row_is_that_of_the_way_down depth slots number slots' room some below p =
        let names = depth_is calls in
        let up : depth - 1 + 1 ≡ depth = omega arith in
        let given : row_in h.stack h.state depth slots ≡ Given.Row (row_at h.stack (depth - 1)) =
        sym (pick_nlt _ _ _ _ _ room (pick_nlt _ _ _ _ _ (state_long h.state r follows.1.state) refl))
        ∙ rw (position_is h.state r follows.1.state, names_are h.state r follows.1.state)
        (ap (λ (d : ℕ). row_of h.stack r.position r.depth (depth_of d)) (sym up)
        ∙ plan_gives h.stack r.position r.depth depth (depth - 1) (omega (arith, ap count_of (plan_is depth)))) in
        record {
          said = p.said ∙ ap given_number given;
          row = λ any.
              let there : row_at h.stack (depth - 1) ≡ get_or (way_down told) (depth - 1) any =
              sym (row_there h.stack (min r.depth.0 depth) (depth - 1) any (omega arith))
              ∙ ap (λ (rows : List Row). get_or rows (depth - 1) any) (first depth)
              ∙ get_or-take depth (way_down told) (depth - 1) any (omega arith) in
              p.row ∙ ap (row_left slots) given ∙ ap (row_put slots 0) there;
        }
