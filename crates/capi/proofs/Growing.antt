-- A host's calls over a stack that grows are calls over one that is lent whole from the start. Assumes nothing.
use Prim.Native.Nat.{ℕ, zero, suc, ◌≤◌, ◌<◌}
use mathlib.Core.Path.{◌≡◌, refl, sym, ap, ◌∙◌, subst}
use mathlib.Core.Bool.{Bool, true, false}
use mathlib.Core.Logic.{inl, inr}
use mathlib.Core.List.{List, [], ◌++◌, append-nil, append_assoc}
use native.Mathlib.Omega.{arith}
use lib.ListN.{length, get_or, replicate}
use lib.Dec.{ltb}
use borrow.Author.Tests.{ltb-true}
use Rattle.ground.proofs.Choices.{pick_nlt}
use Rattle.state.specs.declared.run.Reader.{Reader}
use Rattle.state.specs.declared.run.Made.{Made}
use Rattle.state.specs.declared.run.Step.{Step}
use Rattle.state.specs.Limits.{longest, capacity}
use Rattle.state.specs.Make.{fresh, made}
use Rattle.state.specs.Values.{values_of}
use Rattle.demands.specs.Run.{run}
use Rattle.demands.specs.Growing.{Enough}
use Rattle.demands.proofs.Longer.{a_call_with_room_is_the_same_over_a_longer_stack}
use Rattle.capi.specs.declared.slots.Held.{Held}
use Rattle.capi.specs.Numbers.{config_of, mark_slot, state_numbers, values_numbers, answer_slots}
use Rattle.capi.specs.Slots.{put}
use Rattle.capi.specs.Calls.{made_number, lent_to, Called}
use Rattle.capi.specs.Hosts.{Host, HostCalls, none, more, names_open, Follows}
use Rattle.capi.specs.Growing.{host_lending, HostGrowing}
use Rattle.capi.proofs.Rounds.{holds}
use Rattle.capi.proofs.Runs.{lent_holds}
use Rattle.capi.proofs.Hosts.{a_host's_calls_are_a_run}

module _ (doc stack state answer : List ℕ) (number : ℕ) (stack' state' answer' : List ℕ) where
  -- THEOREM: whatever the state, a call on a stack with room for one more name than the state's third slot says tells the same and leaves the same state as on a
  -- longer one; the slots it has more stay as they are
  pub a_host's_call_with_room_is_the_same_over_a_longer_stack : (added : List ℕ) → get_or state 2 0 < capacity (length stack)
      → Called doc stack state answer number stack' state' answer' → Called doc (stack ++ added) state answer number (stack' ++ added) state' answer'
  a_host's_call_with_room_is_the_same_over_a_longer_stack added room c = by (lent_to state answer) refl
    where
      by : (h : Held) → lent_to state answer ≡ h → Called doc (stack ++ added) state answer number (stack' ++ added) state' answer'
      by (Held.Reader r) k =
          let depth : get_or state 2 0 ≡ r.depth.0 = ap (λ (x : Reader). x.depth.0) (holds state r (lent_holds state answer r k)).3 in
          let same = a_call_with_room_is_the_same_over_a_longer_stack doc stack added r (rw depth at room) in
          record {
            said = c.said ∙ rw k (ap (λ (s : Step). (values_of s.answer).number) (sym same.0));
            names = ap (λ (l : List ℕ). l ++ added) c.names ∙ rw k (sym same.1);
            reader = c.reader ∙ rw k (ap (λ (s : Step). put state (state_numbers (mark_slot state) s.reader)) (sym same.0));
            slots = c.slots ∙ rw k (ap (λ (s : Step). put answer (values_numbers (values_of s.answer))) (sym same.0));
          }
      by Held.Nothing k =
          record {
            said = c.said ∙ rw k refl;
            names = ap (λ (l : List ℕ). l ++ added) c.names ∙ rw k refl;
            reader = c.reader ∙ rw k refl;
            slots = c.slots ∙ rw k refl;
          }

  -- what a call lent enough does, it does lent all
  lent_all : (back : List ℕ) → Enough stack (get_or state 2 0) back
      → Called doc stack state answer number stack' state' answer' → Called doc (stack ++ back) state answer number (stack' ++ back) state' answer'
  lent_all back (inl room) c = a_host's_call_with_room_is_the_same_over_a_longer_stack back room c
  lent_all back (inr all) c = rw (all, append-nil stack, append-nil stack') c

module _ (doc stack : List ℕ) (settings : ℕ) where
  -- THEOREM: a host's calls over a stack that grows are calls over the whole stack: it hears the same and holds the same state, and with the slots that are kept
  -- back behind it has the same stack
  pub a_growing_host's_calls_are_calls : {back : List ℕ} {n : ℕ} {h : Host} → HostGrowing doc stack settings back n h → HostCalls doc stack settings n (host_lending h back)
  a_growing_host's_calls_are_calls (HostGrowing.none {given} {state} lent back whole o) =
      subst (λ (l : List ℕ). HostCalls doc stack settings zero (record { stack = l; state = state; heard = [] })) (sym whole) (none o)
  a_growing_host's_calls_are_calls (HostGrowing.lend {n} {h} slots back before) =
      subst (λ (l : List ℕ). HostCalls doc stack settings n (record { stack = l; state = h.state; heard = h.heard })) (sym (append_assoc h.stack slots back))
      (a_growing_host's_calls_are_calls before)
  a_growing_host's_calls_are_calls (HostGrowing.more {back} {n} {h} {answer} {number} {stack'} {state'} {answer'} before enough room called) =
      more (a_growing_host's_calls_are_calls before) room (lent_all doc h.stack h.state answer number stack' state' answer' back enough called)

  -- THEOREM: so they are a run, over the stack lent whole from the start
  pub a_growing_host's_calls_are_a_run : {back : List ℕ} {n : ℕ} {h : Host} → HostGrowing doc stack settings back n h
      → (length doc ≤ longest) × Follows (run doc stack (config_of settings) n) (host_lending h back)
  a_growing_host's_calls_are_a_run calls = a_host's_calls_are_a_run doc stack settings (a_growing_host's_calls_are_calls calls)

module _ (doc lent back : List ℕ) (settings : ℕ) (short : length doc ≤ longest) where
  -- the next call, of which all slots are lent where those lent so far are too few
  next : {kept : List ℕ} {n : ℕ} {h : Host} (room : Bool) → ltb (names_open h) (capacity (length h.stack)) ≡ room
      → HostGrowing doc (lent ++ back) settings kept n h → (later : List ℕ) × (after : Host) × HostGrowing doc (lent ++ back) settings later (suc n) after
  next {kept} true e calls =
      (kept, _, HostGrowing.more {answer = replicate answer_slots 0} calls (inl (ltb-true _ _ e)) (omega arith) (record { said = refl; names = refl; reader = refl; slots = refl }))
  next {kept} {n} {h} false e calls =
      let all : HostGrowing doc (lent ++ back) settings (kept ++ []) n h = rw (append-nil kept) calls in
      ([], _, HostGrowing.more {answer = replicate answer_slots 0} (HostGrowing.lend kept [] all) (inr refl) (omega arith) (record { said = refl; names = refl; reader = refl; slots = refl }))

  -- THEOREM: and a host can make n such calls, however little it lends at first
  pub a_growing_host_can_call : (n : ℕ) → (kept : List ℕ) × (h : Host) × HostGrowing doc (lent ++ back) settings kept n h
  unfolding made
  a_growing_host_can_call zero =
      let e : Made.Fresh (fresh (length doc) (config_of settings)) ≡ made (length doc) (config_of settings) = pick_nlt _ _ _ _ _ short refl in
      (back, _, HostGrowing.none {given = replicate answer_slots 0} lent back refl (record { said = ap made_number e; slots = refl }))
  a_growing_host_can_call (suc n) = let before = a_growing_host_can_call n in next _ refl before.2
