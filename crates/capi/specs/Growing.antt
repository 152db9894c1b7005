-- A host's calls over a stack that grows: its last slots are kept back at first, and lent later.
use Rattle.std.specs.Prelude.{ℕ, zero, suc, ◌≤◌, ◌≡◌, List, [], ◌∷◌, ◌++◌, length}
use Rattle.demands.specs.Growing.{Enough}
use Rattle.capi.specs.Numbers.{answer_slots}
use Rattle.capi.specs.Calls.{Opened, Called}
use Rattle.capi.specs.Hosts.{Host, names_open}

-- the same, with these slots behind the stack's
abbrev pub host_lending : Host → List ℕ → Host
host_lending h slots = record { stack = h.stack ++ slots; state = h.state; heard = h.heard }

-- n calls as in `HostCalls`, but of the stack the slots `back` are kept back. Before a call the first of these may be lent, behind what the call before left; each
-- call is lent enough: room for one more name than are open, or all
pub data HostGrowing (doc stack : List ℕ) (settings : ℕ) : List ℕ → ℕ → Host → Type 0 where
  none : {given state : List ℕ} (lent back : List ℕ) → lent ++ back ≡ stack → Opened doc settings given 0 state
      → HostGrowing doc stack settings back zero (record { stack = lent; state = state; heard = [] })
  lend : {n : ℕ} {h : Host} (slots back : List ℕ) → HostGrowing doc stack settings (slots ++ back) n h → HostGrowing doc stack settings back n (host_lending h slots)
  more : {back : List ℕ} {n : ℕ} {h : Host} {answer : List ℕ} {number : ℕ} {stack' state' answer' : List ℕ} → HostGrowing doc stack settings back n h
      → Enough h.stack (names_open h) back → answer_slots ≤ length answer → Called doc h.stack h.state answer number stack' state' answer'
      → HostGrowing doc stack settings back (suc n) (record { stack = stack'; state = state'; heard = record { number = number; slots = answer' } ∷ h.heard })
