-- A call on any state. There is room on the stack for what it writes: only a Start writes, and it is given only where its name has its slots. Assumes
-- nothing.
use Prim.Native.Nat.{ℕ, ◌+◌}
use mathlib.Core.Path.{◌≡◌, refl, sym, subst}
use mathlib.Core.Bool.{Bool, true, false}
use mathlib.Core.List.{List}
use native.Mathlib.Omega.{arith}
use lib.ListN.{length}
use Rattle.state.specs.declared.run.Reader.{Reader}
use Rattle.state.specs.declared.run.Step.{Step}
use Rattle.state.specs.Limits.{capacity}
use Rattle.state.specs.Make.{bad_state}
use Rattle.state.proofs.Numbers.{no_kind}
use Rattle.state.proofs.Room.{capacity_slots}
use Rattle.reader.specs.Asked.{Room}
use Rattle.reader.specs.Names.{latest}
use Rattle.reader.specs.Sound.{sound}
use Rattle.reader.specs.Step.{step}
use Rattle.reader.proofs.Outside.{Turned, Named, keeps, opens, closes, mismatches, closes_nothing, unmatches, name_within, step_turn}
use Rattle.reader.proofs.States.{Sound, sound_true}

module _ (doc stack : List ℕ) (r : Reader) (sd : Sound doc stack r) (s : Step) (t : Turned doc (capacity (length stack)) (latest stack r.depth.0) r s) where
  named_room : Named doc (capacity (length stack)) (latest stack r.depth.0) r s → Room (length stack) r.depth.0 s.answer
  named_room (keeps q d) = record { room = λ e. absurd (q.0 e) }
  named_room (opens k room d tag) =
      record { room = λ e. (omega (arith, capacity_slots (length stack) (r.depth.0 + 1) (omega arith)), omega (arith, sd.short, t.left, t.within, name_within doc s tag)) }
  named_room (closes k z d same) = record { room = λ e. absurd (omega arith) }
  named_room (mismatches n z d on x y) = record { room = λ e. let z = no_kind s.answer (omega arith) in absurd (omega arith) }
  named_room (closes_nothing k z d on) = record { room = λ e. absurd (omega arith) }
  named_room (unmatches n z d off) = record { room = λ e. let z = no_kind s.answer (omega arith) in absurd (omega arith) }

pub bad_step : (doc stack : List ℕ) (r : Reader) → sound doc stack r ≡ false → step doc stack r ≡ bad_state r
unfolding step
bad_step doc stack r e = rw e

-- what holds of a call on a sound state, and of the refusal of a bad one, holds of any call
pub any_state : (doc stack : List ℕ) (r : Reader) (M : Step → Type 0) → (sound doc stack r ≡ true → M (step doc stack r)) → M (bad_state r) → M (step doc stack r)
any_state doc stack r M good bad = by (sound doc stack r) refl
  where
    by : (b : Bool) → sound doc stack r ≡ b → M (step doc stack r)
    by true e = good e
    by false e = subst M (sym (bad_step doc stack r e)) bad

-- the refusal of a bad state writes nothing
bad_room : (n : ℕ) (r : Reader) → Room n r.depth.0 (bad_state r).answer
unfolding bad_state
bad_room n r = record { room = λ e. absurd (omega arith) }

pub step_room : (doc stack : List ℕ) (r : Reader) → Room (length stack) r.depth.0 (step doc stack r).answer
step_room doc stack r =
    any_state doc stack r (λ (s : Step). Room (length stack) r.depth.0 s.answer)
    (λ e. let t = step_turn doc stack r e in named_room doc stack r (sound_true doc stack r e) _ t t.names)
    (bad_room (length stack) r)
