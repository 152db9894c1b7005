-- A whole call: what it writes on the stack, and its promise. Assumes nothing.
use Prim.Native.Nat.{ℕ, ◌+◌, ◌*◌, ◌<◌}
use mathlib.Core.Path.{◌≡◌, refl, sym, ap, ◌∙◌, subst}
use mathlib.Core.List.{List}
use lib.ListN.{length}
use mir.Val.{Fits}
use mir.Syntax.{w64}
use Rattle.state.specs.declared.answer.Values.{Values}
use Rattle.state.specs.declared.run.Reader.{Reader}
use Rattle.state.specs.declared.run.Step.{Step}
use Rattle.state.specs.Limits.{slots}
use Rattle.state.specs.Place.{span}
use Rattle.state.specs.Values.{values_of}
use Rattle.reader.specs.Asked.{Room}
use Rattle.reader.specs.Names.{pushed, written}
use Rattle.reader.specs.Step.{step, Stepped}
use Rattle.reader.proofs.Rooms.{step_room}
use Rattle.reader.proofs.Written.{room_fits, room_slots, start_writes, other_keeps}

-- s is the answer and the reader after it, and v the answer as numbers
module _ (doc stack : List ℕ) (r : Reader) (s : Step) (v : Values) (e : s ≡ step doc stack r) (ev : v ≡ values_of s.answer) where
  room : Room (length stack) r.depth.0 s.answer
  room = subst (λ (x : Step). Room (length stack) r.depth.0 x.answer) (sym e) (step_room doc stack r)

  stepped : (after : List ℕ) → after ≡ written stack r.depth.0 s.answer → Stepped doc stack r s after
  stepped after w = record { outcome = e; slots = w ∙ ap (λ (x : Step). written stack r.depth.0 x.answer) e }

  -- a Start
  module _ (h : v.kind ≡ 1) where
    pub name_fits : Fits w64 (v.content.from + v.name)
    name_fits = record { fits = room_fits s.answer v 1 ev refl (length stack) r.depth.0 room h }

    pub slots_there : r.depth.0 * slots + 1 < length stack
    slots_there = room_slots s.answer v 1 ev refl (length stack) r.depth.0 room h

    pub noted : (after : List ℕ) → after ≡ pushed stack r.depth.0 (span v.content.from (v.content.from + v.name)) → Stepped doc stack r s after
    noted after w = stepped after (start_writes s.answer v 1 ev refl stack after r.depth.0 h w)

  -- any other answer
  pub kept : (v.kind ≡ 1 → ⊥) → Stepped doc stack r s stack
  kept n = stepped stack (other_keeps s.answer v 1 ev refl stack stack r.depth.0 n refl)
