-- What the code writes on the stack is what an answer writes. Assumes nothing.
use Prim.Native.Nat.{ℕ, ◌+◌, ◌*◌, ◌<◌, ◌^◌}
use mathlib.Core.Path.{◌≡◌, sym, ap, ◌∙◌}
use mathlib.Core.List.{List}
use borrow.Author.Tests.{eq-eqb, ne_eqb}
use Rattle.state.specs.declared.answer.Kind.{Kind}
use Rattle.state.specs.declared.answer.Answer.{Answer}
use Rattle.state.specs.declared.answer.Values.{Values}
use Rattle.state.specs.Limits.{slots}
use Rattle.state.specs.Place.{span}
use Rattle.state.specs.Values.{kind_number, values_of}
use Rattle.reader.specs.Asked.{Room}
use Rattle.reader.specs.Names.{pushed, name_of, written}

-- v is the answer as numbers, and k the number of Start
module _ (a : Answer) (v : Values) (k : ℕ) (e : v ≡ values_of a) (start : k ≡ kind_number Kind.Start) where
  kind_told : v.kind ≡ k → (values_of a).kind ≡ kind_number Kind.Start
  kind_told h = ap (λ (x : Values). x.kind) (sym e) ∙ h ∙ start

  kind_other : (v.kind ≡ k → ⊥) → (values_of a).kind ≡ kind_number Kind.Start → ⊥
  kind_other n h = n (ap (λ (x : Values). x.kind) e ∙ h ∙ sym start)

  name_told : span v.content.from (v.content.from + v.name) ≡ name_of a
  name_told = ap (λ (x : Values). span x.content.from (x.content.from + x.name)) e

  module _ (n d : ℕ) (room : Room n d a) (h : v.kind ≡ k) where
    pub room_fits : v.content.from + v.name < 2 ^ 64
    room_fits = rw e (room.room (kind_told h)).1

    pub room_slots : d * slots + 1 < n
    room_slots = (room.room (kind_told h)).0

  module _ (stack after : List ℕ) (d : ℕ) where
    pub start_writes : v.kind ≡ k → after ≡ pushed stack d (span v.content.from (v.content.from + v.name)) → after ≡ written stack d a
    unfolding written
    start_writes h w = rw (eq-eqb _ _ (kind_told h), ← name_told) w

    pub other_keeps : (v.kind ≡ k → ⊥) → after ≡ stack → after ≡ written stack d a
    unfolding written
    other_keeps n w = rw (ne_eqb _ _ (kind_other n)) w
