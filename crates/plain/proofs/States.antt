-- The test of a state as the code of this crate makes it. Assumes nothing.
use Prim.Native.Nat.{ℕ, ◌*◌, ◌≤◌}
use mathlib.Core.Path.{◌≡◌, sym, ap, ◌∙◌}
use mathlib.Core.List.{List}
use mathlib.Core.Bool.{Bool, true, false, ◌&&◌}
use lib.ListN.{length}
use lib.Dec.{eqb, leb}
use borrow.Author.Rules.{rules}
use borrow.Author.Tests.{leb-true}
use Rattle.ground.specs.Choose.{pick}
use Rattle.ground.proofs.Choices.{pick_bool}
use Rattle.state.specs.declared.place.Depth.{Depth}
use Rattle.state.specs.declared.place.Span.{Span}
use Rattle.state.specs.declared.run.Reader.{Reader}
use Rattle.state.specs.Limits.{longest, capacity, slots}
use Rattle.state.specs.Place.{depth_of}
use Rattle.state.proofs.Room.{told_slots}
use Rattle.reader.specs.Names.{latest}
use Rattle.reader.specs.Sound.{is_in_place, sound}
use Rattle.plain.proofs.Flags.{and_right, and_then}

-- tests joined, and asked one after the other
three : (a b c t : Bool) → pick ((a && b) && c) t false ≡ pick a (pick b (pick c t false) false) false
three a b c t = and_then (a && b) c t false ∙ and_then a b (pick c t false) false

four : (a b c d t : Bool) → pick (((a && b) && c) && d) t false ≡ pick a (pick b (pick c (pick d t false) false) false) false
four a b c d t = and_then ((a && b) && c) d t false ∙ three a b c (pick d t false)

module _ (doc stack : List ℕ) (r : Reader) (k : Depth) (asked : k ≡ depth_of (capacity (length stack))) where
  abbrev fits : Bool
  fits = ((eqb r.length (length doc) && leb (length doc) longest) && leb r.position.0 (length doc)) && leb r.depth.0 k.0

  rest : Bool
  rest =
      pick (leb (latest stack r.depth.0).from (latest stack r.depth.0).to)
      (pick (leb (latest stack r.depth.0).to r.position.0) (pick (is_in_place doc r) true false) false)
      false

  whole : pick fits rest false ≡ sound doc stack r
  unfolding sound rest
  whole = four (eqb r.length (length doc)) (leb (length doc) longest) (leb r.position.0 (length doc)) (leb r.depth.0 k.0) rest ∙ rw (ap (λ (x : Depth). x.0) asked)

  pub not_fit : fits ≡ false → false ≡ sound doc stack r
  not_fit e = rw (← whole, e)

  module _ (e : fits ≡ true) where
    pub room_for : r.depth.0 * slots ≤ length stack
    room_for = told_slots (length stack) k r.depth asked (leb-true r.depth.0 k.0 (and_right ((eqb r.length (length doc) && leb (length doc) longest) && leb r.position.0 (length doc)) _ e))

    pub fit : (last : Span) (t : Bool) → last ≡ latest stack r.depth.0 → t ≡ is_in_place doc r
        → ((leb last.from last.to && leb last.to r.position.0) && t) ≡ sound doc stack r
    unfolding rest
    fit last t f g =
        sym (pick_bool ((leb last.from last.to && leb last.to r.position.0) && t))
        ∙ three (leb last.from last.to) (leb last.to r.position.0) t true
        ∙ rw (f, g) (sym (ap (λ (x : Bool). pick x rest false) e) ∙ whole)

pub ruleset states = (rules, room_for, fit, not_fit)
