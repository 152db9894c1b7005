-- Which states are sound: the laws of the test, for the code that makes it and for whoever knows that it passed. Assumes nothing.
use Prim.Native.Nat.{ℕ, ◌≤◌, ◌<◌}
use mathlib.Core.Path.{◌≡◌, sym, ap, ◌∙◌}
use mathlib.Core.List.{List}
use mathlib.Core.Bool.{Bool, true, false}
use lib.ListN.{length, get_or}
use borrow.Author.Rules.{rules}
use borrow.Author.Tests.{eq-eqb, ne_eqb, le-leb, lt-leb, eqb-true, leb-true}
use Rattle.ground.specs.Bytes.{amp, lt}
use Rattle.ground.proofs.Choices.{both, pick_bool}
use Rattle.state.specs.declared.place.Depth.{Depth}
use Rattle.state.specs.declared.place.Span.{Span}
use Rattle.state.specs.declared.run.Phase.{Phase}
use Rattle.state.specs.declared.run.Reader.{Reader}
use Rattle.state.specs.Limits.{longest, capacity}
use Rattle.state.specs.Place.{depth_of}
use Rattle.state.proofs.Room.{told_slots}
use Rattle.reader.specs.Names.{latest}
use Rattle.reader.specs.Sound.{is_in_place, sound}

-- ---- the test as the code makes it, one fact after the other

module _ (doc stack : List ℕ) (r : Reader) where
  pub other_length : (r.length ≡ length doc → ⊥) → false ≡ sound doc stack r
  unfolding sound
  other_length n = rw (ne_eqb r.length (length doc) n)

  module _ (size : r.length ≡ length doc) where
    pub too_long : longest < length doc → false ≡ sound doc stack r
    unfolding sound
    too_long h = rw (eq-eqb r.length (length doc) size, lt-leb (length doc) longest h)

    module _ (short : length doc ≤ longest) where
      pub past_the_end : length doc < r.position.0 → false ≡ sound doc stack r
      unfolding sound
      past_the_end h =
          rw (eq-eqb r.length (length doc) size, le-leb (length doc) longest short, lt-leb r.position.0 (length doc) h)

      module _ (in_doc : r.position.0 ≤ length doc) (k : Depth) (asked : k ≡ depth_of (capacity (length stack))) where
        abbrev room : capacity (length stack) ≡ k.0
        room = sym (ap (λ (x : Depth). x.0) asked)

        pub too_deep : k.0 < r.depth.0 → false ≡ sound doc stack r
        unfolding sound
        too_deep h =
            rw (
              eq-eqb r.length (length doc) size,
              le-leb (length doc) longest short,
              le-leb r.position.0 (length doc) in_doc,
              room,
              lt-leb r.depth.0 k.0 h,
            )

        module _ (deep : r.depth.0 ≤ k.0) (last : Span) (read : last ≡ latest stack r.depth.0) where
          pub crossed_name : last.to < last.from → false ≡ sound doc stack r
          unfolding sound
          crossed_name h =
              rw (
                eq-eqb r.length (length doc) size,
                le-leb (length doc) longest short,
                le-leb r.position.0 (length doc) in_doc,
                room,
                le-leb r.depth.0 k.0 deep,
                ← read,
                lt-leb last.from last.to h,
              )

          module _ (ordered : last.from ≤ last.to) where
            pub name_ahead : r.position.0 < last.to → false ≡ sound doc stack r
            unfolding sound
            name_ahead h =
                rw (
                  eq-eqb r.length (length doc) size,
                  le-leb (length doc) longest short,
                  le-leb r.position.0 (length doc) in_doc,
                  room,
                  le-leb r.depth.0 k.0 deep,
                  ← read,
                  le-leb last.from last.to ordered,
                  lt-leb last.to r.position.0 h,
                )

            pub rest_in_place : (t : Bool) → last.to ≤ r.position.0 → t ≡ is_in_place doc r → t ≡ sound doc stack r
            unfolding sound
            rest_in_place t h e =
                rw (
                  eq-eqb r.length (length doc) size,
                  le-leb (length doc) longest short,
                  le-leb r.position.0 (length doc) in_doc,
                  room,
                  le-leb r.depth.0 k.0 deep,
                  ← read,
                  le-leb last.from last.to ordered,
                  le-leb last.to r.position.0 h,
                )
                (e ∙ sym (pick_bool (is_in_place doc r)))

pub ruleset states = (rules, told_slots, other_length, too_long, past_the_end, too_deep, crossed_name, name_ahead, rest_in_place)

-- ---- what a sound state is

pub record Sound (doc stack : List ℕ) (r : Reader) : Type 0 where
  pub size : r.length ≡ length doc
  pub short : length doc ≤ longest
  pub in_doc : r.position.0 ≤ length doc
  pub deep : r.depth.0 ≤ capacity (length stack)
  pub ordered : (latest stack r.depth.0).from ≤ (latest stack r.depth.0).to
  pub behind : (latest stack r.depth.0).to ≤ r.position.0
  pub in_place : is_in_place doc r ≡ true

module _ (doc stack : List ℕ) (r : Reader) where
  pub sound_true : sound doc stack r ≡ true → Sound doc stack r
  unfolding sound
  sound_true e =
      let a = both _ _ e in
      let b = both _ _ a.1 in
      let c = both _ _ b.1 in
      let d = both _ _ c.1 in
      let f = both _ _ d.1 in
      let g = both _ _ f.1 in
      record {
        size = eqb-true _ _ a.0;
        short = leb-true _ _ b.0;
        in_doc = leb-true _ _ c.0;
        deep = leb-true _ _ d.0;
        ordered = leb-true _ _ f.0;
        behind = leb-true _ _ g.0;
        in_place = (both _ _ g.1).0;
      }

  pub true_sound : Sound doc stack r → sound doc stack r ≡ true
  unfolding sound
  true_sound s =
      rw (
        eq-eqb _ _ s.size,
        le-leb _ _ s.short,
        le-leb _ _ s.in_doc,
        le-leb _ _ s.deep,
        le-leb _ _ s.ordered,
        le-leb _ _ s.behind,
        s.in_place,
      )

-- ---- where the phases stand

module _ (doc : List ℕ) (r : Reader) (ok : is_in_place doc r ≡ true) where
  pub markup_at : r.phase ≡ Phase.InsideMarkup → get_or doc r.position.0 0 ≡ lt
  unfolding is_in_place
  markup_at p = eqb-true _ _ (simp p at ok)

  pub ref_at : r.phase ≡ Phase.InsideRef → get_or doc r.position.0 0 ≡ amp
  unfolding is_in_place
  ref_at p = eqb-true _ _ (simp p at ok)
