-- Where a call refuses bytes that are not UTF-8, in the words of document 02, and which bytes are UTF-8. Assumes nothing.
use Prim.Native.Nat.{ℕ, zero, suc, ◌≤◌}
use mathlib.Core.Path.{◌≡◌}
use mathlib.Core.List.{List}
use mathlib.Core.Bool.{true}
use native.Mathlib.Omega.{arith}
use lib.ListN.{length}
use borrow.Author.Tests.{eqb-true}
use Rattle.ground.specs.Part.{part}
use Rattle.utf8.specs.Utf8.{Octets}
use Rattle.utf8.proofs.Places.{octets_nothing, octets_parts, ill_first, ill_wider}
use Rattle.state.specs.declared.config.Config.{Config}
use Rattle.state.specs.declared.answer.Answer.{Answer}
use Rattle.state.specs.declared.run.Phase.{Phase}
use Rattle.state.specs.declared.run.Reader.{Reader}
use Rattle.state.specs.declared.run.Step.{Step}
use Rattle.state.specs.Limits.{longest}
use Rattle.state.specs.Make.{fresh, bad_state}
use Rattle.state.specs.Place.{span}
use Rattle.state.specs.Values.{values_of}
use Rattle.reader.specs.Names.{bytes}
use Rattle.reader.specs.Step.{step, FirstIll}
use Rattle.reader.proofs.Outside.{step_turn}
use Rattle.reader.proofs.Passed.{passes_octets}
use Rattle.reader.proofs.States.{sound_true}
use Rattle.reader.proofs.Rooms.{any_state}
use Rattle.demands.specs.Run.{World, said, call, run}
use Rattle.demands.specs.Answers.{AnEvent, is_encoding}
use Rattle.demands.proofs.Demand1.{turn, done_stays, every_state_is_sound}

-- ---- any document, any lent stack, any state

module _ (doc stack : List ℕ) (r : Reader) where
  abbrev answer : Answer
  answer = (step doc stack r).answer

  -- THEOREM: 13 has as its place "the first byte of the first ill-formed sequence" of its piece: it lies in the piece, all of the piece before it is well
  -- formed, and no well-formed character starts there
  pub ill_formed_bytes_are_refused_at_the_first : is_encoding answer ≡ true → FirstIll doc (values_of answer).piece (values_of answer).place
  unfolding bad_state
  ill_formed_bytes_are_refused_at_the_first e =
      any_state doc stack r (λ (s : Step). (values_of s.answer).number ≡ 13 → FirstIll doc (values_of s.answer).piece (values_of s.answer).place)
      (λ ok. (step_turn doc stack r ok).encoding.ill)
      (λ n. absurd (omega arith))
      (eqb-true (values_of answer).number 13 e)

  -- THEOREM: the piece of an event is well formed
  pub an_event's_piece_is_well_formed : AnEvent answer → Octets (bytes doc (values_of answer).piece)
  unfolding bad_state
  an_event's_piece_is_well_formed e =
      any_state doc stack r (λ (s : Step). AnEvent s.answer → Octets (bytes doc (values_of s.answer).piece))
      (λ ok x. (step_turn doc stack r ok).encoding.event x.0)
      (λ x. absurd (omega (arith, x.0)))
      e

-- ---- a run

module _ (doc stack : List ℕ) (c : Config) (short : length doc ≤ longest) where
  abbrev after : ℕ → World
  after n = run doc stack c n

  -- what was read up to the piece of a call
  module _ (n : ℕ) (before : Octets (part doc 0 (after n).reader.position.0)) where
    up_to_the_piece : Octets (part doc 0 (values_of (said doc (after n))).piece.from)
    up_to_the_piece =
        let t = turn doc stack c short n in
        octets_parts doc 0 (after n).reader.position.0 _ (omega arith) t.after (omega (arith, t.ordered, t.within)) before
        (passes_octets doc (after n).reader _ (sound_true doc _ _ (every_state_is_sound doc stack c short n)).in_place (omega (arith, t.ordered, t.within)) t.passed)

    -- and with it
    up_to_its_end : Octets (bytes doc (values_of (said doc (after n))).piece) → Octets (part doc 0 (after (suc n)).reader.position.0)
    unfolding run call
    up_to_its_end o =
        let t = turn doc stack c short n in
        rw t.left (octets_parts doc 0 (values_of (said doc (after n))).piece.from _ (omega arith) t.ordered t.within up_to_the_piece o)

  -- THEOREM: what a run has read is well formed, as long as it goes on
  pub what_is_read_is_well_formed : (n : ℕ) → ((after n).reader.phase ≡ Phase.Done → ⊥) → Octets (part doc 0 (after n).reader.position.0)
  unfolding run call fresh
  what_is_read_is_well_formed zero going = octets_nothing doc 0 (omega arith)
  what_is_read_is_well_formed (suc n) going =
      up_to_its_end n
      (what_is_read_is_well_formed n (λ d. going (done_stays doc stack c short n d).0))
      ((turn doc stack c short n).encoding.going going)

  -- THEOREM: so 13 has as its place the first ill-formed byte of the document
  pub the_document's_first_ill_formed_byte : (n : ℕ) → is_encoding (said doc (after n)) ≡ true → FirstIll doc (span 0 (length doc)) (values_of (said doc (after n))).place
  the_document's_first_ill_formed_byte n e =
      let t = turn doc stack c short n in
      let number = eqb-true (values_of (said doc (after n))).number 13 e in
      let read = what_is_read_is_well_formed n (λ d. (done_stays doc stack c short n d).1 number) in
      ill_first doc 0 (length doc) _
      (ill_wider doc (values_of (said doc (after n))).piece.from (values_of (said doc (after n))).piece.to 0 (length doc) _ (omega arith) t.within (omega arith)
      (up_to_the_piece n read) (t.encoding.ill number).has)
