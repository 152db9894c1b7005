-- A stack that is made longer: a call with room for one more name answers as it does with all the room there will be. Assumes nothing.
use Prim.Native.Nat.{ℕ, ◌+◌, ◌-◌, ◌*◌, ◌/◌, ◌≤◌, ◌<◌}
use mathlib.Core.Path.{◌≡◌, refl, ap, ◌∙◌}
use mathlib.Core.List.{List, ◌++◌}
use mathlib.Core.Bool.{Bool, true, false}
use native.Mathlib.Omega.{arith}
use lib.ListN.{length, set, length-append, length-set, get_or-append}
use lib.Seq.{set-append_left}
use lib.Dec.{eqb, ltb}
use borrow.Author.Tests.{le-leb, lt-ltb, ltb-true, ltb-false, eqb-false}
use Rattle.ground.specs.Choose.{pick}
use Rattle.ground.proofs.Choices.{pick_cases}
use Rattle.state.specs.declared.place.Depth.{Depth}
use Rattle.state.specs.declared.place.Span.{Span}
use Rattle.state.specs.declared.answer.Event.{Event}
use Rattle.state.specs.declared.answer.Kind.{Kind}
use Rattle.state.specs.declared.answer.Answer.{Answer}
use Rattle.state.specs.declared.run.Phase.{Phase}
use Rattle.state.specs.declared.run.Reader.{Reader}
use Rattle.state.specs.declared.run.Step.{Step}
use Rattle.state.specs.Limits.{slots, most, capacity}
use Rattle.state.specs.Place.{depth_of}
use Rattle.state.specs.Values.{kind_number, values_of}
use Rattle.state.proofs.Room.{capacity_slots}
use Rattle.emit.specs.Start.{opening, emit_start}
use Rattle.reader.specs.declared.piece.Shape.{Shape}
use Rattle.reader.specs.declared.piece.Piece.{Piece}
use Rattle.reader.specs.declared.piece.Cut.{Cut}
use Rattle.reader.specs.Names.{latest, pushed, name_of, written}
use Rattle.reader.specs.Sound.{sound}
use Rattle.reader.specs.Step.{emitted_as, emitted, checked, taken, step_text, step_in, step_phase, step}

-- ---- the capacity counts only where a name is opened, and there it counts only whether there is room for it

module _ (r : Reader) (a b : Depth) (room : r.depth.0 < a.0) (also : r.depth.0 < b.0) where
  opening_same : (e : Event) (next : Phase) → opening r a e next ≡ opening r b e next
  unfolding opening
  opening_same e next = rw (lt-ltb _ _ room, lt-ltb _ _ also)

  module _ (doc : List ℕ) where
    start_same : (piece : Span) → emit_start doc r a piece ≡ emit_start doc r b piece
    unfolding emit_start
    start_same piece = rw (opening_same _ Phase.InsideEmpty, opening_same _ Phase.InsideText)

    module _ (last : Span) where
      as_same : (shape : Shape) (piece : Span) (next : Phase) → emitted_as doc r last a shape piece next ≡ emitted_as doc r last b shape piece next
      as_same Shape.Text piece next = refl
      as_same Shape.LastText piece next = refl
      as_same Shape.GeneralRef piece next = refl
      as_same Shape.Dangling piece next = refl
      as_same Shape.Comment piece next = refl
      as_same Shape.CData piece next = refl
      as_same Shape.QuestionMark piece next = refl
      as_same Shape.End piece next = refl
      as_same Shape.Start piece next = start_same piece

      piece_same : (p : Piece) → checked doc r last a p ≡ checked doc r last b p
      unfolding checked emitted
      piece_same p = rw (as_same p.shape p.span p.next)

      taken_same : (c : Cut) → taken doc r last a c ≡ taken doc r last b c
      unfolding taken
      taken_same (Cut.Piece p) = piece_same p
      taken_same (Cut.Stop x) = refl

      in_same : (p : Phase) → step_in doc r last a p ≡ step_in doc r last b p
      unfolding step_text
      in_same Phase.Init = taken_same _
      in_same Phase.InsideText = taken_same _
      in_same Phase.InsideMarkup = taken_same _
      in_same Phase.InsideRef = taken_same _
      in_same Phase.InsideEmpty = refl
      in_same Phase.Done = refl

      phase_same : step_phase doc r last a ≡ step_phase doc r last b
      unfolding step_phase
      phase_same = in_same r.phase

-- ---- a longer stack has the same names below the depth, and as much room or more

pub capacity_grows : (m n : ℕ) → m ≤ n → capacity m ≤ capacity n
unfolding capacity
capacity_grows m n h =
    pick_cases (λ (k : ℕ). k ≤ capacity n) (ltb (m / slots) most) _ _
    (λ e. pick_cases (λ (k : ℕ). m / slots ≤ k) (ltb (n / slots) most) _ _ (λ f. omega arith) (λ f. omega (arith, ltb-true (m / slots) most e)))
    (λ e. pick_cases (λ (k : ℕ). most ≤ k) (ltb (n / slots) most) _ _ (λ f. omega (arith, ltb-false (m / slots) most e)) (λ f. omega arith))

-- two choices by one test
both_picked : {A : Type 0} (t : Bool) (x y z : A) → (t ≡ false → y ≡ z) → pick t x y ≡ pick t x z
both_picked true x y z f = refl
both_picked false x y z f = f refl

-- what either choice has behind it, the choice has
appended : (t : Bool) (x y s more : List ℕ) → x ≡ y ++ more → pick t x (s ++ more) ≡ pick t y s ++ more
appended true x y s more e = e
appended false x y s more e = refl

module _ (stack more : List ℕ) where
  has_room : (d : ℕ) → d < capacity (length stack) → d < capacity (length (stack ++ more))
  has_room d h = let l = length-append stack more in omega (arith, capacity_grows (length stack) (length (stack ++ more)) (omega (arith, l)))

  latest_same : (d : ℕ) → d ≤ capacity (length stack) → latest (stack ++ more) d ≡ latest stack d
  unfolding latest
  latest_same d h =
      let fits = capacity_slots (length stack) d h in
      both_picked (eqb d 0) _ _ _ (λ e.
      let some : d ≡ 0 → ⊥ = eqb-false d 0 e in
      rw (get_or-append stack more 0 ((d - 1) * 2) (omega (arith, fits)), get_or-append stack more 0 ((d - 1) * 2 + 1) (omega (arith, fits))))

  pushed_same : (d : ℕ) (name : Span) → d < capacity (length stack) → pushed (stack ++ more) d name ≡ pushed stack d name ++ more
  unfolding pushed
  pushed_same d name h =
      let fits = capacity_slots (length stack) (d + 1) (omega arith) in
      rw (set-append_left stack more (d * 2) name.from (omega (arith, fits)))
      (set-append_left (set stack (d * 2) name.from) more (d * 2 + 1) name.to (omega (arith, fits, length-set stack (d * 2) name.from)))

  written_same : (d : ℕ) (a : Answer) → d < capacity (length stack) → written (stack ++ more) d a ≡ written stack d a ++ more
  unfolding written
  written_same d a h =
      appended (eqb (values_of a).kind (kind_number Kind.Start)) _ _ stack more (pushed_same d (name_of a) h)

  sound_same : (doc : List ℕ) (r : Reader) → r.depth.0 < capacity (length stack) → sound doc (stack ++ more) r ≡ sound doc stack r
  unfolding sound
  sound_same doc r h =
      rw (
        le-leb r.depth.0 (capacity (length stack)) (omega arith),
        le-leb r.depth.0 (capacity (length (stack ++ more))) (omega (arith, has_room r.depth.0 h)),
        latest_same r.depth.0 (omega arith),
      )

  step_same : (doc : List ℕ) (r : Reader) → r.depth.0 < capacity (length stack) → step doc (stack ++ more) r ≡ step doc stack r
  unfolding step
  step_same doc r h =
      rw (
        sound_same doc r h,
        latest_same r.depth.0 (omega arith),
        phase_same r (depth_of (capacity (length (stack ++ more)))) (depth_of (capacity (length stack))) (has_room r.depth.0 h) h doc (latest stack r.depth.0),
      )

-- THEOREM: a call with room for one more name answers the same, and leaves the same reader, over a longer stack; the slots it has more stay as they are
pub a_call_with_room_is_the_same_over_a_longer_stack : (doc stack more : List ℕ) (r : Reader) → r.depth.0 < capacity (length stack)
    → (step doc (stack ++ more) r ≡ step doc stack r)
    × (written (stack ++ more) r.depth.0 (step doc (stack ++ more) r).answer ≡ written stack r.depth.0 (step doc stack r).answer ++ more)
a_call_with_room_is_the_same_over_a_longer_stack doc stack more r h =
    let e = step_same stack more doc r h in
    (e, ap (λ (s : Step). written (stack ++ more) r.depth.0 s.answer) e ∙ written_same stack more r.depth.0 (step doc stack r).answer h)
