-- What a call leaves and answers is made alike over a document of any length, one law to a definition of the state's Make. Assumes nothing.
use Prim.Native.Nat.{ℕ}
use mathlib.Core.Path.{◌≡◌, refl}
use mathlib.Core.Bool.{Bool, true, false}
use Rattle.ground.specs.Choose.{pick}
use Rattle.state.specs.declared.place.Position.{Position}
use Rattle.state.specs.declared.place.Depth.{Depth}
use Rattle.state.specs.declared.place.Span.{Span}
use Rattle.state.specs.declared.answer.Event.{Event}
use Rattle.state.specs.declared.answer.Error.{Error}
use Rattle.state.specs.declared.run.Phase.{Phase}
use Rattle.state.specs.declared.run.Reader.{Reader}
use Rattle.state.specs.declared.run.Step.{Step}
use Rattle.state.specs.Make.{moved, with_depth, marked, told, ended, refused, stopped, refuses_end, ending, bad_state}
use Rattle.arrivals.specs.Whole.{lengthened, lengthened_step}

module _ (n : ℕ) where
  -- of two choices by one test
  pub picked_same : (t : Bool) (x y x' y' : Step) → (t ≡ true → x ≡ lengthened_step n x') → (t ≡ false → y ≡ lengthened_step n y')
      → pick t x y ≡ lengthened_step n (pick t x' y')
  picked_same true x y x' y' f g = f refl
  picked_same false x y x' y' f g = g refl

  module _ (r : Reader) where
    pub depth_same : (d : Depth) → with_depth (lengthened n r) d ≡ lengthened n (with_depth r d)
    unfolding with_depth
    depth_same d = refl

    pub told_same : (e : Event) (next : Phase) → told (lengthened n r) e next ≡ lengthened_step n (told r e next)
    unfolding told moved lengthened_step
    told_same e next = refl

    pub refused_same : (e : Error) (place : Position) (piece : Span) (next : Phase)
        → refused (lengthened n r) e place piece next ≡ lengthened_step n (refused r e place piece next)
    unfolding refused moved lengthened_step
    refused_same e place piece next = refl

    marked_same : marked (lengthened n r) ≡ lengthened n (marked r)
    unfolding marked
    marked_same = refl

    pub bad_same : bad_state (lengthened n r) ≡ lengthened_step n (bad_state r)
    unfolding bad_state lengthened_step
    bad_same = refl

  module _ (r : Reader) where
    ended_same : (piece : Span) → ended (lengthened n r) piece ≡ lengthened_step n (ended r piece)
    unfolding ended
    ended_same piece = rw (marked_same r) (told_same (marked r) _ _)

    pub stopped_same : (e : Error) (place : Position) (piece : Span) → stopped (lengthened n r) e place piece ≡ lengthened_step n (stopped r e place piece)
    unfolding stopped
    stopped_same e place piece = rw (marked_same r) (refused_same (marked r) _ _ _ _)

    refuses_same : refuses_end (lengthened n r) ≡ refuses_end r
    unfolding refuses_end
    refuses_same = refl

    pub ending_same : (last piece : Span) → ending (lengthened n r) last piece ≡ lengthened_step n (ending r last piece)
    unfolding ending
    ending_same last piece = rw refuses_same (picked_same (refuses_end r) _ _ _ _ (λ _. stopped_same _ _ piece) (λ _. ended_same piece))
