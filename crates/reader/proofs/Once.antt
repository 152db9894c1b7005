-- One call cuts off every tag, and one every piece: markup and references stand at their `<` and `&`. Assumes nothing.
use Prim.Native.Nat.{ℕ}
use mathlib.Core.Path.{◌≡◌, refl, sym, ap, ◌∙◌}
use mathlib.Core.List.{List}
use mathlib.Core.Bool.{Bool, true, false}
use lib.ListN.{get_or}
use lib.Dec.{eqb}
use borrow.Author.Rules.{rules}
use borrow.Author.Tests.{eqb-true}
use Rattle.ground.specs.Choose.{pick}
use Rattle.ground.specs.Bytes.{amp, lt, slash}
use Rattle.ground.proofs.Choices.{choices}
use Rattle.state.specs.declared.place.Depth.{Depth}
use Rattle.state.specs.declared.place.Span.{Span}
use Rattle.state.specs.declared.run.Phase.{Phase}
use Rattle.state.specs.declared.run.Reader.{Reader}
use Rattle.state.specs.declared.run.Step.{Step}
use Rattle.state.specs.Make.{ending}
use Rattle.state.specs.Place.{span}
use Rattle.emit.specs.End.{close_expanded_empty}
use Rattle.reader.specs.declared.piece.Cut.{Cut}
use Rattle.reader.specs.declared.piece.Due.{Due}
use Rattle.reader.specs.declared.piece.Shape.{Shape}
use Rattle.reader.specs.Asked.{tag_shape, due_in, due_of}
use Rattle.reader.specs.Cut.{cut_markup, cut_next, cut_ref, cut_tag}
use Rattle.reader.specs.Sound.{is_in_place, in_place_in}
use Rattle.reader.specs.Step.{taken, step_text, step_in, step_phase}

-- ---- tags

module _ (doc : List ℕ) (from : ℕ) where
  alike : (t : Bool) → cut_tag doc from (pick t Shape.End Shape.Start) ≡ pick t (cut_tag doc from Shape.End) (cut_tag doc from Shape.Start)
  alike true = refl
  alike false = refl

  pub either_tag : (b : ℕ) (shape : Shape) (r : Cut) → shape ≡ tag_shape b → r ≡ cut_tag doc from shape
      → r ≡ pick (eqb b slash) (cut_tag doc from Shape.End) (cut_tag doc from Shape.Start)
  either_tag b shape r e f = f ∙ ap (cut_tag doc from) e ∙ alike (eqb b slash)

pub ruleset tags = (choices, either_tag)

-- ---- pieces

module _ (doc : List ℕ) (from : ℕ) where
  at_markup : get_or doc from 0 ≡ lt → cut_next doc from ≡ cut_markup doc from
  unfolding cut_next
  at_markup e = rw e

  at_ref : get_or doc from 0 ≡ amp → cut_next doc from ≡ cut_ref doc from
  unfolding cut_next
  at_ref e = rw e

module _ (doc : List ℕ) (r : Reader) (last : Span) (cap : Depth) where
  -- what is due, done
  abbrev done : Due → Step
  done (Due.Piece from) = taken doc r last cap (cut_next doc from)
  done Due.EmptyEnd = close_expanded_empty r last
  done Due.Nothing = ending r last (span r.position.0 r.position.0)

  -- it is what a call does in the phase
  done_in : (p : Phase) → in_place_in doc r p ≡ true → done (due_in doc r p) ≡ step_in doc r last cap p
  unfolding step_text
  done_in Phase.Init i = refl
  done_in Phase.InsideText i = refl
  done_in Phase.InsideMarkup i = ap (taken doc r last cap) (at_markup doc r.position.0 (eqb-true _ _ i))
  done_in Phase.InsideRef i = ap (taken doc r last cap) (at_ref doc r.position.0 (eqb-true _ _ i))
  done_in Phase.InsideEmpty i = refl
  done_in Phase.Done i = refl

  module _ (ok : is_in_place doc r ≡ true) (due : Due) (e : due ≡ due_of doc r) (s : Step) where
    all_done : s ≡ done due → s ≡ step_phase doc r last cap
    unfolding is_in_place due_of step_phase
    all_done f = f ∙ ap done e ∙ done_in r.phase ok

    pub piece_done : (from : ℕ) (cut : Cut) → due ≡ Due.Piece from → cut ≡ cut_next doc from → s ≡ taken doc r last cap cut → s ≡ step_phase doc r last cap
    piece_done from cut k c f = all_done (f ∙ ap (taken doc r last cap) c ∙ ap done (sym k))

    pub end_done : due ≡ Due.EmptyEnd → s ≡ close_expanded_empty r last → s ≡ step_phase doc r last cap
    end_done k f = all_done (f ∙ ap done (sym k))

    pub nothing_done : due ≡ Due.Nothing → s ≡ ending r last (span r.position.0 r.position.0) → s ≡ step_phase doc r last cap
    nothing_done k f = all_done (f ∙ ap done (sym k))

pub ruleset pieces = (rules, piece_done, end_done, nothing_done)
