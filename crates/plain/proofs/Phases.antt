-- What a call does in a phase, by what is read then. Assumes nothing.
use Prim.Native.Nat.{ℕ, ◌<◌}
use mathlib.Core.Path.{◌≡◌, refl, sym, ap, ◌∙◌}
use mathlib.Core.List.{List, [], ◌∷◌}
use mathlib.Core.Bool.{Bool, true, false}
use native.Mathlib.Omega.{arith}
use lib.ListN.{length, get_or}
use lib.Dec.{eqb}
use denote.Enum.Declared.{tag_of}
use types.Run.{OneOf, miss}
use borrow.Author.Tests.{eqb-true}
use Rattle.ground.specs.Bytes.{amp, lt}
use Rattle.ground.proofs.Choices.{both, clash}
use Rattle.ground.proofs.Lists.{stands_in}
use Rattle.white.specs.White.{is_white}
use Rattle.state.specs.declared.place.Depth.{Depth}
use Rattle.state.specs.declared.place.Span.{Span}
use Rattle.state.specs.declared.config.Config.{Config}
use Rattle.state.specs.declared.run.Phase.{Phase}
use Rattle.state.specs.declared.run.Reader.{Reader}
use Rattle.state.specs.contracts.run.Phase.{the_type as phases}
use Rattle.reader.specs.Cut.{cut_next}
use Rattle.reader.specs.Names.{latest}
use Rattle.reader.specs.Sound.{is_in_place, in_place_in, sound}
use Rattle.reader.specs.Step.{skipped, step_text, taken, step_in, step_phase}
use Rattle.reader.proofs.States.{sound_true}
use Rattle.plain.specs.Asked.{Placed, Readable, read_from}
use Rattle.plain.proofs.Cuts.{markup_cut, ref_cut}
use Rattle.plain.proofs.Flags.{and_none}
use Rattle.plain.proofs.Loop.{skip_none}

-- ---- from a sound state to what is asked

pub placed : (doc stack : List ℕ) (r : Reader) (open_name : Span) → sound doc stack r ≡ true → open_name ≡ latest stack r.depth.0 → Placed doc r open_name
placed doc stack r open_name e f =
    let s = sound_true doc stack r e in
    record {
      short = s.short;
      in_doc = s.in_doc;
      ordered = rw f s.ordered;
      behind = rw f s.behind;
      in_place = s.in_place;
    }

module _ (doc : List ℕ) (r : Reader) (open_name : Span) (ok : Placed doc r open_name) where
  readable : (mark : Bool) → (mark ≡ true → r.position.0 ≡ 0) → Readable doc r open_name mark
  readable mark f = record { short = ok.short; in_doc = ok.in_doc; ordered = ok.ordered; behind = ok.behind; first = f }

  at_start : r.phase ≡ Phase.Init → r.position.0 ≡ 0
  unfolding is_in_place
  at_start e = eqb-true r.position.0 0 (both (eqb r.position.0 0) _ (ap (in_place_in doc r) (sym e) ∙ ok.in_place)).0

  pub first_readable : r.phase ≡ Phase.Init → Readable doc r open_name true
  first_readable e = readable true (λ _. at_start e)

  pub later_readable : Readable doc r open_name false
  later_readable = readable false (λ f. clash false f refl)

-- ---- markup and references stand at their `<` and `&`

module _ (doc : List ℕ) (r : Reader) (open_name : Span) (room : Depth) where
  -- white space is skipped, and there is none
  dark : (c : Config) (from k : ℕ) → get_or doc from 0 ≡ k → is_white k ≡ false → from < length doc → skipped doc c from ≡ from
  dark c from k e f l = skip_none doc c from l (and_none c.trim_text_start (is_white (get_or doc from 0)) (ap is_white e ∙ f))

  text_at : (from : ℕ) → skipped doc r.settings from ≡ from → step_text doc r open_name room from ≡ taken doc r open_name room (cut_next doc from)
  unfolding step_text
  text_at from e = ap (λ (n : ℕ). taken doc r open_name room (cut_next doc n)) e

  read_later : read_from doc r open_name room false ≡ step_text doc r open_name room r.position.0
  unfolding read_from
  read_later = refl

  later_in : (p : Phase) → in_place_in doc r p ≡ true → OneOf (1 ∷ 2 ∷ 3 ∷ []) (tag_of phases p) → read_from doc r open_name room false ≡ step_in doc r open_name room p
  later_in Phase.Init i w = absurd (miss (1 ∷ 2 ∷ 3 ∷ []) 0 tt w)
  later_in Phase.InsideText i w = read_later
  later_in Phase.InsideMarkup i w =
      let e = eqb-true (get_or doc r.position.0 0) lt i in
      read_later ∙ text_at r.position.0 (dark r.settings r.position.0 lt e refl (stands_in doc r.position.0 lt e (omega arith))) ∙ ap (taken doc r open_name room) (markup_cut doc r.position.0 e)
  later_in Phase.InsideRef i w =
      let e = eqb-true (get_or doc r.position.0 0) amp i in
      read_later ∙ text_at r.position.0 (dark r.settings r.position.0 amp e refl (stands_in doc r.position.0 amp e (omega arith))) ∙ ap (taken doc r open_name room) (ref_cut doc r.position.0 e)
  later_in Phase.InsideEmpty i w = absurd (miss (1 ∷ 2 ∷ 3 ∷ []) 4 tt w)
  later_in Phase.Done i w = absurd (miss (1 ∷ 2 ∷ 3 ∷ []) 5 tt w)

  pub reads_later : Placed doc r open_name → OneOf (1 ∷ 2 ∷ 3 ∷ []) (tag_of phases r.phase) → read_from doc r open_name room false ≡ step_phase doc r open_name room
  unfolding step_phase is_in_place
  reads_later ok w = later_in r.phase ok.in_place w

  pub reads_first : r.phase ≡ Phase.Init → read_from doc r open_name room true ≡ step_phase doc r open_name room
  unfolding step_phase read_from
  reads_first e = sym (ap (step_in doc r open_name room) e)
