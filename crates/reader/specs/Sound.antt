-- Which states are refused: "17 exactly when" (document 01, "When a call is refused").
use Rattle.std.specs.Prelude.{ℕ, List, [], ◌∷◌, Bool, true, length, get_or, eqb, leb, ltb}
use Rattle.ground.specs.Choose.{all_of}
use Rattle.ground.specs.Bytes.{amp, lt}
use Rattle.state.specs.declared.run.Phase.{Phase}
use Rattle.state.specs.declared.run.Reader.{Reader}
use Rattle.state.specs.Limits.{longest, capacity}
use Rattle.reader.specs.Names.{latest}

-- whether a phase may stand where the reader does
module _ (doc : List ℕ) (r : Reader) where
  abbrev pub in_place_in : Phase → Bool
  -- not: "Init with position or depth not 0"
  in_place_in Phase.Init = all_of (eqb r.position.0 0 ∷ eqb r.depth.0 0 ∷ [])
  in_place_in Phase.InsideText = true
  -- not: "markup or reference not standing at `<` or `&`"
  in_place_in Phase.InsideMarkup = eqb (get_or doc r.position.0 0) lt
  in_place_in Phase.InsideRef = eqb (get_or doc r.position.0 0) amp
  -- not: "InsideEmpty with depth 0"
  in_place_in Phase.InsideEmpty = ltb 0 r.depth.0
  in_place_in Phase.Done = true

unfoldable pub is_in_place : List ℕ → Reader → Bool
is_in_place doc r = in_place_in doc r r.phase

-- not: "length differs from the slice's or is over" the longest; "position over length; depth over capacity; depth above 0 and the top entry not start ≤ end ≤
-- position". At depth 0 the latest name is 0..0, and passes.
unfoldable pub sound : List ℕ → List ℕ → Reader → Bool
sound doc stack r =
    all_of (
    eqb r.length (length doc)
    ∷ leb (length doc) longest
    ∷ leb r.position.0 (length doc)
    ∷ leb r.depth.0 (capacity (length stack))
    ∷ leb (latest stack r.depth.0).from (latest stack r.depth.0).to
    ∷ leb (latest stack r.depth.0).to r.position.0
    ∷ is_in_place doc r
    ∷ [])
