-- What is said of the bytes of a document, at a sheet, as two sides that must be the same.
use Rattle.std.specs.Prelude.{ℕ, zero, suc, ◌-◌, Bool, true, false, List, [], ◌∷◌, ◌++◌, map, reverse, length, replicate, eqb}
use Rattle.ground.specs.Choose.{pick}
use Rattle.ground.specs.Equal.{same}
use Rattle.white.specs.White.{leading}
use Rattle.state.specs.declared.place.Span.{Span}
use Rattle.reader.specs.Names.{bytes}
use Rattle.reader.specs.Step.{bom}
use Rattle.demands.specs.Laid.{What, Laid, pieces, pieces_in, times_set}
use Rattle.demands.specs.Sheets.{Sheet, ran, page_of}

pub record SetSide : Type 0 where
  pub in_parts : List ℕ
  pub as_named : List Bool
  pub answered : List Span

-- the first n places
unfoldable pub places : ℕ → List ℕ
places zero = []
places (suc n) = places n ++ (n ∷ [])

-- a part is what it is called
module _ (x : Sheet) (part : Laid) where
  abbrev is_named : What → Bool
  is_named What.ByteOrderMark = pick (eqb part.span.from 0) (same (bytes x.doc part.span) bom) false
  is_named What.WhiteSpace = pick x.settings.trim_text_start (eqb (leading (bytes x.doc part.span)) (length (bytes x.doc part.span))) false
  is_named What.Piece = true

  abbrev pub rightly_named : Bool
  rightly_named = is_named part.what

-- how many parts each byte is in, which parts are what they are called, and which are pieces
unfoldable pub laid_side : Sheet → SetSide
laid_side x =
    record {
      in_parts = map (λ (place : ℕ). times_set place (page_of x).parts) (places (length x.doc));
      as_named = map (λ (part : Laid). rightly_named x part) (page_of x).parts;
      answered = pieces_in (page_of x).parts;
    }

-- one for each byte before the position and none for the others; every part; and those of the answers, in their order
unfoldable pub asked_side : Sheet → SetSide
asked_side x =
    record {
      in_parts = replicate (page_of x).position 1 ++ replicate (length x.doc - (page_of x).position) 0;
      as_named = map (λ (part : Laid). true) (page_of x).parts;
      answered = reverse (pieces (ran x).answers);
    }
