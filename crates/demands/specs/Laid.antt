-- NO BYTE SET TWICE, NONE DROPPED (document 02, M-113): what became of the bytes of a document, told by the pieces of the answers.
use Rattle.std.specs.Prelude.{ℕ, ◌≤◌, ◌<◌, ◌≡◌, ◌⊎◌, Bool, true, false, List, [], ◌∷◌, ◌++◌, map, reverse, length, leb, ltb}
use Rattle.ground.specs.Choose.{pick, all_of}
use Rattle.white.specs.White.{WhiteWithin}
use Rattle.state.specs.declared.place.Span.{Span}
use Rattle.state.specs.declared.config.Config.{Config}
use Rattle.state.specs.declared.answer.Answer.{Answer}
use Rattle.state.specs.Place.{span}
use Rattle.state.specs.Values.{values_of}
use Rattle.reader.specs.Names.{bytes}
use Rattle.reader.specs.Step.{bom, begin}
use Rattle.demands.specs.Answers.{count}

-- "the byte order mark, white space skipped by `trim_text_start`, or the piece of one answer"
pub data What : Type 0 where
  ByteOrderMark : What
  WhiteSpace : What
  Piece : What

-- a part of the document, and what it is
pub record Laid : Type 0 where
  pub what : What
  pub span : Span

abbrev pub laid : What → Span → Laid
laid what s = record { what = what; span = s }

-- the bytes between two places, if there are any
abbrev pub gap : What → ℕ → ℕ → List Laid
gap what from to = pick (ltb from to) (laid what (span from to) ∷ []) []

-- what was skipped before a piece that starts at `to`, where the pieces before it are these, the latest first: white space from the latest one's end on. Before the
-- first piece it is the byte order mark, if the document begins with it, and then white space
abbrev pub skipped_before : List ℕ → List Span → ℕ → List Laid
skipped_before doc [] to = gap What.ByteOrderMark 0 (begin doc) ++ gap What.WhiteSpace (begin doc) to
skipped_before doc (piece ∷ before) to = gap What.WhiteSpace piece.to to

-- THE LAYOUT of a document by pieces, which are given the latest first; its parts stand in the order of the calls. Each piece stands behind what was skipped
-- before it
unfoldable pub layout : List ℕ → List Span → List Laid
layout doc [] = []
layout doc (piece ∷ before) = layout doc before ++ (skipped_before doc before piece.from ++ (laid What.Piece piece ∷ []))

-- the pieces of answers, the latest first, "pieces of refusals" too
abbrev pub pieces : List Answer → List Span
pieces answers = map (λ (a : Answer). (values_of a).piece) answers

-- ---- what is said of a layout

-- from `from` to `to` each part begins where the one before it ends: no gap, no overlap
unfoldable pub Chained : ℕ → List Laid → ℕ → Type 0
Chained from [] to = from ≡ to
Chained from (x ∷ rest) to = (x.span.from ≡ from) × (x.span.from ≤ x.span.to) × Chained x.span.to rest to

-- a part is one of these
unfoldable pub AmongParts : Laid → List Laid → Type 0
AmongParts x [] = ⊥
AmongParts x (y ∷ rest) = (x ≡ y) ⊎ AmongParts x rest

abbrev pub is_piece : What → Bool
is_piece What.ByteOrderMark = false
is_piece What.WhiteSpace = false
is_piece What.Piece = true

-- the spans of the parts that are pieces, in order
unfoldable pub pieces_in : List Laid → List Span
pieces_in [] = []
pieces_in (x ∷ rest) = pick (is_piece x.what) (x.span ∷ pieces_in rest) (pieces_in rest)

-- the byte at a place is one of a span's
abbrev pub has_byte : ℕ → Span → Bool
has_byte place s = all_of (leb s.from place ∷ ltb place s.to ∷ [])

-- how many parts it is in
abbrev pub times_set : ℕ → List Laid → ℕ
times_set place parts = count (λ (x : Laid). has_byte place x.span) parts

-- THE STATEMENT of a document that was read with these settings, by answers with these pieces, the latest first, up to this position. Of the reader `within`,
-- `follow` and `white` say something: `once`, `ahead` and `order` come of `follow`, and the rest holds of any pieces, by the definition of the layout
pub record SetOnce (doc : List ℕ) (c : Config) (answered : List Span) (position : ℕ) : Type 0 where
  -- the position lies in the document
  pub within : position ≤ length doc
  -- the parts follow each other from 0 to the position, without gap or overlap
  pub follow : Chained 0 (layout doc answered) position
  -- "each byte before the position is in exactly one" of them, and no other byte is in any
  pub once : (place : ℕ) → place < position → times_set place (layout doc answered) ≡ 1
  pub ahead : (place : ℕ) → position ≤ place → times_set place (layout doc answered) ≡ 0
  -- "no piece starts before an earlier one ends", nor does any part
  pub order : (before between behind : List Laid) (x y : Laid) → layout doc answered ≡ before ++ (x ∷ (between ++ (y ∷ behind))) → x.span.to ≤ y.span.from
  -- the parts that are pieces are those of the answers, one for each, in the order of the calls
  pub each : pieces_in (layout doc answered) ≡ reverse answered
  -- what was skipped as white space is nothing else, and none is skipped unless `trim_text_start` is on
  pub white : (s : Span) → AmongParts (laid What.WhiteSpace s) (layout doc answered) → (c.trim_text_start ≡ true) × WhiteWithin doc s.from s.to
  -- the byte order mark is EF BB BF and stands at 0, if at all
  pub byte_order_mark : (s : Span) → AmongParts (laid What.ByteOrderMark s) (layout doc answered) → (s ≡ span 0 3) × (bytes doc s ≡ bom)
