-- Why a record or a list is refused, and the way down that answers tell (document 02, "Which rows are open").
use Rattle.std.specs.Prelude.{ℕ, suc, ◌-◌, ◌≤◌, ◌<◌, min, ◌≡◌, List, [], ◌∷◌, ◌++◌, reverse, length, take, drop}
use Rattle.state.specs.declared.place.Span.{Span}
use Rattle.state.specs.declared.place.Position.{Position}
use Rattle.state.specs.declared.place.Depth.{Depth}
use Rattle.state.specs.declared.answer.Answer.{Answer}
use Rattle.state.specs.Limits.{capacity}
use Rattle.state.specs.Place.{span}
use Rattle.reader.specs.Names.{entry, bytes}
use Rattle.demands.specs.Run.{World}
use Rattle.demands.specs.Open.{left_open}
use Rattle.rows.specs.declared.row.Row.{Row}
use Rattle.rows.specs.declared.row.Filled.{Filled}
use Rattle.rows.specs.Rows.{record_of, Listed}

-- "start ≤ end ≤ position", of the name with d names around it
pub record Ordered (stack : List ℕ) (position : Position) (d : ℕ) : Type 0 where
  pub ordered : (entry stack d).from ≤ (entry stack d).to
  pub behind : (entry stack d).to ≤ position.0

module _ (stack : List ℕ) (position : Position) (names : Depth) where
  -- "17 for depth 0 or above the names open", for "depth .. over capacity", and where the "entry read is not start ≤ end ≤ position"
  pub data RefusesOne (depth : Depth) : Type 0 where
    over_capacity : capacity (length stack) < names.0 → RefusesOne depth
    at_nought : depth.0 ≡ 0 → RefusesOne depth
    above_the_names : names.0 < depth.0 → RefusesOne depth
    out_of_order : (Ordered stack position (depth.0 - 1) → ⊥) → RefusesOne depth

  -- "any entry read": of the outermost names, as many as are open and have room
  pub data RefusesAll (room : ℕ) : Type 0 where
    over_capacity : capacity (length stack) < names.0 → RefusesAll room
    out_of_order : (d : ℕ) → d < names.0 → d < room → (Ordered stack position d → ⊥) → RefusesAll room

-- ---- the way down

-- names, the outermost first, as records from a depth on
unfoldable pub numbered : ℕ → List Span → List Row
numbered depth [] = []
numbered depth (name ∷ names) = record_of name depth ∷ numbered (suc depth) names

-- the names that answers leave open: "outermost name first, each with its start, end and depth (from 1)"
unfoldable pub way_down : List Answer → List Row
way_down answers = numbered 1 (reverse (left_open answers))

-- a list that is lent where the answers so far are these: as many records are filled as names are open and have room, they are the way down, and the others stay
pub record Shows (answers : List Answer) (list : List Row) (answer : Filled) (list' : List Row) : Type 0 where
  pub count : answer ≡ Filled.Rows (min (length (left_open answers)) (length list))
  pub rows : list' ≡ take (length list) (way_down answers) ++ drop (length (left_open answers)) list

-- whatever list is lent where a run stands, it shows the way down
abbrev pub WayShown : World → Type 0
WayShown w =
    (list : List Row) (answer : Filled) (list' : List Row) → Listed w.stack w.reader.position w.reader.depth list answer list' → Shows w.answers list answer list'

-- the bytes of a record's name
abbrev pub name_bytes : List ℕ → Row → List ℕ
name_bytes doc row = bytes doc (span row.start.0 row.end.0)
