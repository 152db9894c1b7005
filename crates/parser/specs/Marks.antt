-- The scans of processing instructions, comments and CDATA: the first `>` with its marks, `?`, `--` or `]]`, just before (document 01, "Markup").
use Rattle.std.specs.Prelude.{ℕ, ◌+◌, ◌-◌, ◌≤◌, ◌<◌, ◌≡◌, List, ◌⊎◌, length, get_or, eqb, leb, ltb}
use Rattle.ground.specs.Choose.{pick}
use Rattle.ground.specs.Bytes.{gt, hyphen, question, close_bracket}
use Rattle.parser.specs.Machine.{Next, go, halt, Scan, found, going, scan_at}
use Rattle.parser.specs.declared.marks.Marks.{Marks}
use Rattle.parser.specs.declared.marks.Found.{Found}
use Rattle.parser.specs.declared.marks.Found.TheVariants.{At, Open}

-- n marks stand just before, the opener being past
abbrev pub seeing : ℕ → Marks
seeing n = record { left = 0; seen = n }

-- n bytes of the opener are yet to pass
abbrev pub passing : ℕ → Marks
passing n = record { left = n; seen = 0 }

-- the bytes of the opener pass; then marks are counted, up to `need`, and `>` stops the scan where there are as many, and is never counted
abbrev pub marks_step : ℕ → ℕ → Marks → ℕ → Next Marks
marks_step mark need m b =
    pick (eqb m.left 0)
    (pick (eqb b gt) (pick (leb need m.seen) halt (go (seeing 0)))
    (pick (eqb b mark) (pick (ltb m.seen need) (go (seeing (m.seen + 1))) (go (seeing m.seen))) (go (seeing 0))))
    (go (passing (m.left - 1)))

-- the scan as the answer that it gives
abbrev pub marks_answer : Scan Marks → Found
marks_answer (found p) = At p
marks_answer (going m) = Open m

-- by cases on the answer
module _ {A : Type 0} where
  abbrev pub by_marks : Found → (ℕ → A) → A → A
  by_marks (At p) f a = f p
  by_marks (Open m) f a = a

-- a piece that starts at `from` with an opener of `opener` bytes
abbrev pub marks_found : ℕ → ℕ → ℕ → List ℕ → ℕ → Found
marks_found opener mark need s from = marks_answer (scan_at (marks_step mark need) (passing opener) s from)

-- a `?`
abbrev pub pi_found : List ℕ → ℕ → Found
pi_found = marks_found 0 question 1

-- `--`, of which no byte belongs to the opener `<!--`
abbrev pub comment_found : List ℕ → ℕ → Found
comment_found = marks_found 4 hyphen 2

-- `]]`
abbrev pub cdata_found : List ℕ → ℕ → Found
cdata_found = marks_found 0 close_bracket 2

-- ---- the same in words

-- at p stands a `>`, at offset `least` or more of the piece that starts at `from`, and the `need` bytes just before it are marks
pub record MarkedEnd (mark need least : ℕ) (s : List ℕ) (from p : ℕ) : Type 0 where
  pub after : from + least ≤ p
  pub within : p < length s
  pub closes : get_or s p 0 ≡ gt
  pub marks : (j : ℕ) → 0 < j → j ≤ need → get_or s (p - j) 0 ≡ mark

-- "the first `>` with a `?` just before"; the `?` belongs to the piece, so the `>` stands at offset 1 or more
abbrev pub PiEnd : List ℕ → ℕ → ℕ → Type 0
PiEnd = MarkedEnd question 1 1

-- "the first `>` at offset 6 or more with `--` just before"
abbrev pub CommentEnd : List ℕ → ℕ → ℕ → Type 0
CommentEnd = MarkedEnd hyphen 2 6

-- "the first `>` with `]]` just before"; both belong to the piece, so the `>` stands at offset 2 or more
abbrev pub CDataEnd : List ℕ → ℕ → ℕ → Type 0
CDataEnd = MarkedEnd close_bracket 2 2

-- how the bytes of a piece end: so much of its opener is left; the last `seen` bytes are marks, none of them in the opener, at most as many as needed;
-- and where they are fewer, no further mark stands before them
pub record MarksLeft (mark need opener : ℕ) (s : List ℕ) (from : ℕ) (m : Marks) : Type 0 where
  pub left : m.left ≡ opener - (length s - from)
  pub most : m.seen ≤ need
  pub room : m.seen ≤ length s - (from + opener)
  pub marks : (j : ℕ) → 0 < j → j ≤ m.seen → get_or s (length s - j) 0 ≡ mark
  pub no_more : m.seen < need → (m.seen ≡ length s - (from + opener)) ⊎ (get_or s (length s - (m.seen + 1)) 0 ≡ mark → ⊥)
