-- The names that are open: as the stack has them, and as the answers given so far say.
use Rattle.std.specs.Prelude.{ℕ, zero, suc, ◌+◌, List, [], ◌∷◌, length, eqb}
use Rattle.ground.specs.Choose.{pick}
use Rattle.state.specs.declared.place.Span.{Span}
use Rattle.state.specs.declared.answer.Answer.{Answer}
use Rattle.reader.specs.Names.{entry, latest, name_of}
use Rattle.demands.specs.Run.{World}
use Rattle.demands.specs.Answers.{is_start, is_end, is_mismatch}

-- the d names that a stack holds, the latest first
unfoldable pub entries : List ℕ → ℕ → List Span
entries stack zero = []
entries stack (suc d) = entry stack d ∷ entries stack d

-- the open names, the latest first, read from the stack's slots
abbrev pub opened : World → List Span
opened w = entries w.stack w.reader.depth.0

-- the latest of them; 0..0 where none is open
abbrev pub newest : World → Span
newest w = latest w.stack w.reader.depth.0

-- names without the latest
abbrev pub rest : List Span → List Span
rest [] = []
rest (name ∷ others) = others

-- the names that answers leave open, told from the answers alone: a Start adds its own, an End or a mismatch takes the latest away
unfoldable pub left_open : List Answer → List Span
left_open [] = []
left_open (a ∷ before) =
    pick (is_start a)
    (name_of a ∷ left_open before)
    (pick (is_end a)
    (rest (left_open before))
    (pick (is_mismatch a) (rest (left_open before)) (left_open before)))

-- how many of the Ends came with nothing open
unfoldable pub strays : List Answer → ℕ
strays [] = 0
strays (a ∷ before) = pick (is_end a) (pick (eqb (length (left_open before)) 0) 1 0) 0 + strays before
