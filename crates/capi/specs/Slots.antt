-- Numbers written into lent slots, and a span's place in the document.
use Rattle.std.specs.Prelude.{ℕ, List, [], ◌∷◌, ◌++◌, length, drop, ltb}
use Rattle.ground.specs.Choose.{pick}
use Rattle.state.specs.declared.place.Span.{Span}
use Rattle.state.specs.Place.{span}

-- slots that begin with the numbers written, and go on as before; where there is no room for all of them nothing is written
unfoldable pub put : List ℕ → List ℕ → List ℕ
put xs vs = pick (ltb (length xs) (length vs)) xs (vs ++ drop (length vs) xs)

-- a span that lies in n bytes; the empty one at their end for one that does not (document 01: "a span that doesn't lie in the slice gives the empty part
-- at its end")
unfoldable pub placed : ℕ → Span → Span
placed n s = pick (ltb s.to s.from) (span n n) (pick (ltb n s.to) (span n n) s)

-- a part of the document, and how many slots that are
abbrev pub part_numbers : Span → List ℕ
part_numbers s = s.from ∷ s.to ∷ []

abbrev pub part_slots : ℕ
part_slots = 2
