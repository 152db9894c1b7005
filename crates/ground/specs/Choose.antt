-- A choice by a test, and tests that all have to pass.
use Rattle.std.specs.Prelude.{List, [], ◌∷◌, Bool, true, false}

module _ {A : Type 0} where
  abbrev pub pick : Bool → A → A → A
  pick true a b = a
  pick false a b = b

-- every test of the list passes
abbrev pub all_of : List Bool → Bool
all_of [] = true
all_of (t ∷ ts) = pick t (all_of ts) false
