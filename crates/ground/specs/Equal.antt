-- Whether bytes begin with others, and whether they are the same.
use Rattle.std.specs.Prelude.{ℕ, List, [], ◌∷◌, Bool, true, false, length, eqb}
use Rattle.ground.specs.Choose.{pick}

-- the first list begins with the second
unfoldable pub begins : List ℕ → List ℕ → Bool
begins bs [] = true
begins [] (k ∷ ks) = false
begins (b ∷ bs) (k ∷ ks) = pick (eqb b k) (begins bs ks) false

-- the two are as long, and the first begins with the second
unfoldable pub same : List ℕ → List ℕ → Bool
same a b = pick (eqb (length a) (length b)) (begins a b) false
