-- The tests of a byte joined, and the runs of specs/Grammar as the loops and `trim_start` give them. Assumes nothing.
use Prim.Native.Nat.{ℕ, ◌+◌, ◌≤◌, ◌<◌}
use mathlib.Core.Path.{◌≡◌, refl, ap, ◌∙◌}
use mathlib.Core.List.{List}
use mathlib.Core.Bool.{Bool, true, false, ◌||◌}
use lib.ListN.{length, get_or, drop}
use lib.Dec.{eqb}
use borrow.Author.Rules.{rules}
use Rattle.ground.specs.Choose.{pick}
use Rattle.ground.specs.Part.{part}
use Rattle.ground.specs.Bytes.{lt}
use Rattle.ground.proofs.Lists.{part_from}
use Rattle.white.specs.White.{until, leading}
use Rattle.white.proofs.Runs.{run_past, run_here, run_turn}
use Rattle.attributes.specs.Grammar.{ends_name, ends_value, past, name_end, value_end}

-- ---- tests joined

pub either : (a b : Bool) → (a || b) ≡ pick a true b
either true b = refl
either false b = refl

-- where w and q are what calls say of the byte
pub one_of_three_lem : (a b w q : Bool) → a ≡ w → b ≡ q → (x : Bool) → ((a || x) || b) ≡ pick w true (pick x true q)
one_of_three_lem true b w q e f x = rw (← e) refl
one_of_three_lem false b w q e f true = rw (← e) refl
one_of_three_lem false b w q e f false = rw (← e) f

pub ruleset bytes = (rules, either, one_of_three_lem)

-- ---- runs

-- what `trim_start` answers for the rest of a content
pub past_is : (s : List ℕ) (at r : ℕ) → r ≡ at + leading (part s at (length s)) → r ≡ past s at
unfolding past
past_is s at r e = e ∙ ap (λ (bs : List ℕ). at + leading bs) (part_from s at)

pub name_start : (s : List ℕ) (from : ℕ) → name_end s from ≡ from + until ends_name (drop from s)
unfolding name_end
name_start s from = refl

pub value_start : (s : List ℕ) (quote from : ℕ) → value_end s quote from ≡ from + until (ends_value quote) (drop from s)
unfolding value_end
value_start s quote from = refl

pub ruleset name_turns = (rules, name_start)

-- in a value, where the code's own test of a byte is joined of two
module _ (s : List ℕ) (quote n i : ℕ) (v : n ≡ i + until (ends_value quote) (drop i s)) where
  pub value_past : length s ≤ i → i ≡ n
  value_past = run_past (ends_value quote) s n i v

  module _ (h : i < length s) where
    pub value_here : (eqb (get_or s i 0) quote || eqb (get_or s i 0) lt) ≡ true → i ≡ n
    value_here = run_here (ends_value quote) s n i v h _ (either (eqb (get_or s i 0) quote) (eqb (get_or s i 0) lt))

    pub value_turn : (eqb (get_or s i 0) quote || eqb (get_or s i 0) lt) ≡ false → n ≡ i + 1 + until (ends_value quote) (drop (i + 1) s)
    value_turn = run_turn (ends_value quote) s n i v h _ (either (eqb (get_or s i 0) quote) (eqb (get_or s i 0) lt))

pub ruleset value_turns = (rules, value_start, value_past, value_here, value_turn)
