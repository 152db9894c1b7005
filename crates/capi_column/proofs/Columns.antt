-- What the column reader of a host answers and leaves, from the promises of what it calls. Assumes nothing.
use Prim.Native.Nat.{ℕ, ◌≤◌, ◌<◌}
use mathlib.Core.Path.{◌≡◌, refl, ap, ◌∙◌}
use mathlib.Core.List.{List, [], ◌∷◌}
use lib.ListN.{length}
use lib.Seq.{sets, sets-eq}
use borrow.Author.Rules.{rules}
use Rattle.ground.proofs.Choices.{pick_lt, pick_nlt}
use Rattle.ground.proofs.Slots.{slots}
use Rattle.state.specs.declared.answer.Values.{Values}
use Rattle.columns.specs.declared.Summary.{Summary}
use Rattle.columns.specs.declared.order.Order.{Order}
use Rattle.columns.specs.Order.{lower_number}
use Rattle.columns.specs.Outcome.{values_of}
use Rattle.columns.specs.Column.{Reading, read_in, filled_with, Columned}
use Rattle.capi_column.specs.Columns.{bad_number, summary_numbers, column_slots, ColumnRead}

-- the numbers written one after the other
pub summary_put : (xs : List ℕ) (count low : ℕ) (order : Order) (v : Values) → low ≡ lower_number order → column_slots ≤ length xs
    → sets xs 0
    (count ∷ low ∷ v.number ∷ v.place ∷ v.piece.from ∷ v.piece.to ∷ v.expected.from ∷ v.expected.to ∷ v.found.from ∷ v.found.to ∷ [])
    ≡ filled_with (summary_numbers count order v) xs
unfolding summary_numbers
summary_put xs count low order v e l = rw (← e) (sets-eq (count ∷ low ∷ v.number ∷ v.place ∷ v.piece.from ∷ v.piece.to ∷ v.expected.from ∷ v.expected.to ∷ v.found.from ∷ v.found.to ∷ []) xs 0 l)

module _ (doc stack column answer : List ℕ) where
  abbrev read : Reading
  read = read_in doc stack (length column)

  pub column_not : (n : ℕ) → length answer < column_slots → n ≡ bad_number → ColumnRead doc stack column answer n stack column answer
  column_not n l e =
      record { said = pick_lt _ _ _ _ _ l e; names = pick_lt _ _ _ _ _ l refl; times = pick_lt _ _ _ _ _ l refl; slots = pick_lt _ _ _ _ _ l refl }

  pub column_done : (s : Summary) (v : Values) (stack' column' answer' : List ℕ) → column_slots ≤ length answer → Columned doc stack column s stack' column'
      → v ≡ values_of s.outcome → answer' ≡ filled_with (summary_numbers s.count s.order v) answer → ColumnRead doc stack column answer v.number stack' column' answer'
  column_done s v stack' column' answer' l c e f =
      let w : v ≡ values_of read.outcome = e ∙ ap values_of c.refusal in
      record {
        said = pick_nlt _ _ _ _ _ l (ap (λ (x : Values). x.number) w);
        names = pick_nlt _ _ _ _ _ l c.names;
        times = pick_nlt _ _ _ _ _ l c.slots;
        slots = pick_nlt _ _ _ _ _ l (rw (← c.count, ← c.order, ← w) f);
      }

pub ruleset columns = (rules, slots, summary_put, column_not, column_done)
