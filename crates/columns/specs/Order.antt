-- Whether times never decrease (document 02).
use Rattle.std.specs.Prelude.{ℕ, ◌+◌, List, [], ◌∷◌, get_or, ltb}
use Rattle.ground.specs.Choose.{pick}
use Rattle.columns.specs.declared.order.Order.{Order}

-- the first index lower than the one before it, among times that come after `before`; the first of them has the index i
unfoldable pub order_from : ℕ → ℕ → List ℕ → Order
order_from i before [] = Order.Kept
order_from i before (t ∷ ts) = pick (ltb t before) (Order.LowerAt i) (order_from (i + 1) t ts)

-- "whether the column never decreases, and if not, the first index lower than the one before it"
abbrev pub order_of : List ℕ → Order
order_of [] = Order.Kept
order_of (t ∷ ts) = order_from 1 t ts

-- the order as a number: the index; 0, which has none before it, where the column never decreases
abbrev pub lower_number : Order → ℕ
lower_number Order.Kept = 0
lower_number (Order.LowerAt i) = i

-- the time with the index i
abbrev pub time : List ℕ → ℕ → ℕ
time ts i = get_or ts i 0
