-- Which scans feeding leads to, by the code's own tests. Assumes nothing.
use Prim.Native.Nat.{ℕ, ◌+◌, ◌-◌, ◌≤◌, ◌<◌}
use mathlib.Core.Path.{◌≡◌, sym, ap, ◌∙◌}
use mathlib.Core.Bool.{Bool, false}
use native.Mathlib.Omega.{arith}
use lib.Dec.{eqb, leb}
use borrow.Author.Tests.{eq-eqb, ne_eqb, le-leb, lt-leb}
use mir.Val.{Fits}
use mir.Syntax.{w64}
use Rattle.ground.proofs.Choices.{choices, by_case}
use Rattle.parser.specs.Marks.{passing}
use Rattle.parser.specs.declared.element.ElementState.{ElementState}
use Rattle.parser.specs.declared.marks.Marks.{Marks}
use Rattle.pieces.specs.declared.scan.Kind.{Kind}
use Rattle.pieces.specs.declared.scan.State.{State}
use Rattle.state.specs.declared.answer.Error.{Error}
use Rattle.state.specs.declared.answer.Numbered.{Numbered}
use Rattle.state.specs.Values.{numbered_of}
use Rattle.pieces.specs.declared.scan.Told.{Told}
use Rattle.pieces.specs.Fed.{begins, told_number}
use Rattle.pieces.specs.declared.scan.What.{What}
use Rattle.pieces.specs.Kinds.{need_of, opener_of}
use Rattle.pieces.specs.Reached.{quotes_reached, marks_reached, state_reached}

-- the case of the code's own match
pub quotes_case : (taken : ℕ) (x : Bool) (q r : ElementState) → q ≡ r → x ≡ quotes_reached taken r → x ≡ quotes_reached taken q
quotes_case taken = by_case (quotes_reached taken)

pub state_case : (taken : ℕ) (x : Bool) (s t : State) → s ≡ t → x ≡ state_reached taken t → x ≡ state_reached taken s
state_case taken = by_case (state_reached taken)

-- the numbers of a kind are small
pub opener_most : (k : Kind) → opener_of k ≤ 4
opener_most Kind.Pi = omega arith
opener_most Kind.Comment = omega arith
opener_most Kind.CData = omega arith

pub need_most : (k : Kind) → need_of k ≤ 2
need_most Kind.Pi = omega arith
need_most Kind.Comment = omega arith
need_most Kind.CData = omega arith

-- by the code's tests of marks, with the numbers of the kind
module _ (taken : ℕ) (k : Kind) (m : Marks) (opener : ℕ) (e : opener ≡ opener_of k) where
  module _ (need : ℕ) (f : need ≡ need_of k) where
    pub sum_fits : m.seen ≤ need → Fits w64 (opener + m.seen)
    sum_fits h = record { fits = omega (arith, opener_most k, need_most k) }

    pub behind_fits : m.left ≡ 0 → m.seen ≤ need → leb (opener + m.seen) taken ≡ marks_reached taken k m
    behind_fits z h = simp (eq-eqb m.left 0 z, ← f, le-leb m.seen need h, ← e)

    pub behind_many : m.left ≡ 0 → need < m.seen → false ≡ marks_reached taken k m
    behind_many z h = simp (eq-eqb m.left 0 z, ← f, lt-leb m.seen need h)

  module _ (n : m.left ≡ 0 → ⊥) where
    pub opener_fits : m.seen ≡ 0 → m.left ≤ opener → eqb taken (opener - m.left) ≡ marks_reached taken k m
    opener_fits z h = simp (ne_eqb m.left 0 n, eq-eqb m.seen 0 z, ← e, le-leb m.left opener h)

    pub opener_past : m.seen ≡ 0 → opener < m.left → false ≡ marks_reached taken k m
    opener_past z h = simp (ne_eqb m.left 0 n, eq-eqb m.seen 0 z, ← e, lt-leb m.left opener h)

    pub opener_marked : (m.seen ≡ 0 → ⊥) → false ≡ marks_reached taken k m
    opener_marked z = simp (ne_eqb m.left 0 n, ne_eqb m.seen 0 z)

pub ruleset reacheds = (choices, quotes_case, state_case, sum_fits, behind_fits, behind_many, opener_fits, opener_past, opener_marked)

-- the number of a refusal
pub number_case : (t : Told) (error : Error) (said : Numbered) → t ≡ Told.Refused error → said ≡ numbered_of error → said.number ≡ told_number t
number_case t error said e f = ap (λ (n : Numbered). n.number) f ∙ sym (ap told_number e)

pub number_none : (t u : Told) → t ≡ u → 0 ≡ told_number u → 0 ≡ told_number t
number_none t u e f = f ∙ sym (ap told_number e)

pub ruleset numbers = (choices, number_case, number_none)

-- what a fresh scan is in
pub begins_case : (x : State) (w v : What) → w ≡ v → x ≡ begins v → x ≡ begins w
begins_case = by_case begins

pub begins_marked : (w : What) (k : Kind) (n : ℕ) → w ≡ What.Marked k → n ≡ opener_of k → State.Marked k (passing n) ≡ begins w
begins_marked w k n e f = ap (λ (n : ℕ). State.Marked k (passing n)) f ∙ ap begins (sym e)

pub ruleset begin_cases = (choices, begins_marked, begins_case)
