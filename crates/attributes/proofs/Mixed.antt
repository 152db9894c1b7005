-- The marks of names: the turns of the loop, and what a mark that is added does. Assumes nothing.
use Prim.Native.Nat.{ℕ, ◌+◌, ◌*◌, ◌/◌, ◌%◌, ◌≤◌, ◌<◌}
use mathlib.Core.Path.{◌≡◌, refl, sym, ap, ◌∙◌}
use mathlib.Core.List.{List}
use native.Mathlib.Omega.{arith}
use native.Mathlib.Nat.{mul-le-mul_left, mul-lt-mul_of_pos_right, div-lt_iff_lt-mul}
use lib.ListN.{length, get_or, drop}
use mir.Val.{Fits}
use mir.Syntax.{w64}
use borrow.Author.Rules.{rules}
use Rattle.ground.specs.Part.{part}
use Rattle.ground.proofs.Lists.{drop_next, drop_done}
use Rattle.attributes.specs.Inside.{Marks, mixed, mark_of}

-- the loop stands at i of the name with what is mixed so far
module _ (name : List ℕ) (i mark : ℕ) (v : mixed 0 name ≡ mixed mark (drop i name)) where
  pub mark_turn : (b : ℕ) → i < length name → b ≡ get_or name i 0 → mixed 0 name ≡ mixed ((mark + b) * 0x93D765DD % 0x100000000) (drop (i + 1) name)
  unfolding mixed
  mark_turn b h e = v ∙ rw (drop_next name i h, ← e) refl

  pub mark_is : length name ≤ i → mixed 0 name ≡ mark
  unfolding mixed
  mark_is h = v ∙ rw (drop_done name i h) refl

  pub mark_end : (s : List ℕ) (from to marks : ℕ) → length name ≤ i → name ≡ part s from to → mark * marks / 0x100000000 ≡ mark_of marks (part s from to)
  unfolding mark_of
  mark_end s from to marks h e = ap (λ (n : ℕ). n * marks / 0x100000000) (sym (mark_is h)) ∙ ap (λ (w : List ℕ). mixed 0 w * marks / 0x100000000) e

pub mark_start : (name : List ℕ) → mixed 0 name ≡ mixed 0 (drop 0 name)
mark_start name = refl

-- a part of so many marks is one of them, and the product fits
module _ (mark marks : ℕ) (l : mark < 0x100000000) (m : Marks marks) where
  pub mark_below : mark * marks / 0x100000000 < marks
  mark_below =
      let z : mark * marks < 0x100000000 * marks = mul-lt-mul_of_pos_right l m.some in
      (div-lt_iff_lt-mul {k = 0x100000000} {x = mark * marks} {y = marks} (omega arith)).1 (omega arith)

  pub mark_fits : Fits w64 (mark * marks)
  mark_fits = record { fits = let z : mark * marks ≤ mark * 65536 = mul-le-mul_left mark m.most in omega arith }

pub ruleset mark_turns = (rules, mark_start, mark_turn, mark_end, mark_below, mark_fits)
