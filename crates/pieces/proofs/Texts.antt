-- Text by its parts: what is found in the first bytes of a piece is found in the piece, and where nothing is, the others decide. Assumes nothing.
use Prim.Native.Nat.{ℕ, ◌+◌, ◌-◌, ◌≤◌, ◌<◌}
use mathlib.Core.Path.{◌≡◌, sym, ap, ◌∙◌, subst}
use mathlib.Core.Bool.{Bool, true, false}
use mathlib.Core.List.{List}
use mathlib.Core.Logic.{⊎_elim}
use native.Mathlib.Omega.{arith}
use native.Mathlib.Decide.{dec_lt}
use lib.ListN.{length, get_or}
use lib.Dec.{eqb}
use borrow.Author.Tests.{eqb-false}
use Rattle.ground.specs.Bytes.{amp, lt}
use Rattle.ground.specs.Part.{part}
use Rattle.ground.proofs.Choices.{choices, or_left, or_right}
use Rattle.ground.proofs.Lists.{part_byte, part_length}
use Rattle.blocks.specs.Blocks.{either_of, NoneOf, YesWhere}
use Rattle.parser.specs.First.{Among, text_ends, text_found, TextEnd}
use Rattle.parser.specs.declared.first.Found.{Found}
use Rattle.parser.proofs.Words.{text_gives, text_end_lem}

module _ (s : List ℕ) (from : ℕ) where
  -- nothing at the end or past it
  pub text_past : length s ≤ from → Found.End ≡ text_found s from
  text_past h = sym ((text_end_lem s from).1 (λ p e. omega (arith, e.after, e.within)))

  -- none of the last bytes is one
  pub text_none : (q : Bool) (n : ℕ) → YesWhere q (NoneOf (either_of lt amp) s from n) → q ≡ true → n ≡ length s - from → Found.End ≡ text_found s from
  text_none q n w e l = sym ((text_end_lem s from).1 (λ p t. other p t ((w.yes e).none (p - from) (omega (arith, t.after, t.within)))))
    where
      other : (p : ℕ) → TextEnd s from p → either_of lt amp (get_or s (from + (p - from)) 0) ≡ false → ⊥
      other p t f =
          let here : from + (p - from) ≡ p = omega (arith, t.after) in
          let g : either_of lt amp (get_or s p 0) ≡ false = ap (λ (i : ℕ). either_of lt amp (get_or s i 0)) (sym here) ∙ f in
          ⊎_elim (eqb-false (get_or s p 0) lt (or_left (eqb (get_or s p 0) lt) (eqb (get_or s p 0) amp) g))
          (λ x. ⊎_elim (eqb-false (get_or s p 0) amp (or_right (eqb (get_or s p 0) lt) (eqb (get_or s p 0) amp) g)) (λ z. z) x) t.among

  -- the first bytes
  module _ (cut : ℕ) (h : cut ≤ length s) where
    abbrev first : List ℕ
    first = part s 0 cut

    first_byte : (p : ℕ) → p < cut → get_or first p 0 ≡ get_or s p 0
    first_byte p l = part_byte s 0 cut p h (omega arith) ∙ ap (λ (i : ℕ). get_or s i 0) (omega arith)

    first_length : length first ≡ cut
    first_length = part_length s 0 cut (omega arith) h ∙ omega arith

    to_first : (p : ℕ) → p < cut → TextEnd s from p → TextEnd first from p
    to_first p l t = record { after = t.after; within = omega (arith, first_length); among = subst (Among text_ends) (sym (first_byte p l)) t.among }

    text_first : (f : Found) (p : ℕ) → f ≡ text_found first from → f ≡ Found.At p → Found.At p ≡ text_found s from
    text_first f p e g =
        let least = ((text_gives first from).found p).0 (sym e ∙ g) in
        let t = least.has in
        let l : p < cut = omega (arith, t.within, first_length) in
        sym (((text_gives s from).found p).1 (record {
          has = record { after = t.after; within = omega arith; among = subst (Among text_ends) (first_byte p l) t.among };
          before = λ k m u. least.before k m (to_first k (omega arith) u);
        }))

    text_others : (f r : Found) → f ≡ text_found first from → f ≡ Found.End → from ≤ cut → r ≡ text_found s cut → r ≡ text_found s from
    text_others f r e g m d = by r (sym d)
      where
        none : (k : ℕ) → k < cut → TextEnd s from k → ⊥
        none k l t = (text_end_lem first from).0 (sym e ∙ g) k (to_first k l t)

        behind : (k : ℕ) → TextEnd s from k → TextEnd s cut k
        behind k t = elim (dec_lt k cut) [
          | yes l ↦ absurd (none k l t)
          | no l ↦ record { after = omega arith; within = t.within; among = t.among }
        ]

        by : (x : Found) → text_found s cut ≡ x → x ≡ text_found s from
        by (Found.At p) x =
            let least = ((text_gives s cut).found p).0 x in
            let t = least.has in
            sym (((text_gives s from).found p).1 (record {
              has = record { after = omega (arith, t.after); within = t.within; among = t.among };
              before = λ k l u. least.before k l (behind k u);
            }))
        by Found.End x = sym ((text_end_lem s from).1 (λ k t. (text_end_lem s cut).0 x k (behind k t)))

  -- as the code has them: k bytes stand behind them
  module _ (k : ℕ) (l : k ≤ length s - from) (m : from < length s) (xs : List ℕ) (e : xs ≡ part s 0 (length s - k)) (f : Found) (d : f ≡ text_found xs from) where
    in_first : f ≡ text_found (part s 0 (length s - k)) from
    in_first = d ∙ ap (λ (ys : List ℕ). text_found ys from) e

    pub found_first : (p : ℕ) → f ≡ Found.At p → Found.At p ≡ text_found s from
    found_first p g = text_first (length s - k) (omega arith) f p in_first g

    pub found_behind : (r : Found) → f ≡ Found.End → r ≡ text_found s (length s - k) → r ≡ text_found s from
    found_behind r g = text_others (length s - k) (omega arith) f r in_first g (omega arith)

pub ruleset texts = (choices, text_past, text_none, found_first, found_behind)
