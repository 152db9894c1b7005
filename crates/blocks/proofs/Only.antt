-- No second answer meets the promise of a block test. Assumes nothing.
use Prim.Native.Nat.{ℕ, ◌+◌, ◌<◌}
use mathlib.Core.Path.{◌≡◌, refl, sym, ◌∙◌}
use mathlib.Core.List.{List}
use mathlib.Core.Bool.{Bool, true, false}
use native.Mathlib.Omega.{arith}
use native.Mathlib.Decide.{dec_lt}
use lib.ListN.{length}
use Rattle.ground.proofs.Choices.{clash}
use Rattle.blocks.specs.Blocks.{LeastOf, Clears, YesWhere}

pub only_one_told : (A : Type 0) (q q' : Bool) → YesWhere q A → YesWhere q' A → q ≡ q'
only_one_told A true q' t u = sym (u.only (t.yes refl))
only_one_told A false true t u = t.only (u.yes refl)
only_one_told A false false t u = refl

module _ (test : ℕ → Bool) (s : List ℕ) (at n : ℕ) where
  not_less : (r r' : ℕ) → LeastOf test s at n r → LeastOf test s at n r' → r < r' → ⊥
  not_less r r' l m h = clash (test _) (l.next (omega (arith, m.most))) (m.none r h)

  pub only_one_before : (r r' : ℕ) → Clears test s at n r → Clears test s at n r' → r ≡ r'
  only_one_before r r' b c = elim (dec_lt (length s) (at + n)) [
    | yes h ↦ b.short h ∙ sym (c.short h)
    | no h ↦ let l = b.there (omega arith) in let m = c.there (omega arith) in
        elim (dec_lt r r') [
          | yes k ↦ absurd (not_less r r' l m k)
          | no k ↦ elim (dec_lt r' r) [
            | yes j ↦ absurd (not_less r' r m l j)
            | no j ↦ omega arith
          ]
        ]
  ]
