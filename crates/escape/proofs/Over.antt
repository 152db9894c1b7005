-- Bytes put over others: through a part that is lent on, and one after the other. Assumes nothing.
use Prim.Native.Nat.{ℕ, ◌+◌, ◌-◌, ◌≤◌}
use mathlib.Core.Path.{◌≡◌, sym, ap, ◌∙◌}
use mathlib.Core.List.{List, [], ◌++◌, append_assoc, append-nil}
use native.Mathlib.Omega.{arith}
use native.Mathlib.Nat.{add-zero}
use lib.ListN.{length, take, drop, length-drop, length-append, take-append-drop}
use lib.Seq.{paste, take-length, take_all, drop-drop, length-paste, take-paste, drop-paste}
use borrow.Rule.Slice.PartMut.{mid_of, put_mid}
use Rattle.ground.proofs.Lists.{drop_done}
use Rattle.escape.specs.Text.{over}

module _ (xs : List ℕ) (at : ℕ) where
  -- what is lent from a place on, and what stands behind it
  lent_is : mid_of at (length xs - at) xs ≡ drop at xs
  lent_is = take_all (length xs - at) (drop at xs) (omega (arith, length-drop at xs))

  pub lent_length : length (mid_of at (length xs - at) xs) ≡ length xs - at
  lent_length = ap length lent_is ∙ length-drop at xs

  back_is : (ys : List ℕ) → put_mid at (length xs - at) xs ys ≡ take at xs ++ ys
  back_is ys =
      ap (λ (r : List ℕ). take at xs ++ (ys ++ r)) (drop_done (drop at xs) (length xs - at) (omega (arith, length-drop at xs)))
      ∙ ap (λ (r : List ℕ). take at xs ++ r) (append-nil ys)

  -- bytes written at the start of what is lent stand over those from the place on
  pub back_over : (bs ys : List ℕ) → ys ≡ bs ++ drop (length bs) (mid_of at (length xs - at) xs) → put_mid at (length xs - at) xs ys ≡ over xs at bs
  back_over bs ys e =
      back_is ys
      ∙ ap (λ (r : List ℕ). take at xs ++ r) (e ∙ ap (λ (r : List ℕ). bs ++ drop (length bs) r) lent_is ∙ ap (λ (r : List ℕ). bs ++ r) (drop-drop (length bs) at xs))
      ∙ sym (append_assoc (take at xs) bs (drop (at + length bs) xs))

  -- what comes back as it was lent changes nothing
  pub back_same : (ys : List ℕ) → ys ≡ mid_of at (length xs - at) xs → put_mid at (length xs - at) xs ys ≡ xs
  back_same ys e = back_is ys ∙ ap (λ (r : List ℕ). take at xs ++ r) (e ∙ lent_is) ∙ take-append-drop at xs

  pub over_nothing : over xs at [] ≡ xs
  over_nothing = ap (λ (k : ℕ). take at xs ++ [] ++ drop k xs) (add-zero at) ∙ ap (λ (r : List ℕ). r ++ drop at xs) (append-nil (take at xs)) ∙ take-append-drop at xs

  module _ (bs : List ℕ) (h : at + length bs ≤ length xs) where
    over_paste : over xs at bs ≡ paste xs at bs (length bs)
    over_paste = ap (λ (r : List ℕ). take at xs ++ r ++ drop (at + length bs) xs) (sym (take-length bs))

    pub over_length : length (over xs at bs) ≡ length xs
    over_length = ap length over_paste ∙ length-paste xs at bs (length bs) h (omega arith)

    pub over_more : (cs : List ℕ) → over (over xs at bs) (at + length bs) cs ≡ over xs at (bs ++ cs)
    over_more cs =
        let first : take (at + length bs) (over xs at bs) ≡ take at xs ++ bs =
        ap (take (at + length bs)) over_paste ∙ take-paste xs at bs (length bs) (omega arith) (omega arith) ∙ ap (λ (r : List ℕ). take at xs ++ r) (take-length bs) in
        let rest : drop (at + length bs) (over xs at bs) ≡ drop (at + length bs) xs =
        ap (drop (at + length bs)) over_paste ∙ drop-paste xs at bs (length bs) (omega arith) (omega arith) in
        let last : drop (at + length bs + length cs) (over xs at bs) ≡ drop (at + length bs + length cs) xs =
        sym (drop-drop (length cs) (at + length bs) (over xs at bs)) ∙ ap (drop (length cs)) rest ∙ drop-drop (length cs) (at + length bs) xs in
        let far : at + length bs + length cs ≡ at + length (bs ++ cs) = omega (arith, length-append bs cs) in
        ap (λ (r : List ℕ). r ++ cs ++ drop (at + length bs + length cs) (over xs at bs)) first
        ∙ ap (λ (r : List ℕ). take at xs ++ bs ++ cs ++ r) (last ∙ ap (λ (k : ℕ). drop k xs) far)
        ∙ ap (λ (r : List ℕ). r ++ drop (at + length (bs ++ cs)) xs) (append_assoc (take at xs) bs cs)
