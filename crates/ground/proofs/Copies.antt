-- A loop that copies a list to the first places of another. Assumes nothing.
use Prim.Native.Nat.{ℕ, ◌+◌, ◌≤◌, ◌<◌}
use mathlib.Core.Path.{◌≡◌, sym, ap, ◌∙◌}
use mathlib.Core.List.{List, ◌++◌}
use native.Mathlib.Omega.{arith}
use native.Mathlib.Nat.{zero-add}
use native.Mathlib.Numerals.{add-one}
use lib.ListN.{length, get_or, take, drop, set}
use lib.Seq.{paste, paste-zero, paste-suc, length-paste, take-length}
use borrow.Author.Rules.{rules}

module _ (xs vs : List ℕ) where
  -- what a loop has when k elements are copied
  pub record Copying (ys : List ℕ) (k : ℕ) : Type 0 where
    pub bytes : ys ≡ paste xs 0 vs k
    pub within : k ≤ length vs
    pub same : length ys ≡ length xs

  module _ (r : length vs ≤ length xs) where
    copying : (ys : List ℕ) (k : ℕ) → k ≤ length vs → ys ≡ paste xs 0 vs k → Copying ys k
    copying ys k h e = record { bytes = e; within = h; same = ap length e ∙ length-paste xs 0 vs k (omega arith) h }

    pub copy_start : Copying xs 0
    copy_start = copying xs 0 (omega arith) (paste-zero xs 0 vs)

    module _ (ys : List ℕ) (k : ℕ) (c : Copying ys k) where
      pub copy_slot : k < length vs → k < length ys
      copy_slot h = omega (arith, c.same)

      pub copy_turn : k < length vs → Copying (set ys k (get_or vs k 0)) (k + 1)
      copy_turn h =
          let v : ℕ = get_or vs k 0 in
          copying (set ys k v) (k + 1) (omega arith)
          (ap (λ (l : List ℕ). set l k v) c.bytes
          ∙ ap (λ (j : ℕ). set (paste xs 0 vs k) j v) (sym (zero-add k))
          ∙ paste-suc xs 0 vs k 0 (omega arith) h
          ∙ ap (λ (j : ℕ). paste xs 0 vs j) (sym (add-one k)))

      pub copy_end : length vs ≤ k → ys ≡ vs ++ drop (length vs) xs
      copy_end h =
          let all : k ≡ length vs = omega (arith, c.within) in
          c.bytes
          ∙ ap (λ (j : ℕ). paste xs 0 vs j) all
          ∙ ap (λ (j : ℕ). take (length vs) vs ++ drop j xs) (zero-add (length vs))
          ∙ ap (λ (l : List ℕ). l ++ drop (length vs) xs) (take-length vs)

pub ruleset copies = (rules, copy_start, copy_slot, copy_turn, copy_end)
