-- What the exported functions answer, and the slots that they write. Assumes nothing.
use Prim.Native.Nat.{ℕ, ◌≤◌, ◌<◌}
use mathlib.Core.Path.{◌≡◌, refl, sym, ap, ◌∙◌}
use mathlib.Core.List.{List, [], ◌∷◌, ◌++◌}
use native.Mathlib.Omega.{arith}
use native.Mathlib.Decide.{dec_lt}
use lib.ListN.{length, drop, set}
use lib.Seq.{sets-eq}
use borrow.Author.Rules.{rules}
use borrow.Author.Tests.{lt-ltb}
use Rattle.ground.proofs.Choices.{choices, by_case, pick_lt, pick_nlt}
use Rattle.ground.proofs.Slots.{slots}
use Rattle.parser.specs.declared.marks.Marks.{Marks}
use Rattle.parser.specs.Marks.{seeing}
use Rattle.pieces.specs.declared.scan.State.{State}
use Rattle.pieces.specs.declared.scan.Scan.{Scan}
use Rattle.pieces.specs.declared.scan.Fed.{Fed as Answer}
use Rattle.pieces.specs.Fed.{fed, told_number}
use Rattle.capi_pieces.specs.declared.slots.Held.{Held}
use Rattle.capi_pieces.specs.Numbers.{scan_slots, marks_in, numbers, numbers_of, state_number, held_of, begun_of}
use Rattle.capi_pieces.specs.Scans.{bad_number, by_held, stored, Begun, Fed}

-- the case of the code's own match
pub marks_case : (x : Marks) (s t : State) → s ≡ t → x ≡ marks_in t → x ≡ marks_in s
marks_case = by_case marks_in

-- ---- the slots

pub four_put : (xs : List ℕ) (a b c d : ℕ) → scan_slots ≤ length xs
    → set (set (set (set xs 0 a) 1 b) 2 c) 3 d ≡ (a ∷ b ∷ c ∷ d ∷ []) ++ drop scan_slots xs
four_put xs a b c d l = sets-eq (a ∷ b ∷ c ∷ d ∷ []) xs 0 l

module _ (scan : Scan) (rest xs : List ℕ) where
  pub stored_closed : (place : ℕ) → scan ≡ Scan.Closed place → xs ≡ numbers 0 place (seeing 0) ++ rest → xs ≡ numbers_of scan ++ rest
  stored_closed place e f = f ∙ ap (λ (s : Scan). numbers_of s ++ rest) (sym e)

  pub stored_open : (taken : ℕ) (state : State) (number : ℕ) (marks : Marks) → scan ≡ Scan.Open taken state → number ≡ state_number state
      → marks ≡ marks_in state → xs ≡ numbers number taken marks ++ rest → xs ≡ numbers_of scan ++ rest
  stored_open taken state number marks e n m f = f ∙ rw (e, n, m)

-- slots that hold a scan are enough
pub held_room : (xs : List ℕ) (h : Held) (scan : Scan) → h ≡ held_of xs → h ≡ Held.Scan scan → scan_slots ≤ length xs
unfolding held_of
held_room xs h scan e f = elim (dec_lt (length xs) scan_slots) [
  | yes l ↦ let z : ◌≡◌ {A = Held} Held.Nothing (Held.Scan scan) = sym (e ∙ rw (lt-ltb (length xs) scan_slots l)) ∙ f in
      let y : ◌≡◌ {A = ℕ} 0 1 = cc in omega arith
  | no l ↦ omega arith
]

pub ruleset puts = (rules, slots, four_put, stored_closed, stored_open, marks_case)

-- ---- what is told

module _ (state : ℕ) (xs : List ℕ) where
  pub begun_short : length xs < scan_slots → Begun state xs bad_number xs
  begun_short l = record { said = pick_lt _ _ _ _ _ l refl; kept = pick_lt _ _ _ _ _ l refl }

  module _ (l : scan_slots ≤ length xs) (h : Held) (e : h ≡ begun_of state) where
    pub begun_none : h ≡ Held.Nothing → Begun state xs bad_number xs
    begun_none f = record {
      said = pick_nlt _ _ _ _ _ l (ap (λ (x : Held). by_held x (λ s. 0) bad_number) (sym f ∙ e));
      kept = pick_nlt _ _ _ _ _ l (ap (λ (x : Held). by_held x (λ s. stored s xs) xs) (sym f ∙ e));
    }

    pub begun_scan : (scan : Scan) (ys : List ℕ) → h ≡ Held.Scan scan → ys ≡ numbers_of scan ++ drop scan_slots xs → Begun state xs 0 ys
    begun_scan scan ys f g = record {
      said = pick_nlt _ _ _ _ _ l (ap (λ (x : Held). by_held x (λ s. 0) bad_number) (sym f ∙ e));
      kept = pick_nlt _ _ _ _ _ l (g ∙ ap (λ (x : Held). by_held x (λ s. stored s xs) xs) (sym f ∙ e));
    }

module _ (piece xs : List ℕ) (h : Held) (e : h ≡ held_of xs) where
  pub fed_none : h ≡ Held.Nothing → Fed piece xs bad_number xs
  fed_none f = record {
    said = ap (λ (x : Held). by_held x (λ s. told_number (fed s piece).told) bad_number) (sym f ∙ e);
    kept = ap (λ (x : Held). by_held x (λ s. stored (fed s piece).scan xs) xs) (sym f ∙ e);
  }

  pub fed_scan : (scan : Scan) (answer : Answer) (number : ℕ) (ys : List ℕ) → h ≡ Held.Scan scan → answer ≡ fed scan piece
      → number ≡ told_number answer.told → ys ≡ numbers_of answer.scan ++ drop scan_slots xs → Fed piece xs number ys
  fed_scan scan answer number ys f a n g = record {
    said = n ∙ ap (λ (x : Answer). told_number x.told) a ∙ ap (λ (x : Held). by_held x (λ s. told_number (fed s piece).told) bad_number) (sym f ∙ e);
    kept = g ∙ ap (λ (x : Answer). stored x.scan xs) a ∙ ap (λ (x : Held). by_held x (λ s. stored (fed s piece).scan xs) xs) (sym f ∙ e);
  }

pub ruleset tolds = (choices, held_room, begun_short, begun_none, begun_scan, fed_none, fed_scan)
