-- Slots and scans: the numbers of a scan are held as that scan, and where slots hold a scan they begin with its numbers. Assumes nothing.
use Prim.Native.Nat.{ℕ, ◌<◌}
use mathlib.Core.Path.{◌≡◌, refl, sym, ap, ◌∙◌}
use mathlib.Core.Bool.{true}
use mathlib.Core.List.{List, [], ◌∷◌, ◌++◌}
use native.Mathlib.Omega.{arith}
use lib.ListN.{length, drop}
use lib.Dec.{eqb}
use borrow.Author.Tests.{eqb-true, le-ltb}
use Rattle.ground.proofs.Choices.{pick_cases}
use Rattle.parser.specs.declared.element.ElementState.{ElementState}
use Rattle.parser.specs.declared.marks.Marks.{Marks}
use Rattle.parser.specs.Marks.{seeing}
use Rattle.pieces.specs.declared.scan.Kind.{Kind}
use Rattle.pieces.specs.declared.scan.State.{State}
use Rattle.pieces.specs.declared.scan.Scan.{Scan}
use Rattle.capi_pieces.specs.declared.slots.Held.{Held}
use Rattle.capi_pieces.specs.Numbers.{scan_slots, kind_number, state_number, marks_in, numbers, numbers_of, plain_of, scan_of, held_of}
use Rattle.capi_pieces.proofs.Answers.{held_room}

-- too few slots hold nothing
short : {A : Type 0} (slots : List ℕ) (scan : Scan) → length slots < scan_slots → held_of slots ≡ Held.Scan scan → A
short slots scan l e = absurd (omega (arith, held_room slots (held_of slots) scan refl e))

-- four slots, and any behind them
held_four : (a b c d : ℕ) (rest : List ℕ) → held_of (a ∷ b ∷ c ∷ d ∷ rest) ≡ scan_of a b (record { left = c; seen = d })
unfolding held_of
held_four a b c d rest = rw (le-ltb (length (a ∷ b ∷ c ∷ d ∷ rest)) scan_slots (omega arith))

-- ---- the numbers of a scan are held as that scan

state_held : (taken : ℕ) (state : State) → scan_of (state_number state) taken (marks_in state) ≡ Held.Scan (Scan.Open taken state)
unfolding scan_of plain_of
state_held taken State.Start = refl
state_held taken State.Opened = refl
state_held taken State.Bang = refl
state_held taken (State.Tag ElementState.Outside) = refl
state_held taken (State.Tag ElementState.SingleQ) = refl
state_held taken (State.Tag ElementState.DoubleQ) = refl
state_held taken (State.Marked Kind.Pi marks) = refl
state_held taken (State.Marked Kind.Comment marks) = refl
state_held taken (State.Marked Kind.CData marks) = refl
state_held taken State.Reference = refl
state_held taken State.Text = refl

place_held : (place : ℕ) → scan_of 0 place (seeing 0) ≡ Held.Scan (Scan.Closed place)
unfolding scan_of plain_of
place_held place = refl

pub numbers_held : (scan : Scan) (rest : List ℕ) → held_of (numbers_of scan ++ rest) ≡ Held.Scan scan
numbers_held (Scan.Closed place) rest = held_four 0 place 0 0 rest ∙ place_held place
numbers_held (Scan.Open taken state) rest =
    held_four (state_number state) taken (marks_in state).left (marks_in state).seen rest ∙ state_held taken state

-- ---- slots that hold a scan begin with its numbers

module _ (state count : ℕ) (marks : Marks) (scan : Scan) where
  -- what is held, where it is that scan, has these numbers
  abbrev Numbered : Held → Type 0
  Numbered h = h ≡ Held.Scan scan → numbers state count marks ≡ numbers_of scan

  is : (other : Scan) → numbers state count marks ≡ numbers_of other → Numbered (Held.Scan other)
  is other e f = let g : other ≡ scan = cc in e ∙ ap numbers_of g

  none : Numbered Held.Nothing
  none f = let z : ◌≡◌ {A = ℕ} 0 1 = cc in absurd (omega arith)

  module _ (l : marks.left ≡ 0) (s : marks.seen ≡ 0) where
    plain_is : (k : ℕ) (other : Scan) → numbers_of other ≡ numbers k count (seeing 0) → eqb state k ≡ true → Numbered (Held.Scan other)
    plain_is k other e t = is other (rw (eqb-true state k t, l, s) (sym e))

    plain_numbered : Numbered (plain_of state count)
    unfolding plain_of
    plain_numbered =
        pick_cases Numbered (eqb state 0) _ _ (plain_is 0 (Scan.Closed count) refl)
        (λ _. pick_cases Numbered (eqb state 1) _ _ (plain_is 1 (Scan.Open count State.Start) refl)
        (λ _. pick_cases Numbered (eqb state 2) _ _ (plain_is 2 (Scan.Open count State.Opened) refl)
        (λ _. pick_cases Numbered (eqb state 3) _ _ (plain_is 3 (Scan.Open count State.Bang) refl)
        (λ _. pick_cases Numbered (eqb state 4) _ _ (plain_is 4 (Scan.Open count (State.Tag ElementState.Outside)) refl)
        (λ _. pick_cases Numbered (eqb state 5) _ _ (plain_is 5 (Scan.Open count (State.Tag ElementState.SingleQ)) refl)
        (λ _. pick_cases Numbered (eqb state 6) _ _ (plain_is 6 (Scan.Open count (State.Tag ElementState.DoubleQ)) refl)
        (λ _. pick_cases Numbered (eqb state 10) _ _ (plain_is 10 (Scan.Open count State.Reference) refl)
        (λ _. pick_cases Numbered (eqb state 11) _ _ (plain_is 11 (Scan.Open count State.Text) refl) (λ _. none)))))))))

  marked_is : (kind : Kind) → eqb state (kind_number kind) ≡ true → Numbered (Held.Scan (Scan.Open count (State.Marked kind marks)))
  marked_is kind t = is (Scan.Open count (State.Marked kind marks)) (ap (λ (n : ℕ). numbers n count marks) (eqb-true state (kind_number kind) t))

  numbered : Numbered (scan_of state count marks)
  unfolding scan_of
  numbered =
      pick_cases Numbered (eqb state 7) _ _ (marked_is Kind.Pi)
      (λ _. pick_cases Numbered (eqb state 8) _ _ (marked_is Kind.Comment)
      (λ _. pick_cases Numbered (eqb state 9) _ _ (marked_is Kind.CData)
      (λ _. pick_cases Numbered (eqb marks.left 0) _ _
      (λ l. pick_cases Numbered (eqb marks.seen 0) _ _ (λ s. plain_numbered (eqb-true _ _ l) (eqb-true _ _ s)) (λ _. none))
      (λ _. none))))

pub held_numbers : (slots : List ℕ) (scan : Scan) → held_of slots ≡ Held.Scan scan → slots ≡ numbers_of scan ++ drop scan_slots slots
held_numbers [] scan e = short [] scan (omega arith) e
held_numbers (a ∷ []) scan e = short (a ∷ []) scan (omega arith) e
held_numbers (a ∷ b ∷ []) scan e = short (a ∷ b ∷ []) scan (omega arith) e
held_numbers (a ∷ b ∷ c ∷ []) scan e = short (a ∷ b ∷ c ∷ []) scan (omega arith) e
held_numbers (a ∷ b ∷ c ∷ d ∷ rest) scan e =
    ap (λ (xs : List ℕ). xs ++ rest) (numbered a b (record { left = c; seen = d }) scan (sym (held_four a b c d rest) ∙ e))
