-- THE PROMISE of the scans that a host links: the number that is answered, and every slot that was lent.
use Rattle.std.specs.Prelude.{ℕ, ◌≡◌, List, [], ◌∷◌, ◌++◌, length, drop, ltb}
use Rattle.ground.specs.Choose.{pick}
use Rattle.state.specs.declared.answer.Error.{Error}
use Rattle.state.specs.Values.{numbered_of}
use Rattle.pieces.specs.declared.scan.Scan.{Scan}
use Rattle.pieces.specs.Fed.{fed, told_number}
use Rattle.pieces.specs.Pieces.{Fits}
use Rattle.capi_pieces.specs.declared.slots.Held.{Held}
use Rattle.capi_pieces.specs.Numbers.{scan_slots, numbers_of, held_of, begun_of}

-- by cases on what is held
module _ {A : Type 0} where
  abbrev pub by_held : Held → (Scan → A) → A → A
  by_held (Held.Scan scan) f a = f scan
  by_held Held.Nothing f a = a

-- 17, "bad state"
abbrev pub bad_number : ℕ
bad_number = (numbered_of Error.BadState).number

-- a scan's numbers in the first slots
abbrev pub stored : Scan → List ℕ → List ℕ
stored scan slots = numbers_of scan ++ drop scan_slots slots

-- 0, and a fresh scan; 17 where there are too few slots or no scan has that number, and nothing is written then
pub record Begun (state : ℕ) (slots : List ℕ) (number : ℕ) (slots' : List ℕ) : Type 0 where
  pub said : number ≡ pick (ltb (length slots) scan_slots) bad_number (by_held (begun_of state) (λ scan. 0) bad_number)
  pub kept : slots' ≡ pick (ltb (length slots) scan_slots) slots (by_held (begun_of state) (λ scan. stored scan slots) slots)

-- 0 or the number of the refusal, and the scan after the call; 17 where the slots hold no scan, and nothing is written then
pub record Fed (piece slots : List ℕ) (number : ℕ) (slots' : List ℕ) : Type 0 where
  pub said : number ≡ by_held (held_of slots) (λ scan. told_number (fed scan piece).told) bad_number
  pub kept : slots' ≡ by_held (held_of slots) (λ scan. stored (fed scan piece).scan slots) slots

-- ---- pieces that a host feeds one after the other, in slots that stay as the call before left them: the last number, and the slots

pub data Feeds : List ℕ → List ℕ → List (List ℕ) → ℕ → List ℕ → Type 0 where
  last : {slots piece : List ℕ} {number : ℕ} {slots' : List ℕ} → Fed piece slots number slots' → Feeds slots piece [] number slots'
  more : {slots piece next : List ℕ} {pieces : List (List ℕ)} {said number : ℕ} {between slots' : List ℕ} → Fed piece slots said between
      → Feeds between next pieces number slots' → Feeds slots piece (next ∷ pieces) number slots'

-- "up to the length limit", where the slots hold a scan
abbrev pub FitsIn : List ℕ → List ℕ → Type 0
FitsIn slots bytes = (scan : Scan) → held_of slots ≡ Held.Scan scan → Fits scan bytes
