-- A scan that goes on: from the places in a piece to those counted from the first byte that was fed. Assumes nothing.
use Prim.Native.Nat.{ℕ, ◌+◌, ◌-◌, ◌≤◌, ◌<◌}
use mathlib.Core.Path.{◌≡◌, sym, ap, ◌∙◌}
use mathlib.Core.Bool.{Bool, true, false}
use mathlib.Core.List.{List}
use native.Mathlib.Omega.{arith}
use native.Mathlib.Nat.{add-zero}
use lib.ListN.{length}
use lib.Dec.{leb}
use mir.Val.{Fits}
use mir.Syntax.{w64}
use borrow.Author.Tests.{leb-true, le-ltb}
use Rattle.ground.proofs.Choices.{choices, both}
use Rattle.parser.specs.Machine.{Scan as Course, found, going, feed, scan_at}
use Rattle.state.specs.Limits.{longest}
use Rattle.state.specs.declared.answer.Error.{Error}
use Rattle.pieces.specs.declared.ahead.Ahead.{Ahead}
use Rattle.pieces.specs.declared.scan.State.{State}
use Rattle.pieces.specs.declared.scan.Scan.{Scan}
use Rattle.pieces.specs.declared.scan.Told.{Told}
use Rattle.pieces.specs.declared.scan.Fed.{Fed}
use Rattle.pieces.specs.Ahead.{ahead_of}
use Rattle.pieces.specs.Kinds.{piece_step}
use Rattle.pieces.specs.Reached.{reached, state_reached}
use Rattle.pieces.specs.Fed.{answer_of, fed, fed_on, refused}
use Rattle.pieces.proofs.Machine.{feed_bound, feed_moved, moved}
use Rattle.pieces.proofs.Calls.{fed_closed, fed_bad_place, fed_bad_state, fed_long, fed_on_lem}

-- the course is what the answer says
found_ahead : (c : Course State) (p : ℕ) → ahead_of c ≡ Ahead.At p → c ≡ found p
found_ahead (found q) p e = ap found (cc)
found_ahead (going s) p e = let z : ◌≡◌ {A = ℕ} 0 1 = cc in absurd (omega arith)

going_ahead : (c : Course State) (t : State) → ahead_of c ≡ Ahead.Open t → c ≡ going t
going_ahead (found q) t e = let z : ◌≡◌ {A = ℕ} 0 1 = cc in absurd (omega arith)
going_ahead (going s) t e = ap going (cc)

module _ (taken : ℕ) (state : State) (piece : List ℕ) where
  -- counted from the first byte that was fed
  on_moved : feed piece_step (going state) taken piece ≡ moved taken (scan_at piece_step state piece 0)
  on_moved =
      ap (λ (n : ℕ). feed piece_step (going state) n piece) (sym (add-zero taken)) ∙ feed_moved piece_step taken (going state) 0 piece

  on_course : (c : Course State) → scan_at piece_step state piece 0 ≡ c → answer_of (taken + length piece) (moved taken c) ≡ fed_on taken state piece
  unfolding fed_on
  on_course c e = ap (answer_of (taken + length piece)) (ap (moved taken) (sym e) ∙ sym on_moved)

  module _ (r : Ahead) (e : r ≡ ahead_of (scan_at piece_step state piece 0)) where
    pub on_found : (p : ℕ) → r ≡ Ahead.At p → record { scan = Scan.Closed (taken + p); told = Told.At (taken + p) } ≡ fed_on taken state piece
    on_found p f = on_course (found p) (found_ahead _ p (sym e ∙ f))

    pub on_open : (t : State) → r ≡ Ahead.Open t → record { scan = Scan.Open (taken + length piece) t; told = Told.Open } ≡ fed_on taken state piece
    on_open t f = on_course (going t) (going_ahead _ t (sym e ∙ f))

    pub on_fits : (p : ℕ) → r ≡ Ahead.At p → taken + length piece ≤ longest → Fits w64 (taken + p)
    on_fits p f h = record { fits = omega (arith, feed_bound piece_step state 0 p piece (found_ahead _ p (sym e ∙ f))) }

pub ruleset goes = (choices, on_found, on_open, on_fits)

-- ---- the call

-- no more bytes than the longest document has
pub reached_most : (taken : ℕ) (state : State) → reached taken state ≡ true → taken ≤ longest
reached_most taken state e = leb-true taken longest (both (leb taken longest) (state_reached taken state) e).0

-- a law for each way through it, from the case that the code's own match has said
module _ (scan : Scan) (piece : List ℕ) where
  case : (x : Fed) (s : Scan) → scan ≡ s → fed s piece ≡ x → x ≡ fed scan piece
  case x s e f = sym (ap (λ (s : Scan). fed s piece) e ∙ f)

  module _ (place : ℕ) (e : scan ≡ Scan.Closed place) where
    pub feed_at : place < longest → record { scan = Scan.Closed place; told = Told.At place } ≡ fed scan piece
    feed_at h = case _ (Scan.Closed place) e (fed_closed place piece h)

    pub feed_bad_place : (x : Fed) → x ≡ refused (Scan.Closed place) Error.BadState → longest ≤ place → x ≡ fed scan piece
    feed_bad_place x f h = f ∙ case _ (Scan.Closed place) e (fed_bad_place place piece (le-ltb place longest h))

  module _ (taken : ℕ) (state : State) (e : scan ≡ Scan.Open taken state) (x : Fed) (r : Bool) (q : r ≡ reached taken state) where
    pub feed_bad_state : x ≡ refused (Scan.Open taken state) Error.BadState → r ≡ false → x ≡ fed scan piece
    feed_bad_state f n = f ∙ case _ (Scan.Open taken state) e (fed_bad_state taken state piece (sym q ∙ n))

    pub feed_long : x ≡ refused (Scan.Open taken state) Error.SliceTooLong → r ≡ true → longest - taken < length piece → x ≡ fed scan piece
    feed_long f y h = f ∙ case _ (Scan.Open taken state) e (fed_long taken state piece (sym q ∙ y) (omega arith))

    pub feed_on : x ≡ fed_on taken state piece → r ≡ true → length piece ≤ longest - taken → x ≡ fed scan piece
    feed_on f y h =
        let m = reached_most taken state (sym q ∙ y) in
        f ∙ case _ (Scan.Open taken state) e (fed_on_lem taken state piece (sym q ∙ y) (omega arith))

-- what the code asks on the way
module _ (taken : ℕ) (state : State) (r : Bool) (q : r ≡ reached taken state) (y : r ≡ true) where
  pub feed_room : taken ≤ longest
  feed_room = reached_most taken state (sym q ∙ y)

  pub feed_within : (n : ℕ) → n ≤ longest - taken → taken + n ≤ longest
  feed_within n h = omega (arith, feed_room)

pub ruleset feeds = (choices, feed_at, feed_bad_place, feed_bad_state, feed_long, feed_on, feed_room, feed_within)
