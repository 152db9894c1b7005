-- What a host may rely on. Assumes nothing.
use Prim.Native.Nat.{ℕ}
use mathlib.Core.Path.{◌≡◌, refl, sym, ap, ap₂, ◌∙◌, subst}
use mathlib.Core.Bool.{Bool, true, false}
use mathlib.Core.List.{List, [], ◌∷◌, ◌++◌, append-nil}
use native.Mathlib.Omega.{arith}
use lib.ListN.{length, drop}
use lib.Dec.{eqb, ltb}
use Rattle.ground.specs.Choose.{pick}
use Rattle.ground.proofs.Choices.{pick_cases}
use Rattle.pieces.specs.declared.scan.Kind.{Kind}
use Rattle.pieces.specs.declared.scan.What.{What}
use Rattle.pieces.specs.declared.scan.Scan.{Scan}
use Rattle.pieces.specs.declared.scan.Fed.{Fed as Answer}
use Rattle.pieces.specs.Fed.{fed, fresh, told_number}
use Rattle.pieces.specs.Pieces.{joined, Fits}
use Rattle.pieces.proofs.Cutting.{two_pieces, fits_rest}
use Rattle.pieces.proofs.Whole.{fresh_reached}
use Rattle.pieces.proofs.Reaching.{passes, passes_reaches, fed_passes}
use Rattle.pieces.proofs.Theorems.{the_number_17_is_for_no_other, what_has_a_number_leaves_the_scan}
use Rattle.capi_pieces.specs.declared.slots.Held.{Held}
use Rattle.capi_pieces.specs.Numbers.{scan_slots, numbers_of, held_of, begun_of}
use Rattle.capi_pieces.specs.Scans.{bad_number, by_held, stored, Begun, Fed, Feeds, last, more, FitsIn}
use Rattle.capi_pieces.proofs.Answers.{fed_scan}
use Rattle.capi_pieces.proofs.Held.{numbers_held, held_numbers}

-- ---- each answer is pinned down

pub no_second_answer : (piece slots : List ℕ) (n m : ℕ) (xs ys : List ℕ) → Fed piece slots n xs → Fed piece slots m ys → (n ≡ m) × (xs ≡ ys)
no_second_answer piece slots n m xs ys a b = (a.said ∙ sym b.said, a.kept ∙ sym b.kept)

pub no_second_fresh_scan : (state : ℕ) (slots : List ℕ) (n m : ℕ) (xs ys : List ℕ) → Begun state slots n xs → Begun state slots m ys → (n ≡ m) × (xs ≡ ys)
no_second_fresh_scan state slots n m xs ys a b = (a.said ∙ sym b.said, a.kept ∙ sym b.kept)

-- ---- any cutting

is_one : (s t : Scan) → Held.Scan s ≡ Held.Scan t → s ≡ t
is_one s t e = cc

is_none : {A : Type 0} (s : Scan) → Held.Nothing ≡ Held.Scan s → A
is_none s e = let z : ◌≡◌ {A = ℕ} 0 1 = cc in absurd (omega arith)

-- four slots are a scan's
stored_behind : (s : Scan) (rest : List ℕ) → drop scan_slots (numbers_of s ++ rest) ≡ rest
stored_behind (Scan.Closed p) rest = refl
stored_behind (Scan.Open n t) rest = refl

-- what is held before a call and after it
module _ (piece slots : List ℕ) (said : ℕ) (between : List ℕ) (call : Fed piece slots said between) where
  after_none : held_of slots ≡ Held.Nothing → between ≡ slots
  after_none e = call.kept ∙ ap (λ (h : Held). by_held h (λ scan. stored (fed scan piece).scan slots) slots) e

  module _ (scan : Scan) (e : held_of slots ≡ Held.Scan scan) where
    after_scan : between ≡ stored (fed scan piece).scan slots
    after_scan = call.kept ∙ ap (λ (h : Held). by_held h (λ scan. stored (fed scan piece).scan slots) slots) e

    after_held : held_of between ≡ Held.Scan (fed scan piece).scan
    after_held = ap held_of after_scan ∙ numbers_held (fed scan piece).scan (drop scan_slots slots)

  -- and so the bytes that are left fit
  rest_fits : (rest : List ℕ) → FitsIn slots (piece ++ rest) → FitsIn between rest
  rest_fits rest f = by (held_of slots) refl
    where
      by : (h : Held) → held_of slots ≡ h → FitsIn between rest
      by (Held.Scan scan) e other g =
          let same : (fed scan piece).scan ≡ other = is_one _ other (sym (after_held scan e) ∙ g) in
          subst (λ (s : Scan). Fits s rest) same (fits_rest scan piece rest (f scan e))
      by Held.Nothing e other g = is_none other (sym e ∙ ap held_of (sym (after_none e)) ∙ g)

  -- two calls are one
  module _ (rest : List ℕ) (number : ℕ) (slots' : List ℕ) (then : Fed rest between number slots') (f : FitsIn slots (piece ++ rest)) where
    joins_scan : (scan : Scan) → held_of slots ≡ Held.Scan scan → Fed (piece ++ rest) slots number slots'
    joins_scan scan e =
        fed_scan (piece ++ rest) slots (held_of slots) refl scan (fed scan (piece ++ rest)) number slots' e refl
        (then.said ∙ ap (λ (h : Held). by_held h (λ s. told_number (fed s rest).told) bad_number) (after_held scan e) ∙ ap (λ (x : Answer). told_number x.told) two)
        (then.kept
        ∙ ap (λ (h : Held). by_held h (λ s. stored (fed s rest).scan between) between) (after_held scan e)
        ∙ ap₂ (λ (x : Answer) (xs : List ℕ). numbers_of x.scan ++ xs) two behind)
      where
        two : fed (fed scan piece).scan rest ≡ fed scan (piece ++ rest)
        two = two_pieces scan piece rest (f scan e)

        behind : drop scan_slots between ≡ drop scan_slots slots
        behind = ap (drop scan_slots) (after_scan scan e) ∙ stored_behind (fed scan piece).scan (drop scan_slots slots)

    joins_none : held_of slots ≡ Held.Nothing → Fed (piece ++ rest) slots number slots'
    joins_none e =
        let same = after_none e in
        let held : held_of between ≡ Held.Nothing = ap held_of same ∙ e in
        record {
          said = then.said ∙ ap (λ (h : Held). by_held h (λ s. told_number (fed s rest).told) bad_number) held
              ∙ sym (ap (λ (h : Held). by_held h (λ s. told_number (fed s (piece ++ rest)).told) bad_number) e);
          kept = then.kept ∙ ap (λ (h : Held). by_held h (λ s. stored (fed s rest).scan between) between) held ∙ same
              ∙ sym (ap (λ (h : Held). by_held h (λ s. stored (fed s (piece ++ rest)).scan slots) slots) e);
        }

    joins : (h : Held) → held_of slots ≡ h → Fed (piece ++ rest) slots number slots'
    joins (Held.Scan scan) e = joins_scan scan e
    joins Held.Nothing e = joins_none e

-- ---- what is refused

-- A refusal leaves every slot as it was.
pub a_refusal_leaves_every_slot : (piece slots : List ℕ) (number : ℕ) (slots' : List ℕ) → Fed piece slots number slots' → (number ≡ 0 → ⊥) → slots' ≡ slots
a_refusal_leaves_every_slot piece slots number slots' call n = by (held_of slots) refl
  where
    by : (h : Held) → held_of slots ≡ h → slots' ≡ slots
    by (Held.Scan scan) e =
        let said : number ≡ told_number (fed scan piece).told =
        call.said ∙ ap (λ (h : Held). by_held h (λ s. told_number (fed s piece).told) bad_number) e in
        after_scan piece slots number slots' call scan e
        ∙ ap (λ (s : Scan). stored s slots) (what_has_a_number_leaves_the_scan scan piece (λ z. n (said ∙ z)))
        ∙ sym (held_numbers slots scan e)
    by Held.Nothing e = after_none piece slots number slots' call e

-- a scan that pieces lead to is held, and then it is after each call
kept_held : (slots piece : List ℕ) (pieces : List (List ℕ)) (number : ℕ) (slots' : List ℕ) (scan : Scan) → Feeds slots piece pieces number slots'
    → held_of slots ≡ Held.Scan scan → passes scan ≡ true → number ≡ bad_number → ⊥
kept_held slots piece [] number slots' scan (last call) e p d =
    the_number_17_is_for_no_other scan piece
    (sym (call.said ∙ ap (λ (h : Held). by_held h (λ s. told_number (fed s piece).told) bad_number) e) ∙ d) (passes_reaches scan p)
kept_held slots piece (next ∷ pieces) number slots' scan (more {said = said} {between = between} call calls) e p d =
    kept_held between next pieces number slots' (fed scan piece).scan calls (after_held piece slots said between call scan e) (fed_passes scan piece p) d

-- so it is after a fresh one
begun_passes : (state : ℕ) (scan : Scan) → begun_of state ≡ Held.Scan scan → passes scan ≡ true
unfolding begun_of
begun_passes state scan =
    pick_cases Passes (eqb state 1) _ _ (λ _. is What.Piece)
    (λ _. pick_cases Passes (eqb state 4) _ _ (λ _. is What.Tag)
    (λ _. pick_cases Passes (eqb state 7) _ _ (λ _. is (What.Marked Kind.Pi))
    (λ _. pick_cases Passes (eqb state 8) _ _ (λ _. is (What.Marked Kind.Comment))
    (λ _. pick_cases Passes (eqb state 9) _ _ (λ _. is (What.Marked Kind.CData))
    (λ _. pick_cases Passes (eqb state 11) _ _ (λ _. is What.Text) (λ _ e. is_none scan e))))))
  where
    Passes : Held → Type 0
    Passes h = h ≡ Held.Scan scan → passes scan ≡ true

    is : (w : What) → Held.Scan (fresh w) ≡ Held.Scan scan → passes scan ≡ true
    is w e = subst (λ (s : Scan). passes s ≡ true) (is_one (fresh w) scan e) (fresh_reached w)

-- 17 never comes to a host that keeps a scan as the call before left it.
pub seventeen_never_comes_to_who_keeps_a_scan : (state : ℕ) (slots between piece : List ℕ) (pieces : List (List ℕ)) (number : ℕ) (slots' : List ℕ)
    → Begun state slots 0 between → Feeds between piece pieces number slots' → number ≡ bad_number → ⊥
seventeen_never_comes_to_who_keeps_a_scan state slots between piece pieces number slots' b calls d =
    by (ltb (length slots) scan_slots) (begun_of state) refl b.said b.kept
  where
    by : (t : Bool) (h : Held) → begun_of state ≡ h → 0 ≡ pick t bad_number (by_held h (λ scan. 0) bad_number)
        → between ≡ pick t slots (by_held h (λ scan. stored scan slots) slots) → ⊥
    by true h e s k = omega arith
    by false Held.Nothing e s k = omega arith
    by false (Held.Scan scan) e s k =
        kept_held between piece pieces number slots' scan calls (ap held_of k ∙ numbers_held scan (drop scan_slots slots)) (begun_passes state scan e) d

-- However a host cuts the bytes, the last call answers, and leaves in the slots, what one call with the uncut bytes does.
pub a_host_may_cut_anywhere : (slots piece : List ℕ) (pieces : List (List ℕ)) (number : ℕ) (slots' : List ℕ) → Feeds slots piece pieces number slots'
    → FitsIn slots (joined (piece ∷ pieces)) → Fed (joined (piece ∷ pieces)) slots number slots'
unfolding joined
a_host_may_cut_anywhere slots piece [] number slots' (last call) f = subst (λ (p : List ℕ). Fed p slots number slots') (sym (append-nil piece)) call
a_host_may_cut_anywhere slots piece (next ∷ pieces) number slots' (more {said = said} {between = between} call calls) f =
    joins piece slots said between call (joined (next ∷ pieces)) number slots'
    (a_host_may_cut_anywhere between next pieces number slots' calls (rest_fits piece slots said between call (joined (next ∷ pieces)) f))
    f (held_of slots) refl
