-- Bytes fed in pieces are the bytes fed whole: for any scan, and any number of pieces, empty ones among them. Assumes nothing.
use Prim.Native.Nat.{ℕ, ◌+◌, ◌≤◌, ◌<◌}
use mathlib.Core.Path.{◌≡◌, refl, sym, ap, ◌∙◌, subst}
use mathlib.Core.Bool.{Bool, true, false}
use mathlib.Core.List.{List, [], ◌∷◌, ◌++◌, append-nil}
use native.Mathlib.Omega.{arith}
use lib.ListN.{length, length-append}
use lib.Dec.{leb, ltb}
use borrow.Author.Tests.{le-leb, ltb-true}
use Rattle.ground.proofs.Choices.{both}
use Rattle.parser.specs.Machine.{Scan as Course, found, going, feed}
use Rattle.parser.proofs.Machine.{feed_found}
use Rattle.state.specs.Limits.{longest}
use Rattle.pieces.specs.declared.scan.State.{State}
use Rattle.pieces.specs.declared.scan.Scan.{Scan}
use Rattle.pieces.specs.declared.scan.Fed.{Fed}
use Rattle.pieces.specs.Kinds.{piece_step}
use Rattle.pieces.specs.Reached.{reached, state_reached}
use Rattle.pieces.specs.Fed.{answer_of, fed}
use Rattle.pieces.specs.Pieces.{joined, fed_all, Fits}
use Rattle.pieces.proofs.Machine.{feed_append, feed_bound}
use Rattle.pieces.proofs.Calls.{fed_closed, fed_bad_place, fed_bad_state, fed_open}
use Rattle.pieces.proofs.Kept.{Holds, kept}

-- after the bytes a scan that feeding leads to is one that it leads to
module _ (n : ℕ) (s : State) (piece : List ℕ) (e : reached n s ≡ true) (h : n + length piece ≤ longest) where
  pub reached_on : (t : State) → feed piece_step (going s) n piece ≡ going t → reached (n + length piece) t ≡ true
  reached_on t f =
      rw (le-leb (n + length piece) longest h)
      (subst (Holds (λ (k : ℕ) (u : State). state_reached k u ≡ true) (n + length piece)) f (kept n s piece (both (leb n longest) (state_reached n s) e).1))

  pub found_below : (p : ℕ) → feed piece_step (going s) n piece ≡ found p → p < longest
  found_below p f = omega (arith, feed_bound piece_step s n p piece f)

-- ---- two pieces

module _ (n : ℕ) (s : State) (p q : List ℕ) (e : reached n s ≡ true) (h : n + length (p ++ q) ≤ longest) where
  abbrev Two : Fed → Type 0
  Two x = fed x.scan q ≡ fed (Scan.Open n s) (p ++ q)

  fits_first : n + length p ≤ longest
  fits_first = omega (arith, length-append p q)

  fits_second : n + length p + length q ≤ longest
  fits_second = omega (arith, length-append p q)

  whole : (c : Course State) → feed piece_step (going s) n p ≡ c
      → fed (Scan.Open n s) (p ++ q) ≡ answer_of (n + length (p ++ q)) (feed piece_step c (n + length p) q)
  whole c f =
      fed_open n s (p ++ q) e h _ (feed_append piece_step (going s) n p q ∙ ap (λ (c : Course State). feed piece_step c (n + length p) q) f)

  cut_course : (c : Course State) → feed piece_step (going s) n p ≡ c → Two (answer_of (n + length p) c)
  cut_course (found k) f =
      fed_closed k q (found_below n s p e fits_first k f)
      ∙ sym (whole (found k) f ∙ ap (answer_of (n + length (p ++ q))) (feed_found piece_step k (n + length p) q))
  cut_course (going t) f =
      let l : n + length p + length q ≡ n + length (p ++ q) = omega (arith, length-append p q) in
      fed_open (n + length p) t q (reached_on n s p e fits_first t f) fits_second _ refl
      ∙ ap (λ (k : ℕ). answer_of k (feed piece_step (going t) (n + length p) q)) l
      ∙ sym (whole (going t) f)

  cut_open : fed (fed (Scan.Open n s) p).scan q ≡ fed (Scan.Open n s) (p ++ q)
  cut_open = subst Two (sym (fed_open n s p e fits_first _ refl)) (cut_course _ refl)

-- a test passes or fails
pub by_test : {A : Type 0} (t : Bool) → (t ≡ true → A) → (t ≡ false → A) → A
by_test true f g = f refl
by_test false f g = g refl

-- a scan that is refused stays, and is refused again
again : (scan : Scan) (p q : List ℕ) (x : Fed) → x.scan ≡ scan → fed scan p ≡ x → fed scan q ≡ x → fed scan (p ++ q) ≡ x
    → fed (fed scan p).scan q ≡ fed scan (p ++ q)
again scan p q x k a b c = ap (λ (y : Fed). fed y.scan q) a ∙ ap (λ (t : Scan). fed t q) k ∙ b ∙ sym c

pub two_pieces : (scan : Scan) (p q : List ℕ) → Fits scan (p ++ q) → fed (fed scan p).scan q ≡ fed scan (p ++ q)
two_pieces (Scan.Closed k) p q h =
    by_test (ltb k longest)
    (λ e. let l = ltb-true k longest e in again (Scan.Closed k) p q _ refl (fed_closed k p l) (fed_closed k q l) (fed_closed k (p ++ q) l))
    (λ e. again (Scan.Closed k) p q _ refl (fed_bad_place k p e) (fed_bad_place k q e) (fed_bad_place k (p ++ q) e))
two_pieces (Scan.Open n s) p q h =
    by_test (reached n s)
    (λ e. cut_open n s p q e h)
    (λ e. again (Scan.Open n s) p q _ refl (fed_bad_state n s p e) (fed_bad_state n s q e) (fed_bad_state n s (p ++ q) e))

-- ---- any number of pieces

-- what is left fits
pub fits_rest : (scan : Scan) (p q : List ℕ) → Fits scan (p ++ q) → Fits (fed scan p).scan q
fits_rest (Scan.Closed k) p q h =
    by_test (ltb k longest)
    (λ e. subst (λ (x : Fed). Fits x.scan q) (sym (fed_closed k p (ltb-true k longest e))) tt)
    (λ e. subst (λ (x : Fed). Fits x.scan q) (sym (fed_bad_place k p e)) tt)
fits_rest (Scan.Open n s) p q h =
    by_test (reached n s)
    (λ e. subst (λ (x : Fed). Fits x.scan q) (sym (fed_open n s p e (fits_first n s p q e h) _ refl)) (on e (feed piece_step (going s) n p)))
    (λ e. subst (λ (x : Fed). Fits x.scan q) (sym (fed_bad_state n s p e)) (omega (arith, length-append p q)))
  where
    on : reached n s ≡ true → (c : Course State) → Fits (answer_of (n + length p) c).scan q
    on e (found k) = tt
    on e (going t) = fits_second n s p q e h

-- THE CUTTING STATEMENT
pub any_cutting : (scan : Scan) (piece : List ℕ) (pieces : List (List ℕ)) → Fits scan (joined (piece ∷ pieces))
    → fed_all scan piece pieces ≡ fed scan (joined (piece ∷ pieces))
unfolding joined fed_all
any_cutting scan piece [] h = ap (fed scan) (sym (append-nil piece))
any_cutting scan piece (next ∷ pieces) h =
    any_cutting (fed scan piece).scan next pieces (fits_rest scan piece (joined (next ∷ pieces)) h)
    ∙ two_pieces scan piece (joined (next ∷ pieces)) h
