-- What stands in the bytes so far stands there when more have come. Assumes nothing.
use Prim.Native.Nat.{ℕ, zero, suc, ◌+◌, ◌-◌, ◌≤◌, ◌<◌}
use mathlib.Core.Path.{◌≡◌, refl, sym, ap, ◌∙◌}
use mathlib.Core.Bool.{Bool, true, false}
use mathlib.Core.List.{List, [], ◌∷◌, ◌++◌}
use native.Mathlib.Omega.{arith}
use native.Mathlib.Decide.{dec_lt}
use lib.ListN.{length, get_or, take, drop, length-append, length-drop, get_or-append}
use lib.Seq.{take-append-le, drop-append-le}
use lib.Dec.{eqb}
use Rattle.ground.specs.Choose.{pick}
use Rattle.ground.specs.Part.{part}
use Rattle.ground.specs.Equal.{begins}
use Rattle.ground.proofs.Choices.{clash, pick_neither}
use Rattle.ground.proofs.Lists.{part_in, part_crossed}
use Rattle.white.specs.White.{until}
use Rattle.parser.specs.First.{one_of}
use Rattle.parser.specs.Machine.{Next, Scan, found, going, feed, scan_at}
use Rattle.parser.proofs.Machine.{feed_found}
use Rattle.pieces.proofs.Machine.{feed_append}

module _ (doc more : List ℕ) where
  pub grows : length doc ≤ length (doc ++ more)
  grows = omega (arith, length-append doc more)

  pub byte_stays : (i : ℕ) → i < length doc → get_or (doc ++ more) i 0 ≡ get_or doc i 0
  byte_stays i h = get_or-append doc more 0 i h

  pub rest_stays : (i : ℕ) → i ≤ length doc → drop i (doc ++ more) ≡ drop i doc ++ more
  rest_stays i h = drop-append-le i doc more h

  pub part_stays : (from to : ℕ) → to ≤ length doc → part (doc ++ more) from to ≡ part doc from to
  part_stays from to h =
      elim (dec_lt to from) [
        | yes k ↦ part_crossed (doc ++ more) from to k ∙ sym (part_crossed doc from to k)
        | no k ↦
            part_in (doc ++ more) from to (omega arith) (omega (arith, grows))
            ∙ ap (take (to - from)) (rest_stays from (omega arith))
            ∙ take-append-le (to - from) (drop from doc) more (omega (arith, length-drop from doc))
            ∙ sym (part_in doc from to (omega arith) h)
      ]

  -- what a scan has found
  pub scan_stays : {S : Type 0} (step : S → ℕ → Next S) (s : S) (i p : ℕ) → i ≤ length doc → scan_at step s doc i ≡ found p
      → scan_at step s (doc ++ more) i ≡ found p
  scan_stays {S} step s i p h e =
      ap (feed step (going s) i) (rest_stays i h)
      ∙ feed_append step (going s) i (drop i doc) more
      ∙ ap (λ (t : Scan S). feed step t (i + length (drop i doc)) more) e
      ∙ feed_found step p (i + length (drop i doc)) more

-- how many bytes stand before the first that passes a test, where there is one
pub until_stays : (test : ℕ → Bool) (xs ys : List ℕ) → until test xs < length xs → until test (xs ++ ys) ≡ until test xs
unfolding until
until_stays test [] ys h = absurd (omega arith)
until_stays test (x ∷ xs) ys h = by (test x) h (until_stays test xs ys)
  where
    by : (t : Bool) → pick t 0 (until test xs + 1) < length (x ∷ xs) → (until test xs < length xs → until test (xs ++ ys) ≡ until test xs)
        → pick t 0 (until test (xs ++ ys) + 1) ≡ pick t 0 (until test xs + 1)
    by true k f = refl
    by false k f = ap (λ (n : ℕ). n + 1) (f (omega arith))

-- whether bytes begin with others, where a byte that is none of these has come
pub begins_stays : (xs ys ks : List ℕ) (i : ℕ) → i < length xs → one_of ks (get_or xs i 0) ≡ false → begins (xs ++ ys) ks ≡ begins xs ks
unfolding begins
begins_stays xs ys [] i h e = refl
begins_stays [] ys (k ∷ ks) i h e = absurd (omega arith)
begins_stays (x ∷ xs) ys (k ∷ ks) zero h e = by (eqb x k) e
  where
    by : (t : Bool) → pick t true (one_of ks x) ≡ false → pick t (begins (xs ++ ys) ks) false ≡ pick t (begins xs ks) false
    by true f = clash true refl f
    by false f = refl
begins_stays (x ∷ xs) ys (k ∷ ks) (suc i) h e =
    ap (λ (t : Bool). pick (eqb x k) t false) (begins_stays xs ys ks i (omega arith) (pick_neither (eqb (get_or xs i 0) k) _ e).1)
