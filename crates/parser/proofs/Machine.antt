-- The laws of a step machine, once for every scan: a byte further, at the end, and after the closer. Assumes nothing.
use Prim.Native.Nat.{ℕ, ◌+◌, ◌≤◌, ◌<◌}
use mathlib.Core.Path.{◌≡◌, refl, sym, ap, ◌∙◌}
use mathlib.Core.List.{List, [], ◌∷◌}
use lib.ListN.{length, get_or, drop}
use Rattle.ground.proofs.Lists.{drop_next, drop_done}
use Rattle.parser.specs.Machine.{Next, go, halt, Scan, found, going, stand, tick, feed, scan_at}

module _ {S : Type 0} (step : S → ℕ → Next S) where
  -- what is found stays found
  pub feed_found : (p i : ℕ) (bs : List ℕ) → feed step (found p) i bs ≡ found p
  unfolding feed
  feed_found p i [] = refl
  feed_found p i (b ∷ bs) = feed_found p (i + 1) bs

  -- one byte: the byte at i, and the rest from i + 1 on
  pub feed_next : (r : Scan S) (a : List ℕ) (i : ℕ) → i < length a
      → feed step r i (drop i a) ≡ feed step (tick step r i (get_or a i 0)) (i + 1) (drop (i + 1) a)
  unfolding feed
  feed_next r a i h = ap (feed step r i) (drop_next a i h)

  module _ (s : S) (a : List ℕ) (i : ℕ) where
    pub scan_end : length a ≤ i → scan_at step s a i ≡ going s
    unfolding feed
    scan_end h = rw drop_done

    scan_by : (n : Next S) → i < length a → step s (get_or a i 0) ≡ n → scan_at step s a i ≡ feed step (stand i n) (i + 1) (drop (i + 1) a)
    scan_by n h e = feed_next (going s) a i h ∙ ap (λ (n : Next S). feed step (stand i n) (i + 1) (drop (i + 1) a)) e

    pub scan_more : (t : S) → i < length a → step s (get_or a i 0) ≡ go t → scan_at step s a i ≡ scan_at step t a (i + 1)
    scan_more t h e = scan_by (go t) h e

    pub scan_halt : i < length a → step s (get_or a i 0) ≡ halt → scan_at step s a i ≡ found i
    scan_halt h e = scan_by halt h e ∙ feed_found i (i + 1) (drop (i + 1) a)

-- ---- the turns and the ends of a loop that runs a machine, for any machine and any form `out` of its answer

module _ {S : Type 0} (step : S → ℕ → Next S) (r : Scan S) (s : S) (a : List ℕ) (i : ℕ) (v : r ≡ scan_at step s a i) where
  pub run_turn : (t : S) → i < length a → go t ≡ step s (get_or a i 0) → r ≡ scan_at step t a (i + 1)
  run_turn t h f = v ∙ scan_more step s a i t h (sym f)

-- with the form given, as `run_end element_answer`
module _ {S A : Type 0} (out : Scan S → A) (step : S → ℕ → Next S) (r : Scan S) (s : S) (a : List ℕ) (i : ℕ) (x : A) (v : r ≡ scan_at step s a i) where
  pub run_end : length a ≤ i → x ≡ out (going s) → x ≡ out r
  run_end h e = e ∙ sym (ap out (v ∙ scan_end step s a i h))

  pub run_halt : i < length a → halt ≡ step s (get_or a i 0) → x ≡ out (found i) → x ≡ out r
  run_halt h f e = e ∙ sym (ap out (v ∙ scan_halt step s a i h (sym f)))
