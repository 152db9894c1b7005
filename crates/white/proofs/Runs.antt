-- The runs of specs/White at a position of a list, and the turns and the ends of the loops that follow them. Assumes nothing.
use Prim.Native.Nat.{ℕ, zero, suc, ◌+◌, ◌-◌, ◌^◌, ◌≤◌, ◌<◌}
use mathlib.Core.Path.{◌≡◌, refl, sym, ap, ◌∙◌}
use mathlib.Core.List.{List, [], ◌∷◌}
use mathlib.Core.Bool.{Bool, true, false, not, ◌||◌, ◌&&◌}
use native.Mathlib.Numerals.{add-one}
use native.Mathlib.Omega.{arith}
use native.Mathlib.Decide.{dec_lt}
use lib.Dec.{leb}
use lib.ListN.{length, get_or, drop, length-drop}
use lib.Seq.{get_or-drop}
use mir.Val.{Fits}
use mir.Syntax.{w64}
use borrow.Author.Tests.{le-leb, lt-leb, leb-true, leb-false, not-false}
use borrow.Author.Rules.{rules}
use Rattle.ground.specs.Choose.{pick}
use Rattle.ground.specs.Part.{part}
use Rattle.ground.proofs.Choices.{pick_cases}
use Rattle.ground.proofs.Lists.{drop_next, drop_done, part_end}
use Rattle.white.specs.White.{is_white, not_white, until, leading, kept_of, kept}

-- ---- a byte of white space

-- the four tests joined, and chosen one after the other
pub any_of_four : (a b c d : Bool) → (((a || b) || c) || d) ≡ pick a true (pick b true (pick c true (pick d true false)))
any_of_four true b c d = refl
any_of_four false true c d = refl
any_of_four false false true d = refl
any_of_four false false false true = refl
any_of_four false false false false = refl

-- ---- the first byte that passes a test

module _ (test : ℕ → Bool) (s : List ℕ) (i : ℕ) where
  pub until_end : length s ≤ i → until test (drop i s) ≡ 0
  unfolding until
  until_end h = rw drop_done

  pub until_here : i < length s → test (get_or s i 0) ≡ true → until test (drop i s) ≡ 0
  unfolding until
  until_here h e = rw (drop_next s i h, e)

  pub until_next : i < length s → test (get_or s i 0) ≡ false → until test (drop i s) ≡ until test (drop (i + 1) s) + 1
  unfolding until
  until_next h e = rw (drop_next s i h, e)

module _ (test : ℕ → Bool) where
  pub until_within : (bs : List ℕ) → until test bs ≤ length bs
  unfolding until
  until_within [] = omega arith
  until_within (b ∷ bs) = pick_cases (λ (n : ℕ). n ≤ suc (length bs)) (test b) _ _ (λ e. omega arith) (λ e. omega (arith, until_within bs))

  -- no byte before it passes
  pub until_before : (bs : List ℕ) (k : ℕ) → k < until test bs → (k < length bs) × (test (get_or bs k 0) ≡ false)
  unfolding until
  until_before [] k h = absurd (omega arith)
  until_before (b ∷ bs) k h = by (test b) refl (until_before bs) k h
    where
      by : (x : Bool) → test b ≡ x → ((k : ℕ) → k < until test bs → (k < length bs) × (test (get_or bs k 0) ≡ false))
          → (k : ℕ) → k < pick x 0 (until test bs + 1) → (k < suc (length bs)) × (test (get_or (b ∷ bs) k 0) ≡ false)
      by true e r k h = absurd (omega arith)
      by false e r zero h = (omega arith, e)
      by false e r (suc k) h = let g = r k (omega arith) in (omega arith, g.1)

-- a loop that looks for the first byte of s that passes the test, and stands at i
module _ (test : ℕ → Bool) (s : List ℕ) (n i : ℕ) (v : n ≡ i + until test (drop i s)) where
  pub run_past : length s ≤ i → i ≡ n
  run_past h = omega (arith, until_end test s i h)

  -- where x is what a call says of the byte there
  module _ (h : i < length s) (x : Bool) (q : x ≡ test (get_or s i 0)) where
    pub run_here : x ≡ true → i ≡ n
    run_here e = omega (arith, until_here test s i h (sym q ∙ e))

    pub run_turn : x ≡ false → n ≡ i + 1 + until test (drop (i + 1) s)
    run_turn e = omega (arith, until_next test s i h (sym q ∙ e))

-- a loop over the part p that starts at its first byte
pub run_start : (test : ℕ → Bool) (p s : List ℕ) → s ≡ p → until test p ≡ 0 + until test (drop 0 s)
run_start test p s e = omega (arith, ap (until test) e)

pub ruleset until_turns = (rules, run_start)

-- ---- w bytes at once, none of which passes the test

until_same : (test : ℕ → Bool) (s : List ℕ) (j k : ℕ) → j ≡ k → until test (drop j s) ≡ until test (drop k s)
until_same test s j k e = ap (λ (m : ℕ). until test (drop m s)) e

module _ (test : ℕ → Bool) (s : List ℕ) (i : ℕ) where
  -- a byte before it stands in the list, and fails
  pub until_byte : (k : ℕ) → k < until test (drop i s) → (i + k < length s) × (test (get_or s (i + k) 0) ≡ false)
  until_byte k h =
      let g = until_before test (drop i s) k h in
      (omega (arith, g.0, length-drop i s), ap test (sym (get_or-drop i s k 0)) ∙ g.1)

  until_skip : (w : ℕ) → w ≤ until test (drop i s) → until test (drop i s) ≡ w + until test (drop (i + w) s)
  until_skip zero h = omega (arith, until_same test s i (i + 0) (omega arith))
  until_skip (suc w) h =
      let there = until_byte w (omega arith) in
      let r = until_skip w (omega arith) in
      omega (arith, r, until_next test s (i + w) there.0 there.1, until_same test s (i + w + 1) (i + suc w) (omega arith))

  pub until_inside : until test (drop i s) ≤ length s - i
  until_inside = omega (arith, until_within test (drop i s), length-drop i s)

-- what holds of a loop that counts white space in front and stands at i: the answer is i and the answer for what is left there
abbrev pub Led : List ℕ → ℕ → Type 0
Led s i = (i ≤ length s) × (leading s ≡ i + until not_white (drop i s))

pub lead_start : (s : List ℕ) → Led s 0
lead_start s = (omega arith, run_start not_white s s refl)

-- where x is what a call says of w bytes there
module _ (s : List ℕ) (i w : ℕ) (x : Bool) (q : x ≡ leb w (until not_white (drop i s))) (e : x ≡ true) where
  lead_many : w ≤ until not_white (drop i s)
  lead_many = leb-true w _ (sym q ∙ e)

  pub lead_fits : length s < 2 ^ 64 → Led s i → Fits w64 (i + w)
  lead_fits h v = record { fits = omega (arith, v.0, lead_many, until_inside not_white s i) }

  pub lead_less : 0 < w → length s - (i + w) < length s - i
  lead_less h = omega (arith, lead_many, until_inside not_white s i)

  pub lead_turn : Led s i → Led s (i + w)
  lead_turn v = (omega (arith, v.0, lead_many, until_inside not_white s i), omega (arith, v.1, until_skip not_white s i w lead_many))

pub lead_here : (s : List ℕ) (i : ℕ) (x : Bool) → x ≡ leb 1 (until not_white (drop i s)) → x ≡ false → Led s i → i ≡ leading s
lead_here s i x q e v = omega (arith, v.1, leb-false 1 (until not_white (drop i s)) (sym q ∙ e))

-- ---- a flag over w bytes at i

module _ (s : List ℕ) (i : ℕ) where
  -- whether the first k are white space
  abbrev pub all_white : ℕ → Bool
  all_white k = leb k (until not_white (drop i s))

  pub flag_start : true ≡ all_white 0
  flag_start = sym (le-leb 0 (until not_white (drop i s)) (omega arith))

  module _ (w k : ℕ) (a : Bool) (v : a ≡ all_white k) where
    -- where x is what a call says of the next
    pub flag_turn : w ≤ length s - i → k < w → (x : Bool) → x ≡ is_white (get_or s (i + k) 0) → (a && x) ≡ all_white (k + 1)
    flag_turn r l x q = ap (λ (b : Bool). b && x) v ∙ by (all_white k) refl x q
      where
        by : (b : Bool) → all_white k ≡ b → (y : Bool) → y ≡ is_white (get_or s (i + k) 0) → (b && y) ≡ all_white (k + 1)
        by false g y p = sym (lt-leb (k + 1) _ (omega (arith, leb-false k _ g)))
        by true g true p =
            sym (le-leb (k + 1) _ (omega (arith, until_skip not_white s i k (leb-true k _ g), until_next not_white s (i + k) (omega arith) (ap not (sym p)))))
        by true g false p =
            sym (lt-leb (k + 1) _ (omega (arith, until_skip not_white s i k (leb-true k _ g), until_here not_white s (i + k) (omega arith) (ap not (sym p)))))

    pub flag_end : w ≤ k → k ≤ w → a ≡ all_white w
    flag_end h l = let e : k ≡ w = omega arith in v ∙ ap all_white e

  pub flag_short : (w : ℕ) → length s - i < w → false ≡ all_white w
  flag_short w h = sym (lt-leb w _ (omega (arith, until_inside not_white s i)))

pub ruleset flag_turns = (rules, flag_start, flag_turn, flag_end, flag_short)

-- ---- cutting white space back from the end

pub kept_within : (s : List ℕ) (n : ℕ) → kept_of s n ≤ n
unfolding kept_of
kept_within s zero = omega arith
kept_within s (suc n) = pick_cases (λ (k : ℕ). k ≤ suc n) (is_white (get_or s n 0)) _ _ (λ e. omega (arith, kept_within s n)) (λ e. omega arith)

kept_less : (s : List ℕ) (n : ℕ) → is_white (get_or s n 0) ≡ true → kept_of s (n + 1) ≡ kept_of s n
unfolding kept_of
kept_less s n e = rw (add-one, e)

-- of the first n bytes, those after the kept ones are white space
pub kept_rest : (s : List ℕ) (n k : ℕ) → kept_of s n ≤ k → k < n → is_white (get_or s k 0) ≡ true
unfolding kept_of
kept_rest s zero k h l = absurd (omega arith)
kept_rest s (suc n) k h l = by (is_white (get_or s n 0)) refl (kept_rest s n k) h
  where
    by : (x : Bool) → is_white (get_or s n 0) ≡ x → (kept_of s n ≤ k → k < n → is_white (get_or s k 0) ≡ true)
        → pick x (kept_of s n) (suc n) ≤ k → is_white (get_or s k 0) ≡ true
    by true e r h =
        elim (dec_lt k n) [
          | yes m ↦ r h m
          | no m ↦ ap (λ (j : ℕ). is_white (get_or s j 0)) (omega arith) ∙ e
        ]
    by false e r h = absurd (omega arith)

kept_same : (s : List ℕ) (j k : ℕ) → j ≡ k → kept_of s j ≡ kept_of s k
kept_same s j k e = ap (kept_of s) e

module _ (s : List ℕ) (i : ℕ) where
  kept_back : (w : ℕ) → is_white (get_or s (i + w) 0) ≡ true → kept_of s (i + suc w) ≡ kept_of s (i + w)
  kept_back w e = kept_same s (i + suc w) (i + w + 1) (omega arith) ∙ kept_less s (i + w) e

  -- where of the first i + w bytes the last w are cut, as much is left of the first i
  kept_skip : (w : ℕ) → kept_of s (i + w) ≤ i → kept_of s (i + w) ≡ kept_of s i
  kept_skip zero h = kept_same s (i + 0) i (omega arith)
  kept_skip (suc w) h = let g = kept_back w (kept_rest s (i + suc w) (i + w) (omega arith) (omega arith)) in g ∙ kept_skip w (omega arith)

  -- and they are white space
  cut_white : (w : ℕ) → i + w ≤ length s → kept_of s (i + w) ≤ i → w ≤ until not_white (drop i s)
  cut_white zero l h = omega arith
  cut_white (suc w) l h =
      let e = kept_rest s (i + suc w) (i + w) (omega arith) (omega arith) in
      let r = cut_white w (omega arith) (omega (arith, kept_back w e)) in
      omega (arith, until_skip not_white s i w r, until_next not_white s (i + w) (omega arith) (ap not e))

  -- white space is cut
  white_cut : (w : ℕ) → w ≤ until not_white (drop i s) → kept_of s (i + w) ≤ i
  white_cut zero h = omega (arith, kept_within s (i + 0))
  white_cut (suc w) h = omega (arith, white_cut w (omega arith), kept_back w (not-false _ (until_byte not_white s i w (omega arith)).1))

-- whether the first e bytes end with w bytes of white space
module _ (s : List ℕ) (e w : ℕ) where
  pub ends_short : e < w → false ≡ leb w (e - kept_of s e)
  ends_short h = sym (lt-leb w _ (omega arith))

  -- where x is what a call says of the last w
  pub ends_so : w ≤ e → e ≤ length s → (x : Bool) → x ≡ leb w (until not_white (drop (e - w) s)) → x ≡ leb w (e - kept_of s e)
  ends_so h l true q =
      sym (le-leb w _ (omega (arith, kept_same s (e - w + w) e (omega arith), white_cut s (e - w) w (leb-true w _ (sym q)))))
  ends_so h l false q = sym (lt-leb w _ (by (dec_lt (e - kept_of s e) w)))
    where
      by : Dec (e - kept_of s e < w) → e - kept_of s e < w
      by (yes m) = m
      by (no m) =
          let r = cut_white s (e - w) w (omega arith) (omega (arith, kept_same s (e - w + w) e (omega arith), kept_within s e)) in
          absurd (omega (arith, r, leb-false w _ (sym q)))

pub ruleset ends_turns = (rules, ends_short, ends_so)

-- what holds of a loop that cuts back and stands at e: the answer is that of cutting back from there
abbrev pub Cut : List ℕ → ℕ → Type 0
Cut s e = (e ≤ length s) × (kept s ≡ kept_of s e)

pub cut_start : (s : List ℕ) → Cut s (length s)
cut_start s = (omega arith, refl)

-- where x is what a call says of the w bytes before it
module _ (s : List ℕ) (e w : ℕ) (x : Bool) (q : x ≡ leb w (e - kept_of s e)) (f : x ≡ true) where
  cut_many : w ≤ e - kept_of s e
  cut_many = leb-true w _ (sym q ∙ f)

  pub cut_fits : w ≤ e
  cut_fits = omega (arith, cut_many)

  pub cut_less : 0 < w → e - w < e
  cut_less h = omega (arith, cut_many)

  pub cut_turn : Cut s e → Cut s (e - w)
  cut_turn v =
      let g = kept_same s (e - w + w) e (omega (arith, cut_many)) in
      let r = kept_skip s (e - w) w (omega (arith, g, cut_many, kept_within s e)) in
      (omega (arith, v.0), omega (arith, v.1, g, r))

pub cut_here : (s : List ℕ) (e : ℕ) (x : Bool) → x ≡ leb 1 (e - kept_of s e) → x ≡ false → Cut s e → e ≡ kept s
cut_here s e x q f v = omega (arith, v.1, leb-false 1 (e - kept_of s e) (sym q ∙ f), kept_within s e)

-- ---- how many bytes of a span are counted, as a position of the slice, whatever the span

module _ (count : List ℕ → ℕ) (within : (bs : List ℕ) → count bs ≤ length bs) where
  module _ (s bs : List ℕ) (from to n : ℕ) (e : n ≡ count bs) (f : bs ≡ part s from to) where
    pub trim_fits : from < 2 ^ 64 → to < 2 ^ 64 → Fits w64 (from + n)
    trim_fits h k = record { fits = omega (arith, within bs, part_end s from to, ap length f) }

    pub trim_is : from + n ≡ from + count (part s from to)
    trim_is = rw (← f) (ap (λ (k : ℕ). from + k) e)
