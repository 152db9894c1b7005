-- A reader's numbers stand for that reader, and numbers that stand for a reader are its numbers. Assumes nothing.
use Prim.Native.Nat.{ℕ, ◌+◌, ◌*◌, ◌/◌, ◌%◌, ◌≤◌}
use native.Mathlib.Omega.{arith}
use mathlib.Core.Path.{◌≡◌, refl, sym, ap, ◌∙◌}
use mathlib.Core.Bool.{Bool, true, false}
use mathlib.Core.List.{List, ◌∷◌, ◌++◌}
use lib.ListN.{length, get_or, take, drop, set, length-set}
use lib.Seq.{drop-cons}
use lib.Dec.{eqb, ltb}
use borrow.Author.Tests.{eq-eqb, ne_eqb, eqb-true, eqb-false, ltb-false, le-ltb}
use Rattle.ground.specs.Choose.{pick}
use Rattle.ground.proofs.Choices.{pick_cases, pick_nlt}
use Rattle.state.specs.declared.config.Config.{Config}
use Rattle.state.specs.declared.run.Phase.{Phase}
use Rattle.state.specs.declared.run.Reader.{Reader}
use Rattle.state.specs.Place.{at, depth_of}
use Rattle.capi.specs.declared.slots.Held.{Held}
use Rattle.capi.specs.Numbers.{bit, config_of, settings_number, phase_number, phase_of, mark_slot, mark_number, noted, state_numbers, state_slots, held_of}
use Rattle.capi.specs.Slots.{put}
use Rattle.capi.proofs.Marks.{is_on, mark_told, mark_kept}
use Rattle.capi.proofs.Numbers.{held_made}

-- ---- settings

-- 1 for a flag that is on
abbrev one : Bool → ℕ
one t = pick t 1 0

few : (t : Bool) → one t ≤ 1
few t = pick_cases (λ (n : ℕ). n ≤ 1) t 1 0 (λ e. omega arith) (λ e. omega arith)

weighs : (t : Bool) (w : ℕ) → pick t w 0 ≡ w * one t
weighs true w = omega arith
weighs false w = omega arith

-- a flag is told from its number
flagged : (t : Bool) (n : ℕ) → n ≡ one t → eqb n 1 ≡ t
flagged true n e = eq-eqb n 1 e
flagged false n e = ne_eqb n 1 (λ f. absurd (omega arith))

-- ---- the settings that a number was made of

module _ (a b c d e f g h i : Bool) where
  -- the nine flags as one number
  abbrev sum : ℕ
  sum = pick a 1 0 + pick b 2 0 + pick c 4 0 + pick d 8 0 + pick e 16 0 + pick f 32 0 + pick g 64 0 + pick h 128 0 + pick i 256 0

  -- what is known of it
  record Digits : Type 0 where
    digits : sum ≡ one a + 2 * one b + 4 * one c + 8 * one d + 16 * one e + 32 * one f + 64 * one g + 128 * one h + 256 * one i
    a1 : one a ≤ 1
    b1 : one b ≤ 1
    c1 : one c ≤ 1
    d1 : one d ≤ 1
    e1 : one e ≤ 1
    f1 : one f ≤ 1
    g1 : one g ≤ 1
    h1 : one h ≤ 1
    i1 : one i ≤ 1

  known : Digits
  known =
      record {
        digits = omega (arith, weighs b 2, weighs c 4, weighs d 8, weighs e 16, weighs f 32, weighs g 64, weighs h 128, weighs i 256);
        a1 = few a;
        b1 = few b;
        c1 = few c;
        d1 = few d;
        e1 = few e;
        f1 = few f;
        g1 = few g;
        h1 = few h;
        i1 = few i;
      }

  sum_most : sum ≤ 511
  sum_most = omega (arith, known)

  flags_told : ◌≡◌ {A = Config} (config_of sum)
      (record {
        allow_dangling_amp = a;
        allow_unmatched_ends = b;
        check_comments = c;
        check_end_names = d;
        expand_empty_elements = e;
        trim_markup_names_in_closing_tags = f;
        trim_text_start = g;
        trim_text_end = h;
        check_open_names = i;
      })
  unfolding config_of
  flags_told =
      rw (
        flagged a (sum / 1 % 2) (omega (arith, known)),
        flagged b (sum / 2 % 2) (omega (arith, known)),
        flagged c (sum / 4 % 2) (omega (arith, known)),
        flagged d (sum / 8 % 2) (omega (arith, known)),
        flagged e (sum / 16 % 2) (omega (arith, known)),
        flagged f (sum / 32 % 2) (omega (arith, known)),
        flagged g (sum / 64 % 2) (omega (arith, known)),
        flagged h (sum / 128 % 2) (omega (arith, known)),
        flagged i (sum / 256 % 2) (omega (arith, known)),
      )

pub settings_most : (c : Config) → settings_number c ≤ 511
unfolding settings_number
settings_most c =
    sum_most c.allow_dangling_amp c.allow_unmatched_ends c.check_comments c.check_end_names c.expand_empty_elements c.trim_markup_names_in_closing_tags c.trim_text_start c.trim_text_end c.check_open_names

-- THEOREM
pub settings_there_and_back : (c : Config) → config_of (settings_number c) ≡ c
unfolding settings_number
settings_there_and_back c =
    flags_told c.allow_dangling_amp c.allow_unmatched_ends c.check_comments c.check_end_names c.expand_empty_elements c.trim_markup_names_in_closing_tags c.trim_text_start c.trim_text_end c.check_open_names

-- a bit weighs what it stands for
digit_weighs : (m w : ℕ) → m ≤ 1 → pick (eqb m 1) w 0 ≡ w * m
digit_weighs m w l =
    pick_cases (λ (k : ℕ). k ≡ w * m) (eqb m 1) w 0
    (λ e. let is : m ≡ 1 = eqb-true m 1 e in rw is (omega arith))
    (λ e. let is : m ≡ 0 = omega (arith, eqb-false m 1 e) in rw is (omega arith))

bit_weighs : (n w : ℕ) → pick (bit n w) w 0 ≡ w * (n / w % 2)
bit_weighs n w = digit_weighs (n / w % 2) w (omega arith)

-- a number is the sum of its digits, halved again and again
telescope : (a b c d e f g h i p q r s t u v w : ℕ) → p ≡ b + 2 * q → q ≡ c + 2 * r → r ≡ d + 2 * s → s ≡ e + 2 * t → t ≡ f + 2 * u → u ≡ g + 2 * v → v ≡ h + 2 * w → w ≡ i
    → 1 * a + 2 * b + 4 * c + 8 * d + 16 * e + 32 * f + 64 * g + 128 * h + 256 * i ≡ a + 2 * p
telescope a b c d e f g h i p q r s t u v w bq cr ds et fu gv hw iw = omega arith

-- THEOREM
pub bits_there_and_back : (n : ℕ) → n ≤ 511 → settings_number (config_of n) ≡ n
unfolding settings_number config_of
bits_there_and_back n l =
    rw (bit_weighs n 1, bit_weighs n 2, bit_weighs n 4, bit_weighs n 8, bit_weighs n 16, bit_weighs n 32, bit_weighs n 64, bit_weighs n 128, bit_weighs n 256)
    (telescope _ _ _ _ _ _ _ _ _ (n / 2) (n / 4) (n / 8) (n / 16) (n / 32) (n / 64) (n / 128) (n / 256)
    (omega arith) (omega arith) (omega arith) (omega arith) (omega arith) (omega arith) (omega arith) (omega arith)
    ∙ omega arith)

-- ---- phases

pub phase_most : (p : Phase) → phase_number p ≤ 5
phase_most Phase.Init = omega arith
phase_most Phase.InsideText = omega arith
phase_most Phase.InsideMarkup = omega arith
phase_most Phase.InsideRef = omega arith
phase_most Phase.InsideEmpty = omega arith
phase_most Phase.Done = omega arith

pub phase_there_and_back : (p : Phase) → phase_of (phase_number p) ≡ p
unfolding phase_of
phase_there_and_back Phase.Init = refl
phase_there_and_back Phase.InsideText = refl
phase_there_and_back Phase.InsideMarkup = refl
phase_there_and_back Phase.InsideRef = refl
phase_there_and_back Phase.InsideEmpty = refl
phase_there_and_back Phase.Done = refl

pub number_there_and_back : (n : ℕ) → n ≤ 5 → phase_number (phase_of n) ≡ n
unfolding phase_of
number_there_and_back n l =
    pick_cases (λ (p : Phase). phase_number p ≡ n) (eqb n 0) _ _ (λ e. sym (eqb-true n 0 e)) (λ e0.
    pick_cases (λ (p : Phase). phase_number p ≡ n) (eqb n 1) _ _ (λ e. sym (eqb-true n 1 e)) (λ e1.
    pick_cases (λ (p : Phase). phase_number p ≡ n) (eqb n 2) _ _ (λ e. sym (eqb-true n 2 e)) (λ e2.
    pick_cases (λ (p : Phase). phase_number p ≡ n) (eqb n 3) _ _ (λ e. sym (eqb-true n 3 e)) (λ e3.
    pick_cases (λ (p : Phase). phase_number p ≡ n) (eqb n 4) _ _ (λ e. sym (eqb-true n 4 e)) (λ e4.
    omega (arith, eqb-false n 0 e0, eqb-false n 1 e1, eqb-false n 2 e2, eqb-false n 3 e3, eqb-false n 4 e4))))))

-- ---- a reader's slots

-- where there is room a reader's numbers come first
stored : (xs : List ℕ) (was : ℕ) (r : Reader) → state_slots ≤ length xs → put xs (state_numbers was r) ≡ state_numbers was r ++ drop state_slots xs
unfolding put state_numbers
stored xs was r l = sym (pick_nlt _ _ _ _ _ l refl)

-- THEOREM: the slots that a reader's numbers are written into hold that reader, if the mark's slot held none that is on where the reader's is off
pub what_is_stored_is_held : (xs : List ℕ) (was : ℕ) (r : Reader) → state_slots ≤ length xs → (is_on was ≡ true → r.mark ≡ true)
    → held_of (put xs (state_numbers was r)) ≡ Held.Reader r
unfolding state_numbers
what_is_stored_is_held xs was r l on =
    ap held_of (stored xs was r l)
    ∙ sym (held_made (state_numbers was r ++ drop state_slots xs) r.phase r.settings r.mark (omega arith) (phase_most r.phase) (settings_most r.settings)
    (sym (phase_there_and_back r.phase)) (sym (settings_there_and_back r.settings)) (mark_told was r.mark on))

-- the first six slots, one by one
six : (xs : List ℕ) → 6 ≤ length xs
    → get_or xs 0 0 ∷ get_or xs 1 0 ∷ get_or xs 2 0 ∷ get_or xs 3 0 ∷ get_or xs 4 0 ∷ get_or xs 5 0 ∷ drop 6 xs ≡ xs
six xs l =
    sym
    (drop-cons xs 0 0 (omega arith)
    ∙ ap (λ (ys : List ℕ). get_or xs 0 0 ∷ ys)
    (drop-cons xs 1 0 (omega arith)
    ∙ ap (λ (ys : List ℕ). get_or xs 1 0 ∷ ys)
    (drop-cons xs 2 0 (omega arith)
    ∙ ap (λ (ys : List ℕ). get_or xs 2 0 ∷ ys)
    (drop-cons xs 3 0 (omega arith)
    ∙ ap (λ (ys : List ℕ). get_or xs 3 0 ∷ ys)
    (drop-cons xs 4 0 (omega arith) ∙ ap (λ (ys : List ℕ). get_or xs 4 0 ∷ ys) (drop-cons xs 5 0 (omega arith)))))))

-- the reader that is made of slots
abbrev pub made_of : List ℕ → Reader
made_of xs =
    record {
      phase = phase_of (get_or xs 0 0);
      position = at (get_or xs 1 0);
      depth = depth_of (get_or xs 2 0);
      length = get_or xs 3 0;
      settings = config_of (get_or xs 4 0);
      mark = is_on (mark_slot xs);
    }

-- it has those numbers
numbers_kept : (xs : List ℕ) → state_slots ≤ length xs → get_or xs 0 0 ≤ 5 → get_or xs 4 0 ≤ 511 → put xs (state_numbers (mark_slot xs) (made_of xs)) ≡ xs
unfolding state_numbers
numbers_kept xs l p c =
    stored xs (mark_slot xs) (made_of xs) l
    ∙ rw (number_there_and_back (get_or xs 0 0) p, bits_there_and_back (get_or xs 4 0) c, mark_kept (mark_slot xs)) (six xs l)

module _ (xs : List ℕ) (r : Reader) where
  -- slots that hold a reader are enough, and hold that one
  abbrev pub Wanted : Held → Type 0
  Wanted x = x ≡ Held.Reader r → (state_slots ≤ length xs) × (get_or xs 0 0 ≤ 5) × (get_or xs 4 0 ≤ 511) × (made_of xs ≡ r)

  none : Wanted Held.Nothing
  none h = let z : ◌≡◌ {A = ℕ} 0 1 = cc in absurd (omega arith)

  pub holds : Wanted (held_of xs)
  unfolding held_of
  holds =
      pick_cases Wanted (ltb (length xs) state_slots) _ _ (λ _. none) (λ l.
      pick_cases Wanted (ltb 5 (get_or xs 0 0)) _ _ (λ _. none) (λ p.
      pick_cases Wanted (ltb 511 (get_or xs 4 0)) _ _ (λ _. none) (λ c h.
      (ltb-false (length xs) state_slots l, ltb-false 5 (get_or xs 0 0) p, ltb-false 511 (get_or xs 4 0) c, cc))))

  -- the mark is what its slot says
  pub holds_mark : held_of xs ≡ Held.Reader r → is_on (mark_slot xs) ≡ r.mark
  holds_mark e = ap (λ (x : Reader). x.mark) (holds e).3

-- THEOREM: slots that hold a reader begin with its numbers
pub what_is_held_is_stored : (xs : List ℕ) (r : Reader) → held_of xs ≡ Held.Reader r → put xs (state_numbers (mark_slot xs) r) ≡ xs
what_is_held_is_stored xs r e =
    let h = holds xs r e in
    ap (λ (x : Reader). put xs (state_numbers (mark_slot xs) x)) (sym h.3) ∙ numbers_kept xs h.0 h.1 h.2

-- so a reader with the same length and settings is written by its mark and its first three numbers
pub moved_is_stored : (xs : List ℕ) (r s : Reader) → held_of xs ≡ Held.Reader r → s.length ≡ r.length → s.settings ≡ r.settings
    → put (noted xs s.mark) (take 3 (state_numbers 0 s)) ≡ put xs (state_numbers (mark_slot xs) s)
unfolding put state_numbers
moved_is_stored xs r s e f g =
    let l : state_slots ≤ length xs = (holds xs r e).0 in
    let n : ℕ = mark_number (mark_slot xs) s.mark in
    let m : length (set xs 5 n) ≡ length xs = length-set xs 5 n in
    let rest : drop 3 (set xs 5 n) ≡ s.length ∷ settings_number s.settings ∷ n ∷ drop 6 xs =
    ap (λ (ys : List ℕ). drop 3 (set ys 5 n)) (sym (what_is_held_is_stored xs r e) ∙ stored xs (mark_slot xs) r l) ∙ rw (f, g) in
    simp (le-ltb (length (set xs 5 n)) 3 (omega arith), le-ltb (length xs) 6 l, rest)
