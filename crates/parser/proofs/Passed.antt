-- Bytes that a scan passes at once: a machine that goes on in its state at each of them stands after them where it stood before. Assumes nothing.
use Prim.Native.Nat.{ℕ, zero, suc, ◌+◌, ◌^◌, ◌≤◌, ◌<◌}
use mathlib.Core.Path.{◌≡◌, refl, sym, ap, ◌∙◌, subst}
use mathlib.Core.List.{List}
use mathlib.Core.Bool.{Bool, true, false}
use native.Mathlib.Omega.{arith}
use native.Mathlib.Decide.{dec_lt}
use mir.Val.{Fits}
use mir.Syntax.{w64}
use borrow.Author.Tests.{eqb-false, lt-leb}
use lib.Dec.{eqb}
use lib.ListN.{length, get_or}
use Rattle.ground.specs.Bytes.{quot, amp, apos, lt, gt}
use Rattle.ground.proofs.Choices.{choices, or_left, or_right, pick_same}
use Rattle.blocks.specs.Blocks.{one_of_three, either_of, block_len, Clears, NoneOf, YesWhere}
use Rattle.blocks.proofs.Flags.{block_fits, block_less}
use Rattle.parser.specs.Machine.{Next, go, halt, Scan, scan_at}
use Rattle.parser.specs.First.{first_step, first_answer, one_of, text_ends}
use Rattle.parser.specs.declared.first.Found.TheVariants.{At, End}
use Rattle.parser.specs.Element.{element_step, element_answer, quote_of, IsQuote}
use Rattle.parser.specs.declared.element.Found.TheVariants.{Open}
use Rattle.parser.specs.declared.element.ElementState.{ElementState}
use Rattle.parser.specs.declared.element.ElementState.TheVariants.{Outside}
use Rattle.parser.specs.Marks.{marks_step, marks_answer, seeing}
use Rattle.parser.specs.declared.marks.Found.TheVariants as Marked
use Rattle.parser.specs.declared.marks.Marks.{Marks}
use Rattle.parser.specs.Passed.{Passes, Skips}
use Rattle.parser.proofs.Machine.{scan_more, run_turn, run_end, run_halt}
use Rattle.parser.proofs.Turns.{step_within, first_turn, first_here, first_done, end_outside, tag_turns}

-- ---- any machine

module _ {S : Type 0} (step : S → ℕ → Next S) (t : S) (s : List ℕ) where
  run_block : (i k : ℕ) → i + k ≤ length s → ((j : ℕ) → j < k → step t (get_or s (i + j) 0) ≡ go t) → scan_at step t s i ≡ scan_at step t s (i + k)
  run_block i zero h all = ap (scan_at step t s) (omega arith)
  run_block i (suc k) h all =
      run_block i k (omega arith) (λ j l. all j (omega arith)) ∙ scan_more step t s (i + k) t (omega arith) (all k (omega arith))
      ∙ ap (scan_at step t s) (omega arith)

  pub pass_here : (i : ℕ) → Passes step t s i i
  pass_here i = record { low = omega arith; same = refl }

  -- a test that fails only at bytes at which the machine goes on
  module _ (test : ℕ → Bool) (goes : (b : ℕ) → test b ≡ false → step t b ≡ go t) (i n : ℕ) where
    pass_before : (k : ℕ) → Clears test s i n k → Passes step t s i (i + k)
    pass_before k b = elim (dec_lt (length s) (i + n)) [
      | yes h ↦ let e = b.short h in record { low = omega arith; same = ap (scan_at step t s) (omega arith) }
      | no h ↦ let l = b.there (omega arith) in
          record { low = omega arith; same = run_block i k (omega (arith, l.most)) (λ j m. goes (get_or s (i + j) 0) (l.none j m)) }
    ]

    pass_none : (q : Bool) → YesWhere q (NoneOf test s i n) → q ≡ true → Passes step t s i (i + n)
    pass_none q b e =
        let l = b.yes e in
        record { low = omega arith; same = run_block i n l.within (λ j m. goes (get_or s (i + j) 0) (l.none j m)) }

  pass_on : (i j k : ℕ) → Passes step t s i j → Passes step t s j k → Passes step t s i k
  pass_on i j k p q = record { low = omega (arith, p.low, q.low); same = p.same ∙ q.same }

-- how far one may count
pub before_fits : (test : ℕ → Bool) (s : List ℕ) (i n k : ℕ) → Clears test s i n k → i < 2 ^ 64 → length s < 2 ^ 64 → Fits w64 (i + k)
before_fits test s i n k b h l = record {
  fits = elim (dec_lt (length s) (i + n)) [
    | yes m ↦ omega (arith, b.short m)
    | no m ↦ omega (arith, (b.there (omega arith)).most)
  ];
}

-- and after the byte at i
module _ (test : ℕ → Bool) (s : List ℕ) (i n k : ℕ) (b : Clears test s (i + 1) n k) (h : i < length s) (l : length s < 2 ^ 64) where
  pub next_fits : Fits w64 (i + 1 + k)
  next_fits = before_fits test s (i + 1) n k b (omega arith) l

  pub next_below : i + 1 + k < 2 ^ 64
  next_below = next_fits.fits

-- ---- text

text_goes : (b : ℕ) → either_of lt amp b ≡ false → first_step (one_of text_ends) tt b ≡ go tt
text_goes b e = rw (or_left (eqb b lt) (eqb b amp) e, or_right (eqb b lt) (eqb b amp) e)

near_goes : (b : ℕ) → one_of_three lt amp amp b ≡ false → first_step (one_of text_ends) tt b ≡ go tt
near_goes b e = text_goes b (or_left (either_of lt amp b) (eqb b amp) e)

abbrev Text : List ℕ → ℕ → ℕ → Type 0
Text = Passes (first_step (one_of text_ends)) tt

module _ (s : List ℕ) (i : ℕ) where
  pub text_near : (k : ℕ) → Clears (one_of_three lt amp amp) s i block_len k → Text s i (i + k)
  text_near = pass_before (first_step (one_of text_ends)) tt s (one_of_three lt amp amp) near_goes i block_len

  pub text_far : (k p : ℕ) → Clears (one_of_three lt amp amp) s i block_len k → Text s (i + k) p → Text s i p
  text_far k p b = pass_on (first_step (one_of text_ends)) tt s i (i + k) p (text_near k b)

  pub text_block : (from : ℕ) (q : Bool) → Text s from i → YesWhere q (NoneOf (either_of lt amp) s i 128) → q ≡ true → Text s from (i + 128)
  text_block from q p b e =
      pass_on (first_step (one_of text_ends)) tt s from i (i + 128) p
      (pass_none (first_step (one_of text_ends)) tt s (either_of lt amp) text_goes i 128 q b e)

  -- a loop that stands at i, and goes on at p
  module _ (r : Scan (Unit {0})) (p : ℕ) (k : Text s i p) (v : r ≡ scan_at (first_step (one_of text_ends)) tt s i) where
    pub text_turn : p < length s → false ≡ one_of text_ends (get_or s p 0) → r ≡ scan_at (first_step (one_of text_ends)) tt s (p + 1)
    text_turn = first_turn (one_of text_ends) s r p (v ∙ k.same)

    pub text_here : p < length s → true ≡ one_of text_ends (get_or s p 0) → At p ≡ first_answer r
    text_here = first_here (one_of text_ends) s r p (v ∙ k.same)

    pub text_done : length s ≤ p → End ≡ first_answer r
    text_done = first_done (one_of text_ends) s r p (v ∙ k.same)

pub ruleset text_passes =
    (choices, before_fits, block_fits, block_less, pass_here, text_near, text_far, text_block, text_turn, text_here, text_done)

-- ---- a tag

tag_goes : (b : ℕ) → one_of_three gt quot apos b ≡ false → element_step Outside b ≡ go Outside
tag_goes b e =
    let f = or_left (either_of gt quot b) (eqb b apos) e in
    rw (or_left (eqb b gt) (eqb b quot) f, or_right (eqb b gt) (eqb b quot) f, or_right (either_of gt quot b) (eqb b apos) e)

quote_goes : (q : ℕ) → IsQuote q → (b : ℕ) → one_of_three q q q b ≡ false → element_step (quote_of q) b ≡ go (quote_of q)
quote_goes q h b e = step_within q b h (eqb-false b q (or_right (either_of q q b) (eqb b q) e))

module _ (s : List ℕ) (r : Scan ElementState) (i : ℕ) where
  module _ (k : ℕ) (v : r ≡ scan_at element_step Outside s i) (b : Clears (one_of_three gt quot apos) s i block_len k) where
    pub tag_on : r ≡ scan_at element_step Outside s (i + k)
    tag_on = v ∙ (pass_before element_step Outside s (one_of_three gt quot apos) tag_goes i block_len k b).same

    pub tag_open : length s ≤ i + k → Open Outside ≡ element_answer r
    tag_open = end_outside s r (i + k) tag_on

  module _ (q : ℕ) (v : r ≡ scan_at element_step (quote_of q) s i) where
    pub quote_on : (k : ℕ) → IsQuote q → Clears (one_of_three q q q) s i block_len k → r ≡ scan_at element_step (quote_of q) s (i + k)
    quote_on k h b = v ∙ (pass_before element_step (quote_of q) s (one_of_three q q q) (quote_goes q h) i block_len k b).same

    pub quote_near : (p : ℕ) → Passes element_step (quote_of q) s i p → r ≡ scan_at element_step (quote_of q) s p
    quote_near p k = v ∙ k.same

module _ (s : List ℕ) (q i : ℕ) where
  pub near_turn : (from : ℕ) → Passes element_step (quote_of q) s from i → IsQuote q → (end : ℕ) → end ≤ length s → i < end → (get_or s i 0 ≡ q → ⊥)
      → Passes element_step (quote_of q) s from (i + 1)
  near_turn from p h end m l n = record {
    low = omega (arith, p.low);
    same = p.same ∙ scan_more element_step (quote_of q) s i (quote_of q) (omega arith) (step_within q (get_or s i 0) h n);
  }

pub ruleset tag_passes = (tag_turns, before_fits, next_fits, next_below, tag_on, tag_open, quote_on, quote_near)

pub ruleset near_turns = (tag_turns, pass_here, near_turn)

-- ---- marks

module _ (mark need : ℕ) where
  -- with no mark before it any byte but a mark passes, a `>` too
  mark_goes : 0 < need → (b : ℕ) → one_of_three mark mark mark b ≡ false → marks_step mark need (seeing 0) b ≡ go (seeing 0)
  mark_goes h b e = rw (or_right (either_of mark mark b) (eqb b mark) e, lt-leb need 0 h) (pick_same (eqb b gt) (go (seeing 0)))

  module _ (s : List ℕ) (i seen k : ℕ) (b : Skips mark need seen s i k) where
    skip_passes : Passes (marks_step mark need) (seeing seen) s i (i + k)
    skip_passes = elim (dec_lt 0 seen) [
      | yes h ↦ none (b.marked h)
      | no h ↦ elim (dec_lt 0 need) [
        | yes l ↦ let e : seen ≡ 0 = omega arith in
            subst (λ (n : ℕ). Passes (marks_step mark need) (seeing n) s i (i + k)) (sym e)
            (pass_before (marks_step mark need) (seeing 0) s (one_of_three mark mark mark) (mark_goes l) i block_len k (b.unmarked e l))
        | no l ↦ none (b.unneeded (omega arith))
      ]
    ]
      where
        none : k ≡ 0 → Passes (marks_step mark need) (seeing seen) s i (i + k)
        none e = let z : i + k ≡ i = omega arith in
            subst (Passes (marks_step mark need) (seeing seen) s i) (sym z) (pass_here (marks_step mark need) (seeing seen) s i)

    -- a loop that stands at i with so many marks before it, and goes on at i + k
    module _ (r : Scan Marks) (v : r ≡ scan_at (marks_step mark need) (seeing seen) s i) where
      pub marks_turn : (t : Marks) → i + k < length s → go t ≡ marks_step mark need (seeing seen) (get_or s (i + k) 0)
          → r ≡ scan_at (marks_step mark need) t s (i + k + 1)
      marks_turn = run_turn (marks_step mark need) r (seeing seen) s (i + k) (v ∙ skip_passes.same)

      pub marks_open : length s ≤ i + k → Marked.Open (seeing seen) ≡ marks_answer r
      marks_open h = run_end marks_answer (marks_step mark need) r (seeing seen) s (i + k) _ (v ∙ skip_passes.same) h refl

      pub marks_found_lem : i + k < length s → halt ≡ marks_step mark need (seeing seen) (get_or s (i + k) 0) → Marked.At (i + k) ≡ marks_answer r
      marks_found_lem h e = run_halt marks_answer (marks_step mark need) r (seeing seen) s (i + k) _ (v ∙ skip_passes.same) h e refl

    pub skips_fit : i < 2 ^ 64 → length s < 2 ^ 64 → Fits w64 (i + k)
    skips_fit h l = elim (dec_lt 0 seen) [
      | yes m ↦ record { fits = omega (arith, b.marked m) }
      | no m ↦ elim (dec_lt 0 need) [
        | yes p ↦ before_fits (one_of_three mark mark mark) s i block_len k (b.unmarked (omega arith) p) h l
        | no p ↦ record { fits = omega (arith, b.unneeded (omega arith)) }
      ]
    ]

  module _ (s : List ℕ) (i seen : ℕ) where
    pub skips_marked : (seen ≡ 0 → ⊥) → Skips mark need seen s i 0
    skips_marked n = record { unmarked = λ e. absurd (n e); marked = λ h. refl; unneeded = λ e. refl }

    pub skips_unneeded : need ≡ 0 → Skips mark need seen s i 0
    skips_unneeded e = record { unmarked = λ f h. absurd (omega arith); marked = λ h. refl; unneeded = λ f. refl }

    pub skips_some : (k : ℕ) → seen ≡ 0 → (need ≡ 0 → ⊥) → Clears (one_of_three mark mark mark) s i block_len k → Skips mark need seen s i k
    skips_some k e n c = record { unmarked = λ f h. c; marked = λ h. absurd (omega arith); unneeded = λ f. absurd (n f) }

pub ruleset mark_passes = (choices, marks_turn, marks_open, marks_found_lem, skips_fit, skips_marked, skips_unneeded, skips_some)
