-- The turns and the ends of the scans' own loops, over plain variables. Assumes nothing.
use Prim.Native.Nat.{ℕ, zero, suc, ◌+◌, ◌-◌, ◌≤◌, ◌<◌}
use mathlib.Core.Path.{◌≡◌, refl, ap, ap₂, sym, ◌∙◌}
use mathlib.Core.List.{List}
use mathlib.Core.Logic.{inl, inr, ⊎_elim}
use lib.ListN.{length, get_or}
use native.Mathlib.Omega.{arith}
use mathlib.Core.Bool.{Bool, true, false}
use borrow.Author.Rules.{rules}
use borrow.Author.Tests.{ne_eqb}
use Rattle.ground.specs.Bytes.{quot, apos, gt, hyphen}
use Rattle.parser.specs.Machine.{go, halt, Scan, scan_at}
use Rattle.parser.specs.Element.{element_step, element_answer, quote_of, IsQuote}
use Rattle.parser.specs.declared.element.ElementState.{ElementState}
use Rattle.parser.specs.declared.element.ElementState.TheVariants.{Outside}
use Rattle.parser.specs.declared.element.Found.TheVariants.{At, Open}
use Rattle.parser.specs.First.{first_step, first_answer, first_found}
use Rattle.parser.specs.declared.first.Found.TheVariants as First
use Rattle.parser.specs.Hyphens.{pair_step, pair_answer}
use Rattle.parser.specs.Marks.{marks_step, marks_answer, marks_found, seeing, passing}
use Rattle.parser.specs.declared.marks.Marks.{Marks}
use Rattle.parser.specs.declared.marks.Found.{Found}
use Rattle.parser.specs.declared.marks.Found.TheVariants as Marked
use Rattle.ground.proofs.Choices.{choices}
use Rattle.parser.proofs.Machine.{scan_end, scan_more, run_turn, run_end, run_halt}

-- ---- what each class of byte does to a tag's scan

pub step_halt : (b : ℕ) → b ≡ gt → element_step Outside b ≡ halt
step_halt b e = rw e

pub step_quote : (b : ℕ) → IsQuote b → element_step Outside b ≡ go (quote_of b)
step_quote b q = ⊎_elim (λ e. rw e) (λ e. rw e) q

pub step_plain : (b : ℕ) → (b ≡ gt → ⊥) → (IsQuote b → ⊥) → element_step Outside b ≡ go Outside
step_plain b p q = simp (ne_eqb b gt p, ne_eqb b quot (λ e. q (inl e)), ne_eqb b apos (λ e. q (inr e)))

pub step_close : (q b : ℕ) → IsQuote q → b ≡ q → element_step (quote_of q) b ≡ go Outside
step_close q b h e = rw e (⊎_elim (λ e. rw e) (λ e. rw e) h)

pub step_within : (q b : ℕ) → IsQuote q → (b ≡ q → ⊥) → element_step (quote_of q) b ≡ go (quote_of q)
step_within q b h n =
    ⊎_elim (λ e. rw e (simp (ne_eqb b quot (rw e at n)))) (λ e. rw e (simp (ne_eqb b apos (rw e at n)))) h

-- ---- the loops of `element_end`: the state is Outside in the outer one and quote_of b in the inner one

module _ (s : List ℕ) (r : Scan ElementState) (i : ℕ) where
  module _ (v : r ≡ scan_at element_step Outside s i) where
    pub turn_plain : i < length s → (get_or s i 0 ≡ gt → ⊥) → (IsQuote (get_or s i 0) → ⊥) → r ≡ scan_at element_step Outside s (i + 1)
    turn_plain h p q = run_turn element_step r Outside s i v Outside h (sym (step_plain (get_or s i 0) p q))

    pub turn_quote : i < length s → IsQuote (get_or s i 0) → r ≡ scan_at element_step (quote_of (get_or s i 0)) s (i + 1)
    turn_quote h q = run_turn element_step r Outside s i v (quote_of (get_or s i 0)) h (sym (step_quote (get_or s i 0) q))

    pub end_outside : length s ≤ i → Open Outside ≡ element_answer r
    end_outside h = run_end element_answer element_step r Outside s i (Open Outside) v h refl

    pub end_found : i < length s → get_or s i 0 ≡ gt → At i ≡ element_answer r
    end_found h e = run_halt element_answer element_step r Outside s i (At i) v h (sym (step_halt (get_or s i 0) e)) refl

  module _ (b : ℕ) (v : r ≡ scan_at element_step (quote_of b) s i) where
    pub turn_close : i < length s → IsQuote b → get_or s i 0 ≡ b → r ≡ scan_at element_step Outside s (i + 1)
    turn_close h q e = run_turn element_step r (quote_of b) s i v Outside h (sym (step_close b (get_or s i 0) q e))

    pub turn_within : i < length s → IsQuote b → (get_or s i 0 ≡ b → ⊥) → r ≡ scan_at element_step (quote_of b) s (i + 1)
    turn_within h q n = run_turn element_step r (quote_of b) s i v (quote_of b) h (sym (step_within b (get_or s i 0) q n))

    pub end_within : (t : ElementState) → length s ≤ i → t ≡ quote_of b → Open t ≡ element_answer r
    end_within t h e = run_end element_answer element_step r (quote_of b) s i (Open t) v h (ap Open e)

pub ruleset tag_turns = (rules, turn_plain, turn_quote, turn_close, turn_within, end_outside, end_found, end_within)

-- ---- the loops that look for the first byte of a kind

module _ (test : ℕ → Bool) (s : List ℕ) (r : Scan (Unit {0})) (i : ℕ) (v : r ≡ scan_at (first_step test) tt s i) where
  pub first_turn : i < length s → false ≡ test (get_or s i 0) → r ≡ scan_at (first_step test) tt s (i + 1)
  first_turn h e = run_turn (first_step test) r tt s i v tt h (rw (← e))

  pub first_here : i < length s → true ≡ test (get_or s i 0) → First.At i ≡ first_answer r
  first_here h e = run_halt first_answer (first_step test) r tt s i (First.At i) v h (rw (← e)) refl

  pub first_done : length s ≤ i → First.End ≡ first_answer r
  first_done h = run_end first_answer (first_step test) r tt s i First.End v h refl

-- a place at or past the end
pub first_past : (test : ℕ → Bool) (s : List ℕ) (from : ℕ) → length s ≤ from → First.End ≡ first_found test s (from + 1)
first_past test s from h = first_done test s _ (from + 1) refl (omega arith)

pub ruleset first_turns = (choices, first_turn, first_here, first_done, first_past)

-- ---- the loop that looks for two hyphens

module _ (s : List ℕ) (r : Scan Bool) (before : Bool) (i : ℕ) (v : r ≡ scan_at pair_step before s i) where
  pub pair_none : length s ≤ i → First.End ≡ pair_answer r
  pair_none h = run_end pair_answer pair_step r before s i First.End v h refl

  module _ (h : i < length s) where
    pub pair_plain : (get_or s i 0 ≡ hyphen → ⊥) → r ≡ scan_at pair_step false s (i + 1)
    pair_plain n = run_turn pair_step r before s i v false h (rw (ne_eqb _ _ n))

    module _ (e : get_or s i 0 ≡ hyphen) where
      pub pair_one : before ≡ false → r ≡ scan_at pair_step true s (i + 1)
      pair_one f = run_turn pair_step r before s i v true h (rw (e, f))

      pub pair_two : before ≡ true → First.At i ≡ pair_answer r
      pair_two f = run_halt pair_answer pair_step r before s i (First.At i) v h (rw (e, f)) refl

pub ruleset pair_turns = (rules, pair_none, pair_plain, pair_one, pair_two)

-- ---- the opener of a piece that ends in marks

module _ (mark need : ℕ) (s : List ℕ) where
  abbrev From : ℕ → ℕ → Scan Marks
  From n i = scan_at (marks_step mark need) (passing n) s i

  pass_one : (n i : ℕ) → 0 < n → i < length s → From n i ≡ From (n - 1) (i + 1)
  pass_one n i h l = scan_more (marks_step mark need) (passing n) s i (passing (n - 1)) l (rw (ne_eqb n 0 (λ e. omega arith)))

  -- k bytes of it
  pass : (k n i : ℕ) → k ≤ n → i + k ≤ length s → From n i ≡ From (n - k) (i + k)
  pass zero n i h l = ap₂ From (omega arith) (omega arith)
  pass (suc k) n i h l =
      pass_one n i (omega arith) (omega arith) ∙ pass k (n - 1) (i + 1) (omega arith) (omega arith) ∙ ap₂ From (omega arith) (omega arith)

  module _ (n i : ℕ) where
    -- a piece that starts at the end or past it
    pub opener_none : length s ≤ i → Marked.Open (passing n) ≡ marks_found n mark need s i
    opener_none h = sym (ap marks_answer (scan_end (marks_step mark need) (passing n) s i h))

    -- one that ends within its opener
    pub opener_part : i < length s → length s - i < n → Marked.Open (passing (n - (length s - i))) ≡ marks_found n mark need s i
    opener_part h l =
        sym (ap marks_answer (pass (length s - i) n i (omega arith) (omega arith)
        ∙ scan_end (marks_step mark need) (passing (n - (length s - i))) s (i + (length s - i)) (omega arith)))

    -- one that has bytes after it
    pub opener_past : (r : Found) → i < length s → n ≤ length s - i
        → r ≡ marks_answer (scan_at (marks_step mark need) (seeing 0) s (i + n)) → r ≡ marks_found n mark need s i
    opener_past r h l e = e ∙ sym (ap marks_answer (pass n n i (omega arith) (omega arith) ∙ ap (λ (k : ℕ). From k (i + n)) (omega arith)))

pub ruleset opener_turns = (rules, opener_none, opener_part, opener_past)
