-- What a call of a run does to the open names, a law for each kind of answer, with any settings. Assumes nothing.
use Prim.Native.Nat.{ℕ, ◌+◌, ◌≤◌}
use mathlib.Core.Path.{◌≡◌, sym, ap, ◌∙◌}
use mathlib.Core.List.{List, [], ◌∷◌}
use mathlib.Core.Bool.{true, false}
use mathlib.Core.Logic.{◌⊎◌, inl, inr}
use native.Mathlib.Omega.{arith}
use lib.ListN.{length}
use lib.Dec.{eqb}
use borrow.Author.Tests.{eq-eqb, ne_eqb, eqb-true, eqb-false}
use Rattle.ground.specs.Choose.{pick}
use Rattle.state.specs.declared.config.Config.{Config}
use Rattle.state.specs.declared.answer.Kind.{Kind}
use Rattle.state.specs.declared.answer.Answer.{Answer}
use Rattle.state.specs.Limits.{longest}
use Rattle.state.specs.Values.{kind_number, values_of}
use Rattle.state.proofs.Numbers.{no_number, no_kind}
use Rattle.reader.specs.Names.{name_of, bytes}
use Rattle.reader.specs.Step.{step}
use Rattle.reader.proofs.Outside.{Tagged}
use Rattle.demands.specs.Run.{World, said, call, run}
use Rattle.demands.specs.Answers.{is_start, is_end, is_mismatch, is_unmatched}
use Rattle.demands.specs.Open.{opened, newest, left_open}
use Rattle.demands.proofs.Held.{Does, keeping, adding, closing, mismatching, straying, unmatching, held_does, run_held}

module _ (doc : List ℕ) (w : World) where
  abbrev kind : ℕ
  kind = (values_of (said doc w)).kind

  abbrev number : ℕ
  number = (values_of (said doc w)).number

  abbrev after : World
  after = call doc w

  starts : Does doc w → kind ≡ kind_number Kind.Start → number ≡ 0 → opened after ≡ name_of (said doc w) ∷ opened w
  starts (keeping q e) k n = absurd (q.0 k)
  starts (adding l e tag) k n = e
  starts (closing l e same) k n = absurd (omega arith)
  starts (mismatching m e on x y) k n = absurd (omega arith)
  starts (straying l e f on) k n = absurd (omega arith)
  starts (unmatching m e f off) k n = absurd (omega arith)

  tags : Does doc w → kind ≡ kind_number Kind.Start → number ≡ 0 → Tagged doc (step doc w.stack w.reader)
  tags (keeping q e) k n = absurd (q.0 k)
  tags (adding l e tag) k n = tag
  tags (closing l e same) k n = absurd (omega arith)
  tags (mismatching m e on x y) k n = absurd (omega arith)
  tags (straying l e f on) k n = absurd (omega arith)
  tags (unmatching m e f off) k n = absurd (omega arith)

  others : Does doc w → (kind ≡ kind_number Kind.Start → ⊥) → (opened after ≡ opened w) ⊎ (opened w ≡ newest w ∷ opened after)
  others (keeping q e) k = inl e
  others (adding l e tag) k = absurd (k l)
  others (closing l e same) k = inr e
  others (mismatching m e on x y) k = inr e
  others (straying l e f on) k = inl (f ∙ sym e)
  others (unmatching m e f off) k = inl (f ∙ sym e)

  -- what is so of an End: it takes the latest name away, or there is none and unmatched ends are let through
  pub record Closing : Type 0 where
    pub takes : opened w ≡ newest w ∷ opened after
    pub carries : w.reader.settings.check_end_names ≡ true → bytes doc (values_of (said doc w)).content ≡ bytes doc (newest w)

  pub record Straying : Type 0 where
    pub none : opened w ≡ []
    pub leaves : opened after ≡ []
    pub allowed : w.reader.settings.allow_unmatched_ends ≡ true

  ends : Does doc w → kind ≡ kind_number Kind.End → number ≡ 0 → Closing ⊎ Straying
  ends (keeping q e) k n = absurd (q.1 k)
  ends (adding l e tag) k n = absurd (omega arith)
  ends (closing l e same) k n = inl (record { takes = e; carries = same })
  ends (mismatching m e on x y) k n = absurd (omega arith)
  ends (straying l e f on) k n = inr (record { none = e; leaves = f; allowed = on })
  ends (unmatching m e f off) k n = absurd (omega arith)

  pub record Mismatching : Type 0 where
    pub takes : opened w ≡ newest w ∷ opened after
    pub checks : w.reader.settings.check_end_names ≡ true
    pub no_end : is_end (said doc w) ≡ false
    pub expects : (values_of (said doc w)).expected ≡ newest w
    pub differs : bytes doc (values_of (said doc w)).found ≡ bytes doc (newest w) → ⊥

  mismatches : Does doc w → number ≡ 10 → kind ≡ 0 → Mismatching
  mismatches (keeping q e) n k = absurd (q.2.0 n)
  mismatches (adding l e tag) n k = absurd (omega arith)
  mismatches (closing l e same) n k = absurd (omega arith)
  mismatches (mismatching m e on x y) n k =
      record { takes = e; checks = on; no_end = ne_eqb kind (kind_number Kind.End) (λ h. omega arith); expects = x; differs = y }
  mismatches (straying l e f on) n k = absurd (omega arith)
  mismatches (unmatching m e f off) n k = absurd (omega arith)

  unmatched : Does doc w → number ≡ 11 → kind ≡ 0 → (opened w ≡ []) × (w.reader.settings.allow_unmatched_ends ≡ false)
  unmatched (keeping q e) n k = absurd (q.2.1 n)
  unmatched (adding l e tag) n k = absurd (omega arith)
  unmatched (closing l e same) n k = absurd (omega arith)
  unmatched (mismatching m e on x y) n k = absurd (omega arith)
  unmatched (straying l e f on) n k = absurd (omega arith)
  unmatched (unmatching m e f off) n k = (e, off)

  keeps_all_lem : Does doc w → (kind ≡ kind_number Kind.Start → ⊥) → (kind ≡ kind_number Kind.End → ⊥) → (number ≡ 10 → ⊥) → opened after ≡ opened w
  keeps_all_lem (keeping q e) s f m = e
  keeps_all_lem (adding l e tag) s f m = absurd (s l)
  keeps_all_lem (closing l e same) s f m = absurd (f l)
  keeps_all_lem (mismatching n e on x y) s f m = absurd (m n)
  keeps_all_lem (straying l e g on) s f m = absurd (f l)
  keeps_all_lem (unmatching n e g off) s f m = g ∙ sym e

  -- ---- counting

  -- a 1 for each answer of its kind, and for an End with nothing open
  abbrev stray : ℕ
  stray = pick (is_end (said doc w)) (pick (eqb (length (left_open w.answers)) 0) 1 0) 0

  module _ (names : opened w ≡ left_open w.answers) where
    pub tally : Does doc w
        → pick (is_start (said doc w)) 1 0 + stray + length (opened w) ≡ pick (is_end (said doc w)) 1 0 + pick (is_mismatch (said doc w)) 1 0 + length (opened after)
    tally (keeping q e) = rw (ne_eqb kind 1 q.0, ne_eqb kind 2 q.1, ne_eqb number 10 q.2.0, e)
    tally (adding l e tag) =
        let n = no_number (said doc w) (omega arith) in
        rw (eq-eqb kind 1 l, ne_eqb kind 2 (λ x. omega arith), ne_eqb number 10 (λ x. omega arith), e) (omega arith)
    tally (closing l e same) =
        let n = no_number (said doc w) (omega arith) in
        let o : length (left_open w.answers) ≡ 0 → ⊥ = λ z. omega (arith, ap length (sym names ∙ e)) in
        rw (ne_eqb kind 1 (λ x. omega arith), eq-eqb kind 2 l, ne_eqb number 10 (λ x. omega arith), ne_eqb (length (left_open w.answers)) 0 o)
        (omega (arith, ap length e))
    tally (mismatching m e on x y) =
        let k = no_kind (said doc w) (omega arith) in
        rw (ne_eqb kind 1 (λ x. omega arith), ne_eqb kind 2 (λ x. omega arith), eq-eqb number 10 m) (omega (arith, ap length e))
    tally (straying l e f on) =
        let n = no_number (said doc w) (omega arith) in
        let o : length (left_open w.answers) ≡ 0 = ap length (sym names ∙ e) in
        rw (ne_eqb kind 1 (λ x. omega arith), eq-eqb kind 2 l, ne_eqb number 10 (λ x. omega arith), eq-eqb (length (left_open w.answers)) 0 o)
        (omega (arith, ap length e, ap length f))
    tally (unmatching m e f off) =
        let k = no_kind (said doc w) (omega arith) in
        rw (ne_eqb kind 1 (λ x. omega arith), ne_eqb kind 2 (λ x. omega arith), ne_eqb number 10 (λ x. omega arith)) (omega (arith, ap length e, ap length f))

-- ---- the calls of a run

module _ (doc stack : List ℕ) (c : Config) (short : length doc ≤ longest) (n : ℕ) where
  abbrev now : World
  now = run doc stack c n

  abbrev answer : Answer
  answer = said doc now

  pub does : Does doc now
  does = held_does doc c short now (run_held doc c short stack n)

  pub setting : {A : Type 0} (flag : Config → A) (x : A) → flag c ≡ x → flag now.reader.settings ≡ x
  setting flag x e = ap flag (run_held doc c short stack n).settings ∙ e

  pub at_start : is_start answer ≡ true → opened (call doc now) ≡ name_of answer ∷ opened now
  at_start e = let k = eqb-true (values_of answer).kind (kind_number Kind.Start) e in starts doc now does k (no_number answer (omega arith))

  pub tag_at_start : is_start answer ≡ true → Tagged doc (step doc now.stack now.reader)
  tag_at_start e = let k = eqb-true (values_of answer).kind (kind_number Kind.Start) e in tags doc now does k (no_number answer (omega arith))

  pub at_no_start : is_start answer ≡ false → (opened (call doc now) ≡ opened now) ⊎ (opened now ≡ newest now ∷ opened (call doc now))
  at_no_start e = others doc now does (eqb-false (values_of answer).kind (kind_number Kind.Start) e)

  pub at_end : is_end answer ≡ true → Closing doc now ⊎ Straying doc now
  at_end e = let k = eqb-true (values_of answer).kind (kind_number Kind.End) e in ends doc now does k (no_number answer (omega arith))

  pub at_mismatch : is_mismatch answer ≡ true → Mismatching doc now
  at_mismatch e = let m = eqb-true (values_of answer).number 10 e in mismatches doc now does m (no_kind answer (omega arith))

  pub at_unmatched : is_unmatched answer ≡ true → (opened now ≡ []) × (now.reader.settings.allow_unmatched_ends ≡ false)
  at_unmatched e = let m = eqb-true (values_of answer).number 11 e in unmatched doc now does m (no_kind answer (omega arith))

  pub at_others : is_start answer ≡ false → is_end answer ≡ false → is_mismatch answer ≡ false → opened (call doc now) ≡ opened now
  at_others s e m =
      keeps_all_lem doc now does
      (eqb-false (values_of answer).kind (kind_number Kind.Start) s)
      (eqb-false (values_of answer).kind (kind_number Kind.End) e)
      (eqb-false (values_of answer).number 10 m)
