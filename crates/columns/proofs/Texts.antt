-- What the code of the text of a time finds, by the definitions. Assumes nothing.
use Prim.Native.Nat.{ℕ, ◌+◌, ◌-◌, ◌*◌, ◌≤◌, ◌<◌}
use mathlib.Core.Path.{◌≡◌, refl, sym, ap, ◌∙◌}
use mathlib.Core.List.{List, [], ◌∷◌}
use mathlib.Core.Bool.{Bool, true, false, not, ◌&&◌}
use native.Mathlib.Omega.{arith}
use native.Mathlib.Nat.{zero-add}
use lib.ListN.{length, take, drop, length-drop}
use lib.Dec.{eqb}
use borrow.Author.Rules.{rules}
use borrow.Author.Tests.{eq-eqb, ne_eqb, eqb-true, le-leb, lt-leb}
use Rattle.ground.specs.Choose.{pick, all_of}
use Rattle.ground.specs.Part.{part}
use Rattle.ground.proofs.Choices.{both, not_true, not_false}
use Rattle.ground.proofs.Lists.{part_from, part_first}
use Rattle.white.specs.White.{not_white, leading, kept}
use Rattle.white.proofs.Runs.{until_within, kept_within}
use Rattle.columns.specs.declared.text.Text.{Text}
use Rattle.columns.specs.Time.{is_digit, byte, colon, is_clock, hours, minutes, is_time, cleared_end, cleared, read_time}

-- ---- tests joined

-- two of them, and five, chosen one after the other
pub both_pass : (a b : Bool) → (a && b) ≡ pick a b false
both_pass true b = refl
both_pass false b = refl

all_pass : (a b c d e : Bool) → ((((a && b) && c) && d) && e) ≡ all_of (a ∷ b ∷ c ∷ d ∷ e ∷ [])
all_pass false b c d e = refl
all_pass true false c d e = refl
all_pass true true false d e = refl
all_pass true true true false e = refl
all_pass true true true true false = refl
all_pass true true true true true = refl

-- ---- the form of a time

module _ (s : List ℕ) where
  pub clock_not : (length s ≡ 5 → ⊥) → false ≡ is_clock s
  unfolding is_clock
  clock_not n = rw (ne_eqb (length s) 5 n)

  pub clock_is : (a b d e : Bool) → length s ≡ 5 → a ≡ is_digit (byte s 0) → b ≡ is_digit (byte s 1) → d ≡ is_digit (byte s 3) → e ≡ is_digit (byte s 4)
      → ((((a && b) && eqb (byte s 2) colon) && d) && e) ≡ is_clock s
  unfolding is_clock
  clock_is a b d e five f g h k = rw (eq-eqb (length s) 5 five, ← f, ← g, ← h, ← k) (all_pass a b (eqb (byte s 2) colon) d e)

  pub clock_five : is_clock s ≡ true → length s ≡ 5
  unfolding is_clock
  clock_five e = eqb-true (length s) 5 (both (eqb (length s) 5) _ e).0

pub ruleset clocks = (rules, both_pass, clock_not, clock_is)

-- ---- both ends cleared

module _ (s : List ℕ) (from to : ℕ) where
  pub cleared_is : (p : List ℕ) → from ≡ 0 + leading (part s 0 (length s)) → to ≡ from + kept (part s from (length s)) → p ≡ part s from to → p ≡ cleared s
  unfolding cleared
  cleared_is p e f g =
      let n : from ≡ leading s = e ∙ zero-add _ ∙ ap leading (part_from s 0) in
      let l : from ≤ length s = omega (arith, until_within not_white s) in
      let rest : part s from (length s) ≡ drop from s = part_from s from in
      let k : kept (drop from s) ≤ length s - from = omega (arith, kept_within (drop from s) (length (drop from s)), length-drop from s) in
      g
      ∙ ap (part s from) (f ∙ ap (λ (bs : List ℕ). from + kept bs) rest)
      ∙ part_first s from (length s) (kept (drop from s)) l (omega arith) k
      ∙ ap (take (kept (drop from s))) rest
      ∙ ap (λ (i : ℕ). cleared_end (drop i s)) n

pub ruleset clears = (rules, cleared_is)

-- ---- what text tells

module _ (s time : List ℕ) (e : time ≡ cleared s) where
  pub text_empty : length time ≡ 0 → Text.Empty ≡ read_time s
  unfolding read_time
  text_empty z = rw (← e, eq-eqb (length time) 0 z) refl

  module _ (some : length time ≡ 0 → ⊥) where
    -- no time, by its form or by its numbers
    not_a_time : is_time time ≡ false → Text.Other ≡ read_time s
    unfolding read_time
    not_a_time f = rw (← e, ne_eqb (length time) 0 some, f) refl

    pub text_other : (x : Bool) → x ≡ is_clock time → not x ≡ true → Text.Other ≡ read_time s
    unfolding is_time
    text_other x f g = not_a_time (rw (← f, not_true x g) refl)

    module _ (x : Bool) (f : x ≡ is_clock time) (g : not x ≡ false) (h m : ℕ) (eh : h ≡ hours time) (em : m ≡ minutes time) where
      pub text_late : 47 < h → Text.Other ≡ read_time s
      unfolding is_time
      text_late l = not_a_time (rw (← f, not_false x g, ← eh, lt-leb h 47 l) refl)

      pub text_long : h ≤ 47 → 59 < m → Text.Other ≡ read_time s
      unfolding is_time
      text_long k l = not_a_time (rw (← f, not_false x g, ← eh, le-leb h 47 k, ← em, lt-leb m 59 l) refl)

      pub text_time : h ≤ 47 → m ≤ 59 → Text.Time (60 * h + m) ≡ read_time s
      unfolding read_time is_time
      text_time k l = rw (← e, ne_eqb (length time) 0 some, ← f, not_false x g, ← eh, le-leb h 47 k, ← em, le-leb m 59 l) refl

-- the bytes of a time stand in it
pub text_byte : (time : List ℕ) (x : Bool) (i : ℕ) → x ≡ is_clock time → not x ≡ false → i < 5 → i < length time
text_byte time x i f g l = omega (arith, clock_five time (sym f ∙ not_false x g))

pub ruleset texts = (rules, text_empty, text_other, text_late, text_long, text_time, text_byte)
