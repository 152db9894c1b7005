-- The first byte behind `</` that is not the one of the open name: what the test of a byte says, and where the two names are the same. Assumes nothing.
use Prim.Native.Nat.{ℕ, ◌+◌, ◌-◌, ◌≤◌, ◌<◌}
use mathlib.Core.Path.{◌≡◌, refl, sym, ap, ◌∙◌}
use mathlib.Core.Bool.{Bool, true, false, ◌&&◌}
use mathlib.Core.List.{List}
use native.Mathlib.Omega.{arith}
use lib.ListN.{length, get_or}
use lib.Seq.{ext_get_or}
use lib.Dec.{eqb, leb, ltb}
use borrow.Author.Tests.{eq-eqb, eqb-true, eqb-false, lt-ltb, le-ltb, ltb-true, ltb-false, leb-true, leb-false}
use Rattle.ground.specs.Part.{part}
use Rattle.ground.specs.Equal.{same}
use Rattle.ground.proofs.Choices.{pick_cases, clash, must_fail}
use Rattle.ground.proofs.Equal.{same_uneven, same_is as same_lists}
use Rattle.ground.proofs.Lists.{part_length}
use Rattle.state.specs.declared.place.Span.{Span}
use Rattle.plain.specs.declared.known.Known.{Known}
use Rattle.plain.specs.Known.{size_of, same_of}
use Rattle.plain.proofs.Bytes.{part_same}
use Rattle.plain.proofs.First.{First}
use Rattle.plain.proofs.Flags.{and_left, and_right}

-- a byte behind `</`, at k, that is not the one of the open name which stands against it
pub record Differs (doc : List ℕ) (last : Span) (from k : ℕ) : Type 0 where
  pub behind : from + 2 ≤ k
  pub other : last.from + (k - from - 2) < last.to → get_or doc (last.from + (k - from - 2)) 0 ≡ get_or doc k 0 → ⊥

-- ---- the test of a byte

-- what the code's test of a byte says
pub same_true : (doc : List ℕ) (k : Known) (last : Span) → k.from ≤ k.at → same_of doc k last (get_or doc k.at 0) ≡ true
    → Differs doc last k.from k.at → ⊥
unfolding same_of
same_true doc k last h e d =
    let n = size_of k - 2 in
    let far : ltb (size_of k) 2 ≡ false = le-ltb (size_of k) 2 (omega (arith, d.behind)) in
    let q = rw far at e in
    let within = ltb (last.from + n) last.to in
    let alike = eqb (get_or doc (last.from + n) 0) (get_or doc k.at 0) in
    d.other (ltb-true (last.from + n) last.to (and_left within alike q)) (eqb-true (get_or doc (last.from + n) 0) (get_or doc k.at 0) (and_right within alike q))

pub same_false : (doc : List ℕ) (k : Known) (last : Span) → k.from ≤ k.at → same_of doc k last (get_or doc k.at 0) ≡ false
    → Differs doc last k.from k.at
unfolding same_of
same_false doc k last h e =
    pick_cases (λ (x : Bool). x ≡ false → Differs doc last k.from k.at) (ltb (size_of k) 2) _ _ (λ f g. clash true refl g)
    (λ f g. record { behind = omega (arith, ltb-false (size_of k) 2 f); other = λ l m. clash _ (rw (lt-ltb _ _ l, eq-eqb _ _ m)) g }) e

-- ---- the names

module _ (doc : List ℕ) (last : Span) (from i v to : ℕ) (f : First (Differs doc last from) from i v) (h : from + 2 ≤ to) (k : to ≤ i) (w : i ≤ length doc)
    (p : last.from ≤ last.to) (q : last.to ≤ length doc) where
  abbrev open_name : List ℕ
  open_name = part doc last.from last.to

  abbrev name : List ℕ
  name = part doc (from + 2) to

  open_long : length open_name ≡ last.to - last.from
  open_long = part_length doc last.from last.to p q

  name_long : length name ≡ to - (from + 2)
  name_long = part_length doc (from + 2) to h (omega arith)

  module _ (e : to - (from + 2) ≡ last.to - last.from) where
    -- no byte before v differs
    alike : to ≤ v → open_name ≡ name
    alike l =
        ext_get_or 0 open_name name (open_long ∙ sym e ∙ sym name_long)
        (λ n u. byte n (omega (arith, open_long)) (eqb (get_or open_name n 0) (get_or name n 0)) refl)
      where
        byte : (n : ℕ) → n < to - (from + 2) → (x : Bool) → eqb (get_or open_name n 0) (get_or name n 0) ≡ x → get_or open_name n 0 ≡ get_or name n 0
        byte n u true g = eqb-true (get_or open_name n 0) (get_or name n 0) g
        byte n u false g =
            absurd (f.before (from + 2 + n) (omega arith) (omega arith) (record {
              behind = omega arith;
              other = λ l m.
                  eqb-false (get_or open_name n 0) (get_or name n 0) g
                  (part_same doc last.from last.to n (last.from + (from + 2 + n - from - 2)) q (omega arith) (omega arith)
                  ∙ m
                  ∙ sym (part_same doc (from + 2) to n (from + 2 + n) (omega arith) u refl));
            }))

    -- the byte at v does
    unlike : v < to → open_name ≡ name → ⊥
    unlike l g =
        let d = f.here (omega arith) in
        let back = d.behind in
        d.other (omega arith)
        (sym (part_same doc last.from last.to (v - from - 2) (last.from + (v - from - 2)) q (omega arith) refl)
        ∙ ap (λ (bs : List ℕ). get_or bs (v - from - 2) 0) g
        ∙ part_same doc (from + 2) to (v - from - 2) v (omega arith) (omega arith) (omega arith))

  by_tests : (x y : Bool) → eqb (to - (from + 2)) (last.to - last.from) ≡ x → leb to v ≡ y → same open_name name ≡ (x && y)
  by_tests true true e g = (same_lists open_name name).1 (alike (eqb-true (to - (from + 2)) (last.to - last.from) e) (leb-true to v g))
  by_tests true false e g =
      must_fail (same open_name name)
      (λ s. unlike (eqb-true (to - (from + 2)) (last.to - last.from) e) (leb-false to v g) ((same_lists open_name name).0 s))
  by_tests false y e g =
      sym (same_uneven open_name name (λ s. eqb-false (to - (from + 2)) (last.to - last.from) e (sym name_long ∙ sym s ∙ open_long)))

-- the name from + 2 .. to has the bytes of the open name exactly where it is as long and the first difference is not before its end
pub same_is : (doc : List ℕ) (last : Span) (from i v to : ℕ) → First (Differs doc last from) from i v → from + 2 ≤ to → to ≤ i → i ≤ length doc
    → last.from ≤ last.to → last.to ≤ length doc
    → same (part doc last.from last.to) (part doc (from + 2) to) ≡ (eqb (to - (from + 2)) (last.to - last.from) && leb to v)
same_is doc last from i v to f h k w p q =
    by_tests doc last from i v to f h k w p q (eqb (to - (from + 2)) (last.to - last.from)) (leb to v) refl refl
