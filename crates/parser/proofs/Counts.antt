-- What the state of a scan for marks means at a position, and that each byte keeps it so: for any mark but `>`, any number of marks and any opener.
-- Assumes nothing.
use Prim.Native.Nat.{ℕ, zero, suc, ◌+◌, ◌-◌, ◌≤◌, ◌<◌}
use mathlib.Core.Path.{◌≡◌, refl, sym, ap, ap₂, ◌∙◌, subst}
use mathlib.Core.List.{List}
use mathlib.Core.Logic.{◌⊎◌, inl, inr, ⊎_elim}
use native.Mathlib.Omega.{arith}
use native.Mathlib.Decide.{dec_lt}
use lib.ListN.{length, get_or}
use lib.Dec.{eqb, leb, ltb}
use borrow.Author.Tests.{eqb-true, eqb-false, leb-true, leb-false, ltb-true, ltb-false}
use Rattle.ground.proofs.Choices.{pick_cases}
use Rattle.ground.specs.Bytes.{gt}
use Rattle.parser.specs.Machine.{Next, go, halt}
use Rattle.parser.specs.Marks.{marks_step, seeing, passing, MarkedEnd, MarksLeft}
use Rattle.parser.specs.declared.marks.Marks.{Marks}
use Rattle.parser.proofs.Outcome.{Meets}

module _ (mark need opener : ℕ) (s : List ℕ) (from : ℕ) where
  -- where the opener ends
  abbrev start : ℕ
  start = from + opener

  -- the opener passes; then the `seen` bytes just before i are marks, and where fewer are seen than needed there is no further one
  pub record Counts (m : Marks) (i : ℕ) : Type 0 where
    pub after : from ≤ i
    pub reach : (i ≡ from) ⊎ (i ≤ length s)
    pub most : m.seen ≤ need
    pub room : start + m.seen ≤ i + m.left
    pub in_opener : 0 < m.left → i + m.left ≤ start
    pub marks : (j : ℕ) → 0 < j → j ≤ m.seen → get_or s (i - j) 0 ≡ mark
    pub no_more : m.left ≡ 0 → m.seen < need → (i ≡ start + m.seen) ⊎ (get_or s (i - (m.seen + 1)) 0 ≡ mark → ⊥)

  -- after a byte at i that is no mark, none is seen
  none_seen : (i : ℕ) → i < length s → start ≤ i → (get_or s i 0 ≡ mark → ⊥) → Counts (seeing 0) (i + 1)
  none_seen i l h n =
      record {
        after = omega arith;
        reach = inr (omega arith);
        most = omega arith;
        room = omega arith;
        in_opener = λ z. omega arith;
        marks = λ j z l. absurd (omega arith);
        no_more = λ z l. inr (λ e. n (ap (λ (k : ℕ). get_or s k 0) (here i) ∙ e));
      }
    where
      here : (i : ℕ) → i ≡ i + 1 - (0 + 1)
      here i = omega arith

  -- after a mark at i, one more is, or as many as needed
  marks_more : (i n : ℕ) → ((j : ℕ) → 0 < j → j ≤ n → get_or s (i - j) 0 ≡ mark) → get_or s i 0 ≡ mark
      → (j : ℕ) → 0 < j → j ≤ n + 1 → get_or s (i + 1 - j) 0 ≡ mark
  marks_more i n old e zero z l = absurd (omega arith)
  marks_more i n old e (suc zero) z l = ap (λ (k : ℕ). get_or s k 0) (here i) ∙ e
    where
      here : (i : ℕ) → i + 1 - 1 ≡ i
      here i = omega arith
  marks_more i n old e (suc (suc j)) z l = ap (λ (k : ℕ). get_or s k 0) (back i j) ∙ old (suc j) (omega arith) (omega arith)
    where
      back : (i j : ℕ) → i + 1 - suc (suc j) ≡ i - suc j
      back i j = omega arith

  module _ (other : mark ≡ gt → ⊥) where
    module _ (m : Marks) (i : ℕ) (c : Counts m i) (h : i < length s) where
      abbrev Here : Next Marks → Type 0
      Here = Meets (marks_step mark need) s (MarkedEnd mark need (opener + need) s from) Counts i

      -- a byte of the opener
      passes : (m.left ≡ 0 → ⊥) → Here (go (passing (m.left - 1)))
      passes z =
          let o = c.in_opener (omega arith) in (
            λ p. omega (arith, p.after),
            record {
              after = omega (arith, c.after);
              reach = inr (omega arith);
              most = omega (arith, c.most);
              room = omega (arith, c.room);
              in_opener = λ l. omega arith;
              marks = λ j y l. absurd (omega arith);
              no_more = λ e l. inl (omega (arith, c.room));
            },
          )

      module _ (e : m.left ≡ 0) where
        -- a `>` with the marks that it needs, or without
        stops : get_or s i 0 ≡ gt → need ≤ m.seen → Here halt
        stops b l = record { after = omega (arith, c.room); within = h; closes = b; marks = λ j z k. c.marks j z (omega arith) }

        goes : get_or s i 0 ≡ gt → m.seen < need → Here (go (seeing 0))
        goes b l = (
          λ p. ⊎_elim (λ k. omega (arith, p.after)) (λ n. n (p.marks (m.seen + 1) (omega arith) (omega arith))) (c.no_more e l),
          none_seen i h (omega (arith, c.room)) (λ x. other (sym x ∙ b)),
        )

        module _ (d : get_or s i 0 ≡ gt → ⊥) where
          -- a mark: k of them are seen, one more than before or as many as needed
          counts_mark : get_or s i 0 ≡ mark → (k : ℕ) → k ≤ m.seen + 1 → k ≤ need
              → (k < need → (i + 1 ≡ start + k) ⊎ (get_or s (i + 1 - (k + 1)) 0 ≡ mark → ⊥)) → Here (go (seeing k))
          counts_mark b k l u more = (
            λ p. d p.closes,
            record {
              after = omega (arith, c.after);
              reach = inr (omega arith);
              most = u;
              room = omega (arith, c.room);
              in_opener = λ z. absurd (omega arith);
              marks = λ j z h. marks_more i m.seen c.marks b j z (omega arith);
              no_more = λ z h. more h;
            },
          )

          counts_one : get_or s i 0 ≡ mark → m.seen < need → Here (go (seeing (m.seen + 1)))
          counts_one b l =
              counts_mark b (m.seen + 1) (omega arith) (omega arith)
              (λ h. ⊎_elim (λ x. inl (omega arith)) (λ n. inr (λ x. n (ap (λ (k : ℕ). get_or s k 0) (back i m.seen) ∙ x))) (c.no_more e l))
            where
              back : (i n : ℕ) → i - (n + 1) ≡ i + 1 - (n + 1 + 1)
              back i n = omega arith

          enough : get_or s i 0 ≡ mark → need ≤ m.seen → Here (go (seeing m.seen))
          enough b l = counts_mark b m.seen (omega arith) c.most (λ h. absurd (omega arith))

          -- any other byte
          plain : (get_or s i 0 ≡ mark → ⊥) → Here (go (seeing 0))
          plain n = (λ p. d p.closes, none_seen i h (omega (arith, c.room)) n)

      pub counts_meets : Here (marks_step mark need m (get_or s i 0))
      counts_meets =
          pick_cases Here (eqb m.left 0) _ _
          (λ z. let e = eqb-true m.left 0 z in
          pick_cases Here (eqb (get_or s i 0) gt) _ _
          (λ x. let b = eqb-true (get_or s i 0) gt x in
          pick_cases Here (leb need m.seen) _ _ (λ l. stops e b (leb-true _ _ l)) (λ l. goes e b (leb-false _ _ l)))
          (λ x. let d = eqb-false (get_or s i 0) gt x in
          pick_cases Here (eqb (get_or s i 0) mark) _ _
          (λ y. let b = eqb-true (get_or s i 0) mark y in
          pick_cases Here (ltb m.seen need) _ _ (λ l. counts_one e d b (ltb-true _ _ l)) (λ l. enough e d b (ltb-false _ _ l)))
          (λ y. plain e d (eqb-false (get_or s i 0) mark y))))
          (λ z. passes (eqb-false m.left 0 z))

  -- a fresh scan
  pub counts_start : Counts (passing opener) from
  counts_start =
      record {
        after = omega arith;
        reach = inl refl;
        most = omega arith;
        room = omega arith;
        in_opener = λ z. omega arith;
        marks = λ j z l. absurd (omega arith);
        no_more = λ z l. inl (omega arith);
      }

  -- ---- what it means at the end

  abbrev Left : Marks → Type 0
  Left = MarksLeft mark need opener s from

  -- within the opener, or past the end, nothing is seen
  left_none : (m : Marks) → m.left ≡ opener - (length s - from) → m.seen ≡ 0 → length s ≤ start → Left m
  left_none m e z h =
      record {
        left = e;
        most = omega arith;
        room = omega arith;
        marks = λ j y l. absurd (omega arith);
        no_more = λ l. inl (omega arith);
      }

  left_at_end : (m : Marks) → Counts m (length s) → m.left ≡ 0 → Left m
  left_at_end m c z =
      record {
        left = omega (arith, c.room);
        most = c.most;
        room = omega (arith, c.room);
        marks = c.marks;
        no_more = λ l. ⊎_elim (λ e. inl (omega arith)) inr (c.no_more z l);
      }

  pub counts_end : (m : Marks) (e : ℕ) → length s ≤ e → Counts m e → Left m
  counts_end m e h c =
      elim (dec_lt 0 m.left) [
        | yes l ↦ let o = c.in_opener l in
            ⊎_elim (λ x. left_none m (omega (arith, c.room)) (omega (arith, c.room)) (omega arith))
            (λ x. left_none m (omega (arith, c.room, c.after)) (omega (arith, c.room)) (omega arith)) c.reach
        | no l ↦ ⊎_elim (λ x. left_none m (omega (arith, c.room)) (omega (arith, c.room)) (omega (arith, c.room)))
            (λ x. left_at_end m (subst (Counts m) (same x) c) (omega arith)) c.reach
      ]
    where
      same : e ≤ length s → e ≡ length s
      same x = omega arith

  -- ---- the bytes end in one state only

  not_fewer : (m n : Marks) → Left m → Left n → m.seen < n.seen → ⊥
  not_fewer m n x y l =
      ⊎_elim (λ e. omega (arith, y.room)) (λ f. f (y.marks (m.seen + 1) (omega arith) (omega arith))) (x.no_more (omega (arith, y.most)))

  pub left_one : (m n : Marks) → Left m → Left n → m ≡ n
  left_one m n x y =
      ap₂ (λ (l k : ℕ). made l k) (x.left ∙ sym y.left) (elim (dec_lt m.seen n.seen) [
        | yes l ↦ absurd (not_fewer m n x y l)
        | no l ↦ elim (dec_lt n.seen m.seen) [
          | yes k ↦ absurd (not_fewer n m y x k)
          | no k ↦ omega arith
        ]
      ])
    where
      made : ℕ → ℕ → Marks
      made l k = record { left = l; seen = k }
