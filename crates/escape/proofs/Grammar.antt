-- The definition of a reference is the grammar: what the grammar names is read so, and nothing else is. Assumes nothing.
use Prim.Native.Nat.{ℕ, zero, suc, ◌+◌, ◌*◌, ◌≤◌, ◌<◌}
use mathlib.Core.Path.{◌≡◌, refl, sym, ap, ◌∙◌, subst}
use mathlib.Core.Bool.{Bool, true, false}
use mathlib.Core.Logic.{◌⊎◌, inl, inr}
use mathlib.Core.List.{List, [], ◌∷◌, ◌++◌, append_assoc, append-nil}
use native.Mathlib.Omega.{arith}
use native.Mathlib.Nat.{zero-add, zero-mul}
use native.Mathlib.Decide.{dec_lt}
use lib.ListN.{length, drop, replicate}
use lib.Dec.{eqb}
use borrow.Author.Tests.{eqb-true}
use Rattle.ground.specs.Choose.{pick}
use Rattle.ground.specs.Bytes.{quot, amp, apos, lt, gt}
use Rattle.ground.specs.Equal.{begins, same}
use Rattle.ground.proofs.Choices.{by_false, pick_le, pick_nle, pick_same, must_fail, pick_cases}
use Rattle.ground.proofs.Equal.{begins_is, same_is}
use Rattle.escape.specs.declared.reference.Reference.{Reference}
use Rattle.escape.specs.Reference.{lt_name, gt_name, amp_name, apos_name, quot_name, hash, lower_x, digit, char_of, number_from, number_of, reference_of}
use Rattle.escape.specs.Words.{Number, Names}
use Rattle.escape.specs.Words.Number.{one, more}
use Rattle.escape.specs.Words.Names.{less, greater, ampersand, apostrophe, quote, decimal, hexadecimal}

-- ---- numbers

module _ (base : ℕ) where
  digit_next : (v d : ℕ) (bs : List ℕ) → digit d < base → number_from base v (d ∷ bs) ≡ number_from base (v * base + digit d) bs
  unfolding number_from
  digit_next v d bs h = sym (pick_nle _ _ _ _ _ h refl)

  digit_stops : (v d : ℕ) (bs : List ℕ) → base ≤ digit d → number_from base v (d ∷ bs) ≡ Reference.NotOfForm
  unfolding number_from
  digit_stops v d bs h = sym (pick_le _ _ _ _ _ h refl)

  first_digit : (d : ℕ) → 0 * base + digit d ≡ digit d
  first_digit d = ap (λ (k : ℕ). k + digit d) (zero-mul base) ∙ zero-add (digit d)

  -- digits in front of others
  digits_before : {ds : List ℕ} {v : ℕ} → Number base ds v → (bs : List ℕ) → number_from base 0 (ds ++ bs) ≡ number_from base v bs
  digits_before (one d h) bs = digit_next 0 d bs h ∙ ap (λ (k : ℕ). number_from base k bs) (first_digit d)
  digits_before (more {ds = ds} {v = v} d n h) bs = ap (number_from base 0) (append_assoc ds (d ∷ []) bs) ∙ digits_before n (d ∷ bs) ∙ digit_next v d bs h

  number_end : (v : ℕ) → number_from base v [] ≡ char_of v
  unfolding number_from
  number_end v = refl

  -- the first digit
  abbrev Starts : List ℕ → Type 0
  Starts ds = (d : ℕ) × ((rest : List ℕ) × (ds ≡ d ∷ rest) × (digit d < base))

  number_starts : {ds : List ℕ} {v : ℕ} → Number base ds v → Starts ds
  number_starts (one d h) = (d, ([], refl, h))
  number_starts (more {ds = ds} d n h) = let s = number_starts n in (s.0, (s.1.0 ++ (d ∷ []), ap (λ (l : List ℕ). l ++ (d ∷ [])) s.1.1, s.1.2))

  some_digits : (d : ℕ) (ds : List ℕ) → number_of base (d ∷ ds) ≡ number_from base 0 (d ∷ ds)
  unfolding number_of
  some_digits d ds = refl

  pub number_read : {ds : List ℕ} {v : ℕ} → Number base ds v → number_of base ds ≡ char_of v
  number_read {ds} {v} n =
      let s = number_starts n in
      ap (number_of base) s.1.1
      ∙ some_digits s.0 s.1.0
      ∙ ap (number_from base 0) (sym s.1.1 ∙ sym (append-nil ds))
      ∙ digits_before n []
      ∙ number_end v

  -- any bytes are a number, or not of the form
  abbrev Read : List ℕ → Reference → Type 0
  Read bs r = (r ≡ Reference.NotOfForm) ⊎ ((v : ℕ) × Number base bs v)

  digits_read : (ds bs : List ℕ) (v : ℕ) → Number base ds v → Read (ds ++ bs) (number_from base v bs)
  digits_read ds [] v n = inr (v, subst (λ (l : List ℕ). Number base l v) (sym (append-nil ds)) n)
  digits_read ds (b ∷ bs) v n =
      elim (dec_lt (digit b) base) [
        | yes h ↦
            subst (λ (r : Reference). Read (ds ++ (b ∷ bs)) r) (sym (digit_next v b bs h))
            (subst (λ (l : List ℕ). Read l (number_from base (v * base + digit b) bs)) (append_assoc ds (b ∷ []) bs) (digits_read (ds ++ (b ∷ [])) bs (v * base + digit b) (more b n h)))
        | no h ↦ inl (digit_stops v b bs (omega arith))
      ]

  number_none : number_of base [] ≡ Reference.NotOfForm
  unfolding number_of
  number_none = refl

  pub number_reads : (bs : List ℕ) → Read bs (number_of base bs)
  number_reads [] = inl number_none
  number_reads (b ∷ bs) =
      elim (dec_lt (digit b) base) [
        | yes h ↦
            subst (λ (r : Reference). Read (b ∷ bs) r)
            (sym (some_digits b bs ∙ digit_next 0 b bs h ∙ ap (λ (k : ℕ). number_from base k bs) (first_digit b)))
            (digits_read (b ∷ []) bs (digit b) (one b h))
        | no h ↦ inl (some_digits b bs ∙ digit_stops 0 b bs (omega arith))
      ]

  -- ---- leading zeros

  -- `0` in front changes nothing
  zero_digit_lem : digit 0x30 ≡ 0
  unfolding digit
  zero_digit_lem = refl

  zero_first : 0 < base → (bs : List ℕ) → number_from base 0 (0x30 ∷ bs) ≡ number_from base 0 bs
  zero_first h bs = digit_next 0 0x30 bs (omega (arith, zero_digit_lem)) ∙ ap (λ (k : ℕ). number_from base k bs) (first_digit 0x30 ∙ zero_digit_lem)

  zeros_first : 0 < base → (n : ℕ) (bs : List ℕ) → number_from base 0 (replicate n 0x30 ++ bs) ≡ number_from base 0 bs
  zeros_first h zero bs = refl
  zeros_first h (suc n) bs = zero_first h (replicate n 0x30 ++ bs) ∙ zeros_first h n bs

  pub zeros : 0 < base → (n d : ℕ) (ds : List ℕ) → number_of base (replicate n 0x30 ++ (d ∷ ds)) ≡ number_of base (d ∷ ds)
  zeros h zero d ds = refl
  zeros h (suc n) d ds =
      some_digits 0x30 (replicate n 0x30 ++ (d ∷ ds)) ∙ zeros_first h (suc n) (d ∷ ds) ∙ sym (some_digits d ds)

-- ---- references

-- what begins with `#` is none of the names
not_name : (ds ks : List ℕ) (k : ℕ) → eqb hash k ≡ false → same (hash ∷ ds) (k ∷ ks) ≡ false
unfolding same begins
not_name ds ks k e = rw e (pick_same (eqb (suc (length ds)) (suc (length ks))) false)

numbered : (ds : List ℕ) → reference_of (hash ∷ ds) ≡ pick (begins (hash ∷ ds) (hash ∷ lower_x ∷ [])) (number_of 16 (drop 1 ds)) (pick (begins (hash ∷ ds) (hash ∷ [])) (number_of 10 ds) Reference.NotOfForm)
unfolding reference_of
numbered ds =
    sym (by_false _ _ _ _ (not_name ds _ _ refl)
    (by_false _ _ _ _ (not_name ds _ _ refl)
    (by_false _ _ _ _ (not_name ds _ _ refl) (by_false _ _ _ _ (not_name ds _ _ refl) (by_false _ _ _ _ (not_name ds _ _ refl) refl)))))

pub hexadecimals : (ds : List ℕ) → reference_of (hash ∷ lower_x ∷ ds) ≡ number_of 16 ds
unfolding begins
hexadecimals ds = numbered (lower_x ∷ ds)

-- no digit is an `x`
x_digit : digit lower_x ≡ 16
unfolding digit
x_digit = refl

begins_x : (d : ℕ) (ds : List ℕ) → begins (hash ∷ d ∷ ds) (hash ∷ lower_x ∷ []) ≡ pick (eqb d lower_x) true false
unfolding begins
begins_x d ds = refl

begins_hash : (ds : List ℕ) → begins (hash ∷ ds) (hash ∷ []) ≡ true
unfolding begins
begins_hash ds = refl

decimals : (d : ℕ) (ds : List ℕ) → (d ≡ lower_x → ⊥) → reference_of (hash ∷ d ∷ ds) ≡ number_of 10 (d ∷ ds)
decimals d ds n =
    let e : begins (hash ∷ d ∷ ds) (hash ∷ lower_x ∷ []) ≡ false = begins_x d ds ∙ ap (λ (t : Bool). pick t true false) (must_fail (eqb d lower_x) (λ f. n (eqb-true d lower_x f))) in
    numbered (d ∷ ds) ∙ sym (by_false _ _ _ _ e refl) ∙ ap (λ (t : Bool). pick t (number_of 10 (d ∷ ds)) Reference.NotOfForm) (begins_hash (d ∷ ds))

-- leading zeros of a decimal number
pub zeros_decimal : (n d : ℕ) (ds : List ℕ) → (d ≡ lower_x → ⊥) → reference_of (hash ∷ (replicate n 0x30 ++ (d ∷ ds))) ≡ reference_of (hash ∷ d ∷ ds)
zeros_decimal zero d ds x = refl
zeros_decimal (suc n) d ds x = decimals 0x30 (replicate n 0x30 ++ (d ∷ ds)) (λ e. omega arith) ∙ zeros 10 (omega arith) (suc n) d ds ∙ sym (decimals d ds x)

-- what the grammar names is read so
pub names_read : {c : List ℕ} {v : ℕ} → Names c v → reference_of c ≡ char_of v
unfolding reference_of same begins char_of
names_read less = refl
names_read greater = refl
names_read ampersand = refl
names_read apostrophe = refl
names_read quote = refl
names_read (decimal {ds = ds} {v = v} n) =
    let s = number_starts 10 n in
    ap (λ (l : List ℕ). reference_of (hash ∷ l)) s.1.1
    ∙ decimals s.0 s.1.0 (λ e. let f : digit s.0 ≡ 16 = ap digit e ∙ x_digit in omega (arith, s.1.2))
    ∙ ap (number_of 10) (sym s.1.1)
    ∙ number_read 10 n
names_read (hexadecimal {ds = ds} n) = hexadecimals ds ∙ number_read 16 n

-- and nothing else is: any content is one that the grammar names, or not of the form
abbrev pub Named : List ℕ → Type 0
Named c = (reference_of c ≡ Reference.NotOfForm) ⊎ ((v : ℕ) × Names c v)

module _ (c : List ℕ) where
  abbrev Told : Reference → Type 0
  Told r = (r ≡ Reference.NotOfForm) ⊎ ((v : ℕ) × Names c v)

  known : (name : List ℕ) (v : ℕ) (r : Reference) → Names name v → same c name ≡ true → Told r
  known name v r n e = inr (v, subst (λ (l : List ℕ). Names l v) (sym ((same_is c name).0 e)) n)

  counted : (base : ℕ) (ds : List ℕ) (name : (v : ℕ) → Number base ds v → Names c v) → Told (number_of base ds)
  counted base ds name = by (number_reads base ds)
    where
      by : (number_of base ds ≡ Reference.NotOfForm) ⊎ ((v : ℕ) × Number base ds v) → Told (number_of base ds)
      by (inl e) = inl e
      by (inr (v, n)) = inr (v, name v n)

  pub reads_named : Named c
  unfolding reference_of
  reads_named =
      pick_cases Told (same c lt_name) _ _ (known lt_name lt _ less)
      (λ _. pick_cases Told (same c gt_name) _ _ (known gt_name gt _ greater)
      (λ _. pick_cases Told (same c amp_name) _ _ (known amp_name amp _ ampersand)
      (λ _. pick_cases Told (same c apos_name) _ _ (known apos_name apos _ apostrophe)
      (λ _. pick_cases Told (same c quot_name) _ _ (known quot_name quot _ quote)
      (λ _. pick_cases Told (begins c (hash ∷ lower_x ∷ [])) _ _
      (λ e. counted 16 (drop 2 c) (λ v n. subst (λ (l : List ℕ). Names l v) (sym ((begins_is c (hash ∷ lower_x ∷ [])).0 e)) (hexadecimal n)))
      (λ _. pick_cases Told (begins c (hash ∷ [])) _ _
      (λ e. counted 10 (drop 1 c) (λ v n. subst (λ (l : List ℕ). Names l v) (sym ((begins_is c (hash ∷ [])).0 e)) (decimal n))) (λ _. inl refl)))))))

names_long : {c : List ℕ} {v : ℕ} → Names c v → 2 ≤ length c
names_long less = omega arith
names_long greater = omega arith
names_long ampersand = omega arith
names_long apostrophe = omega arith
names_long quote = omega arith
names_long (decimal n) = let s = number_starts 10 n in omega (arith, ap length s.1.1)
names_long (hexadecimal n) = omega arith

-- a reference to a character has two bytes or more between `&` and `;`
pub reference_long : (c : List ℕ) (v : ℕ) → reference_of c ≡ Reference.Character v → 2 ≤ length c
reference_long c v e = by (reads_named c)
  where
    by : Named c → 2 ≤ length c
    by (inl f) = let x : Reference.NotOfForm ≡ Reference.Character v = sym f ∙ e in let z : ◌≡◌ {A = ℕ} 0 1 = cc in absurd (omega arith)
    by (inr (w, n)) = names_long n
