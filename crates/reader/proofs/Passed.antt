-- What a call passes over before it cuts off its piece: a byte order mark, and white space. It is well formed. Assumes nothing.
use Prim.Native.Nat.{ℕ, ◌+◌, ◌-◌, ◌≤◌, ◌<◌}
use mathlib.Core.Path.{◌≡◌, refl, sym, ap, ◌∙◌, subst}
use mathlib.Core.List.{List}
use mathlib.Core.Bool.{Bool, true, false}
use mathlib.Core.Logic.{◌⊎◌, inl, inr}
use native.Mathlib.Omega.{arith}
use lib.ListN.{length, get_or, take, drop}
use lib.Seq.{take_at}
use lib.Dec.{eqb}
use borrow.Author.Tests.{eqb-true}
use Rattle.ground.specs.Bytes.{tab, lf, cr, space}
use Rattle.ground.specs.Choose.{pick}
use Rattle.ground.specs.Equal.{begins}
use Rattle.ground.specs.Part.{part}
use Rattle.ground.proofs.Choices.{pick_cases, both, clash, not_false}
use Rattle.ground.proofs.Equal.{begins_is, begins_long}
use Rattle.ground.proofs.Lists.{part_in, part_from, part_end, part_byte}
use Rattle.white.specs.White.{is_white, not_white, until, leading, WhiteWithin}
use Rattle.white.proofs.Runs.{until_byte, until_inside}
use Rattle.utf8.specs.Utf8.{in_ranges, row_len, check_from, Octets}
use Rattle.utf8.proofs.Rfc.{ascii_octets, well_formed}
use Rattle.utf8.proofs.Places.{octets_nothing, octets_parts}
use Rattle.state.specs.declared.config.Config.{Config}
use Rattle.state.specs.declared.run.Phase.{Phase}
use Rattle.state.specs.declared.run.Reader.{Reader}
use Rattle.reader.specs.Sound.{is_in_place}
use Rattle.reader.specs.Step.{skipped, bom, begin}

white_low : (b : ℕ) → is_white b ≡ true → b ≤ 0x7F
white_low b =
    is space (λ e. omega arith) (is tab (λ e. omega arith) (is lf (λ e. omega arith) (is cr (λ e. omega arith) (λ e. clash false e refl))))
  where
    -- the byte k, or some other that passes the rest of the test
    is : (k : ℕ) {t : Bool} → (b ≡ k → b ≤ 0x7F) → (t ≡ true → b ≤ 0x7F) → pick (eqb b k) true t ≡ true → b ≤ 0x7F
    is k {t} f g = pick_cases (λ (x : Bool). x ≡ true → b ≤ 0x7F) (eqb b k) true t (λ e _. f (eqb-true b k e)) (λ _ e. g e)

bom_octets : Octets bom
unfolding check_from row_len in_ranges
bom_octets = (well_formed 0 bom).0 refl

-- where a call may begin to pass over white space: behind a byte order mark, if nothing was read before
abbrev pub skip_from : List ℕ → ℕ → Phase → ℕ
skip_from doc position Phase.Init = begin doc
skip_from doc position Phase.InsideText = position
skip_from doc position Phase.InsideMarkup = position
skip_from doc position Phase.InsideRef = position
skip_from doc position Phase.InsideEmpty = position
skip_from doc position Phase.Done = position

-- which is where the reader stands, but for Init
pub skips_here : (doc : List ℕ) (position : ℕ) (p : Phase) → (p ≡ Phase.Init) ⊎ (skip_from doc position p ≡ position)
skips_here doc position Phase.Init = inl refl
skips_here doc position Phase.InsideText = inr refl
skips_here doc position Phase.InsideMarkup = inr refl
skips_here doc position Phase.InsideRef = inr refl
skips_here doc position Phase.InsideEmpty = inr refl
skips_here doc position Phase.Done = inr refl

-- what a call on r passes over before `from`, behind a byte order mark: white space, and none where it is not asked for
pub record PassesOver (doc : List ℕ) (r : Reader) (from : ℕ) : Type 0 where
  pub after : skip_from doc r.position.0 r.phase ≤ from
  pub asked : skip_from doc r.position.0 r.phase < from → r.settings.trim_text_start ≡ true
  pub white : WhiteWithin doc (skip_from doc r.position.0 r.phase) from

module _ (doc : List ℕ) where
  -- where text begins lies in the document
  pub begin_within : begin doc ≤ length doc
  unfolding begin
  begin_within =
      pick_cases (λ (n : ℕ). n ≤ length doc) (begins doc bom) _ _
      (λ e. begins_long doc bom e)
      (λ _. omega arith)

  module _ (r : Reader) (from : ℕ) (e : skip_from doc r.position.0 r.phase ≡ from) where
    pub passes_nothing : PassesOver doc r from
    passes_nothing = record { after = omega arith; asked = λ h. absurd (omega arith); white = λ k h i. absurd (omega arith) }

    -- "with `trim_text_start`, skip white space"
    pub passes_white : PassesOver doc r (skipped doc r.settings from)
    unfolding skipped
    passes_white =
        pick_cases (PassesOver doc r) r.settings.trim_text_start _ _
        (λ on. record { after = omega arith; asked = λ _. on; white = λ k h i. white_before k (omega arith) i })
        (λ _. passes_nothing)
      where
        white_before : WhiteWithin doc from (from + leading (part doc from (length doc)))
        white_before k h i =
            let n : from + (k - from) ≡ k = omega arith in
            let l : leading (part doc from (length doc)) ≡ until not_white (drop from doc) = ap leading (part_from doc from) in
            not_false (is_white (get_or doc k 0)) (ap (λ (p : ℕ). not_white (get_or doc p 0)) (sym n) ∙ (until_byte not_white doc from (k - from) (omega arith)).1)

  pub skipped_within : (c : Config) (from : ℕ) → from ≤ length doc → skipped doc c from ≤ length doc
  unfolding skipped
  skipped_within c from h =
      pick_cases (λ (to : ℕ). to ≤ length doc) c.trim_text_start _ _
      (λ _. let l : leading (part doc from (length doc)) ≡ until not_white (drop from doc) = ap leading (part_from doc from) in
      omega (arith, until_inside not_white doc from))
      (λ _. h)

  white_octets : (from to : ℕ) → to ≤ length doc → WhiteWithin doc from to → Octets (part doc from to)
  white_octets from to h w =
      ascii_octets (part doc from to)
      (λ k i. let l : k < to - from = omega (arith, part_end doc from to) in
      rw (part_byte doc from to k h l) (white_low (get_or doc (from + k) 0) (w (from + k) (omega arith) (omega arith))))

  pub bom_bytes : begins doc bom ≡ true → part doc 0 3 ≡ bom
  bom_bytes e = part_in doc 0 3 (omega arith) (begins_long doc bom e) ∙ ap (take 3) ((begins_is doc bom).0 e) ∙ take_at bom (drop 3 doc) 3 refl

  begin_octets : Octets (part doc 0 (begin doc))
  unfolding begin
  begin_octets =
      pick_cases (λ (n : ℕ). Octets (part doc 0 n)) (begins doc bom) _ _
      (λ e. subst Octets (sym (bom_bytes e)) bom_octets)
      (λ _. octets_nothing doc 0 (omega arith))

  -- all of it, from where the reader stands
  pub passes_octets : (r : Reader) (from : ℕ) → is_in_place doc r ≡ true → from ≤ length doc → PassesOver doc r from → Octets (part doc r.position.0 from)
  unfolding is_in_place
  passes_octets r from ok h p = by (skips_here doc r.position.0 r.phase)
    where
      -- from a place from which it is white
      whites : {at : ℕ} → skip_from doc r.position.0 r.phase ≡ at → Octets (part doc at from)
      whites {at} e = white_octets at from h (λ k a i. p.white k (omega arith) i)

      by : (r.phase ≡ Phase.Init) ⊎ (skip_from doc r.position.0 r.phase ≡ r.position.0) → Octets (part doc r.position.0 from)
      by (inl e) =
          let z : r.position.0 ≡ 0 = eqb-true _ _ (both _ _ (simp e at ok)).0 in
          let b : skip_from doc r.position.0 r.phase ≡ begin doc = ap (skip_from doc r.position.0) e in
          rw z (octets_parts doc 0 (begin doc) from (omega arith) (omega (arith, p.after)) h begin_octets (whites b))
      by (inr e) = whites e
