-- A byte at which the piece does not end keeps what is meant. Assumes nothing.
use Prim.Native.Nat.{ℕ, ◌+◌, ◌-◌, ◌≤◌, ◌<◌}
use mathlib.Core.Path.{◌≡◌, refl, sym, ap, ◌∙◌, subst}
use mathlib.Core.List.{List}
use mathlib.Core.Bool.{Bool, true, false, not, ◌&&◌}
use mathlib.Core.Logic.{◌⊎◌, inl}
use native.Mathlib.Omega.{arith}
use native.Mathlib.Decide.{dec_lt}
use lib.ListN.{length, get_or}
use lib.Dec.{eqb}
use borrow.Author.Tests.{eqb-true, eqb-false}
use Rattle.ground.specs.Bytes.{amp, bang, gt, hyphen, lt, open_bracket, question, slash}
use Rattle.ground.proofs.Choices.{clash, pick_cases, not_false}
use Rattle.parser.specs.Machine.{scan_at}
use Rattle.parser.specs.Element.{element_step, element_answer, element_found, IsQuote}
use Rattle.parser.specs.First.{first_step, first_answer, one_of, text_ends, reference_ends}
use Rattle.parser.specs.Marks.{PiEnd, CommentEnd, CDataEnd}
use Rattle.parser.proofs.Turns.{first_turn}
use Rattle.state.specs.declared.place.Span.{Span}
use Rattle.plain.specs.declared.known.Part.{Part}
use Rattle.plain.specs.declared.known.Known.{Known}
use Rattle.plain.specs.Known.{next_part, goes, opens, next_quote, ends_in, more, size_of}
use Rattle.plain.proofs.Bytes.{byte_same, of_two, of_three}
use Rattle.plain.proofs.Cuts.{text_cut, ref_cut}
use Rattle.plain.proofs.Marked.{comment_goes, cdata_goes, instruction_goes}
use Rattle.plain.proofs.Means.{Right, quoted, Banged, Instructed, Tagged, Means}
use Rattle.plain.proofs.Tags.{tag_first, tag_more}
use Rattle.plain.proofs.Texts.{text_test, reference_test}
use Rattle.plain.proofs.Tracks.{Tracks}

-- ---- the opener, a byte further

right_more : (doc : List ℕ) (p : Part) (from at : ℕ) (right : Bool) → from ≤ at → Right doc p from at right
    → Right doc p from (at + 1) (right && opens p (at - from) (get_or doc at 0))
right_more doc p from at true h v =
    record {
      all = λ e j l m. elim (dec_lt j at) [
        | yes g ↦ v.all refl j l g
        | no g ↦ let z : at ≡ j = omega arith in ap (λ (i : ℕ). opens p (i - from) (get_or doc i 0)) (sym z) ∙ e
      ];
      some = λ e. (at, h, omega arith, e);
    }
right_more doc p from at false h v =
    record {
      all = λ e. clash false e refl;
      some = λ e. let w = v.some refl in (w.0, w.1, omega (arith, w.2), w.3);
    }

module _ (doc : List ℕ) (p : Part) (from : ℕ) where
  abbrev Fits : ℕ → Type 0
  Fits j = opens p (j - from) (get_or doc j 0) ≡ true

  fits_at : (i byte : ℕ) → get_or doc (from + i) 0 ≡ byte → opens p i byte ≡ true → Fits (from + i)
  fits_at i byte e f = let z : from + i - from ≡ i = omega arith in ap (λ (n : ℕ). opens p n (get_or doc (from + i) 0)) z ∙ ap (opens p i) e ∙ f

  fits_first : (byte : ℕ) → get_or doc from 0 ≡ byte → opens p 0 byte ≡ true → Fits from
  fits_first byte e f = let z : from - from ≡ 0 = omega arith in ap (λ (n : ℕ). opens p n (get_or doc from 0)) z ∙ ap (opens p 0) e ∙ f

  -- the bytes of a whole opener so far
  begun : (at : ℕ) (right : Bool) → right ≡ true → ((j : ℕ) → from ≤ j → j < at → Fits j) → Right doc p from at right
  begun at right e f = record { all = λ g. f; some = λ g. clash right e g }

-- ---- what the first bytes tell

module _ (doc : List ℕ) (open_name : Span) (k : Known) (t : Tracks doc open_name k) (l : k.at < length doc) (same : Bool) where
  abbrev b : ℕ
  b = get_or doc k.at 0

  abbrev next : Known
  next = more k b same

  -- ---- a byte of the opener: what was right stays right

  still : (p : Part) → k.part ≡ p → opens p (size_of k) b ≡ true → k.right ≡ true → next.right ≡ true
  unfolding more
  still p e f g = rw (e, f, g)

  -- the scan for the first of some bytes goes on
  scan_goes : (ks : List ℕ) → one_of ks b ≡ false
      → first_answer (scan_at (first_step (one_of ks)) tt doc k.at) ≡ first_answer (scan_at (first_step (one_of ks)) tt doc (k.at + 1))
  scan_goes ks e = ap first_answer (first_turn (one_of ks) doc _ k.at refl l (sym e))

  nothing_next : k.part ≡ Part.Nothing → Means doc k Part.Nothing → Means doc next (next_part Part.Nothing b)
  unfolding more next_quote
  nothing_next e m =
      let z = m.0 in
      let r = still Part.Nothing e refl m.1 in
      let here = byte_same doc k.from k.at z in
      pick_cases (Means doc next) (eqb b lt) _ _
      (λ x. record { size = omega arith; first = here ∙ eqb-true b lt x; right = r; quote = rw (m.2, eqb-true b lt x) })
      (λ x. pick_cases (Means doc next) (eqb b amp) _ _
      (λ y. (
        omega arith,
        ref_cut doc k.from (here ∙ eqb-true b amp y),
        ap (λ (i : ℕ). first_answer (scan_at (first_step (one_of reference_ends)) tt doc (i + 1))) z,
      ))
      (λ y. (
        omega arith,
        text_cut doc k.from b here x y,
        ap (λ (i : ℕ). first_answer (scan_at (first_step (one_of text_ends)) tt doc i)) z ∙ scan_goes text_ends (rw (x, y)),
      )))

  -- ---- text and references

  text_next : Means doc k Part.Text → ends_in k b Part.Text ≡ false → Means doc next Part.Text
  unfolding more
  text_next m f = (omega (arith, m.0), m.1, m.2 ∙ scan_goes text_ends (sym (text_test b) ∙ f))

  reference_next : Means doc k Part.Reference → ends_in k b Part.Reference ≡ false → Means doc next Part.Reference
  unfolding more
  reference_next m f = (omega (arith, m.0), m.1, m.2 ∙ scan_goes reference_ends (sym (reference_test b) ∙ f))

  -- ---- the byte behind `<`

  tag_next : (q : ℕ) → q ≡ k.quote → (q ≡ 0) ⊎ IsQuote q → k.from + 1 ≤ k.at → get_or doc k.from 0 ≡ lt → (eqb b gt && eqb q 0) ≡ false
      → element_found doc k.from ≡ element_answer (scan_at element_step (quoted q) doc k.at) → Tagged doc next
  unfolding more
  tag_next q z w h e f s =
      let g = tag_more doc k.from k.at q l w f s in
      record {
        size = omega arith;
        first = e;
        scan = g.0 ∙ ap (λ (x : ℕ). element_answer (scan_at element_step (quoted (next_quote x b)) doc (k.at + 1))) z;
        quote = subst (λ (x : ℕ). (next_quote x b ≡ 0) ⊎ IsQuote (next_quote x b)) z g.1;
      }

  opened_tag : Means doc k Part.Opened → ends_in k b Part.Opened ≡ false → Tagged doc next
  opened_tag m f =
      tag_next 0 (sym m.quote) (inl refl) (omega (arith, m.size)) m.first (ap (λ (x : Bool). x && eqb 0 0) f)
      (tag_first doc k.from m.first ∙ ap (λ (i : ℕ). element_answer (scan_at element_step (quoted 0) doc i)) (sym m.size))

  second_is : Means doc k Part.Opened → get_or doc (k.from + 1) 0 ≡ b
  second_is m = byte_same doc (k.from + 1) k.at (sym m.size)

  instructed : k.part ≡ Part.Opened → Means doc k Part.Opened → b ≡ question → Instructed doc next
  unfolding more goes
  instructed e m x =
      let s : get_or doc (k.from + 1) 0 ≡ question = second_is m ∙ x in
      record {
        size = omega (arith, m.size);
        first = m.first;
        second = s;
        opener =
            begun doc Part.Instruction k.from (k.at + 1) _ (still Part.Opened e refl m.right)
            (λ j g h. of_two (Fits doc Part.Instruction k.from) k.from j g (omega (arith, m.size))
            (fits_first doc Part.Instruction k.from lt m.first refl) (fits_at doc Part.Instruction k.from 1 question s refl));
        none = λ j h p.
            let z : j ≡ k.from + 1 = omega (arith, m.size, p.after) in
            let y : gt ≡ question = sym p.closes ∙ byte_same doc j (k.from + 1) z ∙ s in
            omega arith;
      }

  opened_next : k.part ≡ Part.Opened → Means doc k Part.Opened → ends_in k b Part.Opened ≡ false → Means doc next (next_part Part.Opened b)
  unfolding more
  opened_next e m f =
      pick_cases (Means doc next) (eqb b bang) _ _
      (λ x. record { size = omega (arith, m.size); first = m.first; second = second_is m ∙ eqb-true b bang x; right = still Part.Opened e refl m.right })
      (λ x. pick_cases (Means doc next) (eqb b question) _ _
      (λ y. instructed e m (eqb-true b question y))
      (λ y. pick_cases (Means doc next) (eqb b slash) _ _
      (λ z. (opened_tag m f, second_is m ∙ eqb-true b slash z))
      (λ z. (
        opened_tag m f,
        λ q. eqb-false b bang x (sym (second_is m) ∙ q),
        λ q. eqb-false b question y (sym (second_is m) ∙ q),
        λ q. eqb-false b slash z (sym (second_is m) ∙ q),
      ))))

  -- ---- the byte behind `<!`

  module _ (e : k.part ≡ Part.Bang) (m : Means doc k Part.Bang) where
    third_is : get_or doc (k.from + 2) 0 ≡ b
    third_is = byte_same doc (k.from + 2) k.at (sym m.size)

    banged : (p : Part) (byte : ℕ) (End : ℕ → Type 0) → b ≡ byte → opens p 0 lt ≡ true → opens p 1 bang ≡ true → opens p 2 byte ≡ true
        → ((j : ℕ) → j < k.from + 3 → End j → ⊥) → Banged doc next p byte End
    unfolding more
    banged p byte End x f g h n =
        record {
          size = omega (arith, m.size);
          first = m.first;
          second = m.second;
          third = third_is ∙ x;
          opener =
              begun doc p k.from (k.at + 1) _ (still Part.Bang e refl m.right)
              (λ j u v. of_three (Fits doc p k.from) k.from j u (omega (arith, m.size))
              (fits_first doc p k.from lt m.first f) (fits_at doc p k.from 1 bang m.second g) (fits_at doc p k.from 2 byte (third_is ∙ x) h));
          none = λ j u q. n j (omega (arith, m.size)) q;
        }

    cdata_late : b ≡ open_bracket → (j : ℕ) → j < k.from + 3 → CDataEnd doc k.from j → ⊥
    cdata_late x j h p =
        let z : j ≡ k.from + 2 = omega (arith, p.after) in
        let y : gt ≡ open_bracket = sym p.closes ∙ byte_same doc j (k.from + 2) z ∙ third_is ∙ x in
        omega arith

    bang_next : ends_in k b Part.Bang ≡ false → Means doc next (next_part Part.Bang b)
    unfolding more goes
    bang_next f =
        pick_cases (Means doc next) (eqb b open_bracket) _ _
        (λ x. banged Part.CData open_bracket (CDataEnd doc k.from) (eqb-true b open_bracket x) refl refl refl (cdata_late (eqb-true b open_bracket x)))
        (λ x. banged Part.Comment hyphen (CommentEnd doc k.from) (eqb-true b hyphen (not_false (eqb b hyphen) (ap (λ (y : Bool). not y && not (eqb b hyphen)) (sym x) ∙ f))) refl refl refl
        (λ j h p. omega (arith, p.after)))

  -- ---- further on

  later : (End : ℕ → Type 0) → ((j : ℕ) → j < k.at → End j → ⊥) → (End k.at → ⊥) → (j : ℕ) → j < k.at + 1 → End j → ⊥
  later End none here j h p =
      elim (dec_lt j k.at) [
        | yes g ↦ none j g p
        | no g ↦ let z : j ≡ k.at = omega arith in here (subst End z p)
      ]

  right_next : (p : Part) → k.part ≡ p → Right doc p k.from k.at k.right → Right doc p k.from (k.at + 1) next.right
  unfolding more
  right_next p e v = subst (λ (q : Part). Right doc p k.from (k.at + 1) (k.right && opens q (size_of k) b)) (sym e) (right_more doc p k.from k.at k.right t.low v)

  banged_next : (p : Part) (byte : ℕ) (End : ℕ → Type 0) → k.part ≡ p → Banged doc k p byte End → (End k.at → ⊥) → Banged doc next p byte End
  unfolding more
  banged_next p byte End e m n =
      record {
        size = omega (arith, m.size);
        first = m.first;
        second = m.second;
        third = m.third;
        opener = right_next p e m.opener;
        none = later End m.none n;
      }

  instruction_next : k.part ≡ Part.Instruction → Means doc k Part.Instruction → ends_in k b Part.Instruction ≡ false → Means doc next Part.Instruction
  unfolding more
  instruction_next e m f =
      record {
        size = omega (arith, m.size);
        first = m.first;
        second = m.second;
        opener = right_next Part.Instruction e m.opener;
        none = later (PiEnd doc k.from) m.none (instruction_goes doc open_name k t l m f);
      }

  tagged_next : Tagged doc k → (eqb b gt && eqb k.quote 0) ≡ false → Tagged doc next
  tagged_next m f = tag_next k.quote refl m.quote (omega (arith, m.size)) m.first f m.scan

  -- ---- all of them

  pub means_next : (p : Part) → k.part ≡ p → Means doc k p → ends_in k b p ≡ false → Means doc next (next_part p b)
  unfolding more
  means_next Part.Nothing e m f = nothing_next e m
  means_next Part.Text e m f = text_next m f
  means_next Part.Reference e m f = reference_next m f
  means_next Part.Opened e m f = opened_next e m f
  means_next Part.Bang e m f = bang_next e m f
  means_next Part.Comment e m f = banged_next Part.Comment hyphen (CommentEnd doc k.from) e m (comment_goes doc open_name k t l m f)
  means_next Part.CData e m f = banged_next Part.CData open_bracket (CDataEnd doc k.from) e m (cdata_goes doc open_name k t l m f)
  means_next Part.Instruction e m f = instruction_next e m f
  means_next Part.Closing e m f = (tagged_next m.0 f, m.1)
  means_next Part.Opening e m f = (tagged_next m.0 f, m.1, m.2, m.3)
