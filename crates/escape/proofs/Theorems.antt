-- What a reader of document 02 expects of references. Assumes nothing.
use Prim.Native.Nat.{ℕ, ◌+◌, ◌-◌, ◌≤◌, ◌<◌}
use mathlib.Core.Path.{◌≡◌, refl, sym, ap, ◌∙◌, subst}
use mathlib.Core.Bool.{true}
use mathlib.Core.Logic.{◌⊎◌, inl, inr, ◌↔◌}
use mathlib.Core.List.{List, [], ◌∷◌, ◌++◌, append_assoc, append-nil}
use native.Mathlib.Omega.{arith}
use native.Mathlib.Nat.{zero-add}
use native.Mathlib.Decide.{dec_lt}
use lib.ListN.{length, get_or, take, drop, replicate, length-append, take-append-drop, get_or-append}
use lib.Seq.{length-take-le, take_at, drop_at, get_or-append-add, drop-append-le, take-append-le, get_or-drop, get_or-take, get_or-append_seam, append_snoc}
use Rattle.ground.specs.Bytes.{amp, semicolon}
use Rattle.utf8.specs.Utf8.{char_len, Char, Octets}
use Rattle.utf8.specs.Utf8.Octets.{none, char}
use Rattle.utf8.proofs.Chars.{char_before}
use Rattle.utf8.proofs.Places.{char_high, octets_join}
use Rattle.escape.specs.declared.answer.Fault.{Fault}
use Rattle.escape.specs.declared.answer.Refusal.{Refusal}
use Rattle.escape.specs.declared.answer.Written.{Written}
use Rattle.escape.specs.declared.reference.Reference.{Reference}
use Rattle.escape.specs.Scalar.{is_char, is_scalar, octets}
use Rattle.escape.specs.Reference.{hash, lower_x, char_of, reference_of}
use Rattle.escape.specs.Text.{Text, not_written, behind, text_from, one_text, whole_text, written_of, over, left_of, Put}
use Rattle.escape.specs.Words.{value_of, Names, Without, Replaced, Fails, FirstRefusal, Wrote}
use Rattle.escape.specs.Words.Replaced.{nothing, plain, reference}
use Rattle.escape.specs.Words.Fails.{unclosed, formless, valueless, character, byte, end}
use Rattle.escape.proofs.Encodes.{width_some}
use Rattle.escape.proofs.Numbers.{char_scalar, reference_proper}
use Rattle.escape.proofs.Over.{over_length}
use Rattle.escape.proofs.Steps.{text_end_lem, fitting_in, whole_not}
use Rattle.escape.proofs.Bits.{bytes_value, bytes_char, value_bytes}
use Rattle.escape.proofs.Grammar.{zeros, zeros_decimal, hexadecimals, names_read, Named, reads_named, reference_long}
use Rattle.escape.proofs.Replacing.{word_alone, fails_refused, replaced_before, Seen, seen}

-- ---- the UTF-8 writer

-- The bytes of a scalar value are one well-formed character, and reading them back, whatever comes after them, gives one character of that length.
pub what_is_written_is_one_character : (v : ℕ) → is_scalar v ≡ true → Char (octets v)
what_is_written_is_one_character = bytes_char

pub reading_it_back_gives_its_length : (v : ℕ) → is_scalar v ≡ true → (more : List ℕ) → char_len (octets v ++ more) ≡ length (octets v)
reading_it_back_gives_its_length v h more = char_before (octets v) more (bytes_char v h)

-- It has one byte to four.
pub a_character_has_one_byte_to_four : (v : ℕ) → (1 ≤ length (octets v)) × (length (octets v) ≤ 4)
a_character_has_one_byte_to_four = width_some

-- Value and bytes determine each other.
pub the_bytes_have_the_value : (v : ℕ) → is_scalar v ≡ true → value_of (octets v) ≡ v
the_bytes_have_the_value = bytes_value

pub the_value_has_the_bytes : (c : List ℕ) → Char c → (is_scalar (value_of c) ≡ true) × (octets (value_of c) ≡ c)
the_value_has_the_bytes = value_bytes

-- ---- one reference

-- What the grammar names is the character of that number, where production 2 has it,
pub what_the_grammar_names_is_read : (c : List ℕ) (v : ℕ) → Names c v → reference_of c ≡ char_of v
what_the_grammar_names_is_read c v = names_read

-- and what it does not name is not of the form.
pub nothing_else_is_read : (c : List ℕ) → ((v : ℕ) → Names c v → ⊥) → reference_of c ≡ Reference.NotOfForm
nothing_else_is_read c f = by (reads_named c)
  where
    by : Named c → reference_of c ≡ Reference.NotOfForm
    by (inl e) = e
    by (inr (v, n)) = absurd (f v n)

-- A character that is named is one of XML's, so its number is a scalar value.
pub what_is_named_is_a_character : (c : List ℕ) (v : ℕ) → reference_of c ≡ Reference.Character v → (is_char v ≡ true) × (is_scalar v ≡ true)
what_is_named_is_a_character c v e = let f = reference_proper c v e in (f, char_scalar v f)

-- Any number of leading zeros changes nothing. (In front of an `x` they would: `#0x41` is not `#x41`.)
pub leading_zeros_change_nothing : (n d : ℕ) (ds : List ℕ) → (d ≡ lower_x → ⊥) → reference_of (hash ∷ (replicate n 0x30 ++ (d ∷ ds))) ≡ reference_of (hash ∷ d ∷ ds)
leading_zeros_change_nothing = zeros_decimal

pub leading_zeros_in_hexadecimal_change_nothing : (n d : ℕ) (ds : List ℕ) → reference_of (hash ∷ lower_x ∷ (replicate n 0x30 ++ (d ∷ ds))) ≡ reference_of (hash ∷ lower_x ∷ d ∷ ds)
leading_zeros_in_hexadecimal_change_nothing n d ds = hexadecimals (replicate n 0x30 ++ (d ∷ ds)) ∙ zeros 16 (omega arith) n d ds ∙ sym (hexadecimals (d ∷ ds))

-- ---- a whole text

-- of a text that is refused
abbrev fault_in : Text → Fault
fault_in (Text.Whole bs) = Fault.NoRoom
fault_in (Text.Refused x) = x.fault

abbrev place_in : Text → ℕ
place_in (Text.Whole bs) = 0
place_in (Text.Refused x) = x.place

module _ (content : List ℕ) (size at : ℕ) where
  -- What is written is the text with every reference replaced by its character and nothing else, where it fits; and all such texts are written.
  pub what_is_written : (out : List ℕ) → (whole_text content size at ≡ Text.Whole out) ↔ (Replaced content out × (at + length out ≤ size))
  what_is_written out = (λ e. by (whole_text content size at) e (seen size at 0 content), λ w. back w.0 w.1)
    where
      by : (t : Text) → t ≡ Text.Whole out → Seen size at 0 content t → Replaced content out × (at + length out ≤ size)
      by t e (Seen.whole o r h) = let same : o ≡ out = cc in (subst (Replaced content) same r, omega (arith, ap length same))
      by t e (Seen.refused fault place f) = whole_not fault place out e

      back : Replaced content out → at + length out ≤ size → whole_text content size at ≡ Text.Whole out
      back r h =
          ap (text_from size 0 at 0) (sym (append-nil content))
          ∙ replaced_before size r [] at 0 (λ k l. omega arith)
          ∙ ap (behind out) (text_end_lem size (at + length out) (0 + length content) ∙ fitting_in size (at + length out) [] (0 + length content) (omega arith))
          ∙ ap Text.Whole (append-nil out)

  -- A refusal is the first from the left, and the first from the left is refused.
  pub what_is_refused : (fault : Fault) (place : ℕ) → (whole_text content size at ≡ not_written fault place) ↔ FirstRefusal content size at fault place
  what_is_refused fault place = (λ e. by (whole_text content size at) e (seen size at 0 content), back)
    where
      by : (t : Text) → t ≡ not_written fault place → Seen size at 0 content t → FirstRefusal content size at fault place
      by t e (Seen.whole o r h) = whole_not fault place o (sym e)
      by t e (Seen.refused fault' place' f) =
          let same : fault' ≡ fault = ap fault_in e in
          let there : place' ≡ place = ap place_in e in
          record {
            before = f.before;
            rest = f.rest;
            out = f.out;
            cut = f.cut;
            here = sym there ∙ f.here ∙ zero-add (length f.before);
            replaced = f.replaced;
            placed = f.placed;
            fails = subst (λ (x : Fault). Fails size (at + length f.out) x f.rest) same f.fails;
          }

      back : FirstRefusal content size at fault place → whole_text content size at ≡ not_written fault place
      back f =
          ap (text_from size 0 at 0) f.cut
          ∙ replaced_before size f.replaced f.rest at 0 f.placed
          ∙ ap (behind f.out) (fails_refused size (at + length f.out) (0 + length f.before) fault f.rest f.fails)
          ∙ ap (not_written fault) (zero-add (length f.before) ∙ sym f.here)

-- A reference is a text of one: with its `&` and its `;` it gives what its content gives.
pub a_reference_is_a_text_of_one : (c : List ℕ) (size at : ℕ) → Without semicolon c → whole_text (amp ∷ (c ++ (semicolon ∷ []))) size at ≡ one_text c size at
a_reference_is_a_text_of_one c size at w = word_alone size at 0 c (reference_of c) w refl

copied : (content : List ℕ) → Without amp content → Replaced content content
copied content Without.none = nothing
copied content (Without.also {b = b} {bs = bs} n w) = plain b n (copied bs w)

-- Text without `&` is copied.
pub text_without_references_is_copied : (content : List ℕ) (size at : ℕ) → Without amp content → at + length content ≤ size → whole_text content size at ≡ Text.Whole content
text_without_references_is_copied content size at w h = (what_is_written content size at content).1 (copied content w, h)

-- What is written has at most as many bytes as the content.
pub writing_takes_no_more_bytes : {content out : List ℕ} → Replaced content out → length out ≤ length content
writing_takes_no_more_bytes nothing = omega arith
writing_takes_no_more_bytes (plain b n r) = omega (arith, writing_takes_no_more_bytes r)
writing_takes_no_more_bytes (reference {bs = bs} {out = out} c v w e r) =
    omega (arith, writing_takes_no_more_bytes r, (width_some v).1, reference_long c v e, length-append c (semicolon ∷ bs), length-append (octets v) out)

-- So a buffer with as much room as the content has bytes never gives 27.
pub enough_room_is_never_refused : (content : List ℕ) (size at place : ℕ) → at + length content ≤ size → whole_text content size at ≡ not_written Fault.NoRoom place → ⊥
enough_room_is_never_refused content size at place h e =
    let f = (what_is_refused content size at Fault.NoRoom place).0 e in
    omega (arith, needs f.rest refl f.fails, writing_takes_no_more_bytes f.replaced, ap length f.cut, length-append f.before f.rest)
  where
    needs : {p : ℕ} {fault : Fault} (rest : List ℕ) → fault ≡ Fault.NoRoom → Fails size p fault rest → size < p + length rest
    needs rest g (unclosed w) = let z : ◌≡◌ {A = ℕ} 0 1 = cc in absurd (omega arith)
    needs rest g (formless c bs w x) = let z : ◌≡◌ {A = ℕ} 0 1 = cc in absurd (omega arith)
    needs rest g (valueless c bs w x) = let z : ◌≡◌ {A = ℕ} 0 1 = cc in absurd (omega arith)
    needs rest g (character c bs v w x l) = omega (arith, (width_some v).1, reference_long c v x, length-append c (semicolon ∷ bs))
    needs rest g (byte b n l) = omega arith
    needs rest g (end l) = omega arith

-- ---- well-formed UTF-8

-- A byte up to 7F is a character by itself: what stands before it and what stands behind it are well formed.
module _ (a : ℕ) (low : a ≤ 0x7F) where
  cut_at_ascii : {l : List ℕ} → Octets l → (xs ys : List ℕ) → l ≡ xs ++ (a ∷ ys) → Octets xs × Octets ys
  cut_at_ascii none xs ys e = absurd (omega (arith, ap length e, length-append xs (a ∷ ys)))
  cut_at_ascii (char {c = c} {bs = bs} h o) xs ys e =
      elim (dec_lt (length xs) (length c)) [
        | no k ↦
            let n : length c ≤ length xs = omega arith in
            let first : take (length c) xs ≡ c = sym (take-append-le (length c) xs (a ∷ ys) n) ∙ ap (take (length c)) (sym e) ∙ take_at c bs (length c) refl in
            let rest : bs ≡ drop (length c) xs ++ (a ∷ ys) = sym (drop_at c bs (length c) refl) ∙ ap (drop (length c)) e ∙ drop-append-le (length c) xs (a ∷ ys) n in
            let r = cut_at_ascii o (drop (length c) xs) ys rest in
            (subst Octets (ap (λ (l : List ℕ). l ++ drop (length c) xs) (sym first) ∙ take-append-drop (length c) xs) (char h r.0), r.1)
        | yes k ↦
            let there : get_or c (length xs) 0 ≡ a = sym (get_or-append c bs 0 (length xs) k) ∙ ap (λ (l : List ℕ). get_or l (length xs) 0) e ∙ get_or-append_seam xs a ys 0 in
            let single : length c < 2 = elim (dec_lt (length c) 2) [ yes m ↦ m | no m ↦ absurd (omega (arith, char_high c h (omega arith) (length xs) k)) ] in
            (empty xs (omega arith), subst Octets (sym (drop_at c bs 1 (omega arith)) ∙ ap (drop 1) e ∙ behind_one xs (omega arith)) o)
      ]
    where
      empty : (xs : List ℕ) → length xs < 1 → Octets xs
      empty [] h = none
      empty (x ∷ xs) h = absurd (omega arith)

      behind_one : (xs : List ℕ) → length xs < 1 → drop 1 (xs ++ (a ∷ ys)) ≡ ys
      behind_one [] h = refl
      behind_one (x ∷ xs) h = absurd (omega arith)

-- Well-formed bytes stay so, behind any others.
well_formed_behind : {content out : List ℕ} → Replaced content out → (before : List ℕ) → Octets (before ++ content) → Octets (before ++ out)
well_formed_behind nothing before o = o
well_formed_behind (plain {bs = bs} {out = out} b n r) before o =
    subst Octets (append_snoc before b out) (well_formed_behind r (before ++ (b ∷ [])) (subst Octets (sym (append_snoc before b bs)) o))
well_formed_behind (reference {bs = bs} {out = out} c v w e r) before o =
    let f = cut_at_ascii amp (omega arith) o before (c ++ (semicolon ∷ bs)) refl in
    let g = cut_at_ascii semicolon (omega arith) f.1 c bs refl in
    octets_join f.0 (char (bytes_char v (what_is_named_is_a_character c v e).1) (well_formed_behind r [] g.1))

-- A well-formed content gives well-formed UTF-8.
pub well_formed_content_gives_well_formed_text : {content out : List ℕ} → Replaced content out → Octets content → Octets out
well_formed_content_gives_well_formed_text r o = well_formed_behind r [] o

-- ---- the buffer

-- What was there stays, but for the run: as many bytes as before, and each outside the run is the one that stood there.
module _ (buffer : List ℕ) (at : ℕ) (bs : List ℕ) (h : at + length bs ≤ length buffer) where
  pub the_run_is_written : take (length bs) (drop at (over buffer at bs)) ≡ bs
  the_run_is_written =
      ap (λ (l : List ℕ). take (length bs) (drop at l)) (append_assoc (take at buffer) bs (drop (at + length bs) buffer))
      ∙ ap (take (length bs)) (drop_at (take at buffer) (bs ++ drop (at + length bs) buffer) at (length-take-le at buffer (omega arith)))
      ∙ take_at bs (drop (at + length bs) buffer) (length bs) refl

  pub as_many_bytes_as_before : length (over buffer at bs) ≡ length buffer
  as_many_bytes_as_before = over_length buffer at bs h

  pub every_byte_outside_the_run_stays : (k : ℕ) → (k < at) ⊎ (at + length bs ≤ k) → get_or (over buffer at bs) k 0 ≡ get_or buffer k 0
  every_byte_outside_the_run_stays k (inl l) =
      ap (λ (x : List ℕ). get_or x k 0) (append_assoc (take at buffer) bs (drop (at + length bs) buffer))
      ∙ get_or-append (take at buffer) (bs ++ drop (at + length bs) buffer) 0 k (omega (arith, length-take-le at buffer (omega arith)))
      ∙ get_or-take at buffer k 0 l
  every_byte_outside_the_run_stays k (inr l) =
      let n : length (take at buffer ++ bs) ≡ at + length bs = length-append (take at buffer) bs ∙ ap (λ (m : ℕ). m + length bs) (length-take-le at buffer (omega arith)) in
      let e : k ≡ length (take at buffer ++ bs) + (k - (at + length bs)) = omega arith in
      let f : at + length bs + (k - (at + length bs)) ≡ k = omega arith in
      ap (λ (j : ℕ). get_or (over buffer at bs) j 0) e
      ∙ get_or-append-add (take at buffer ++ bs) (drop (at + length bs) buffer) (k - (at + length bs)) 0
      ∙ get_or-drop (at + length bs) buffer (k - (at + length bs)) 0
      ∙ ap (λ (j : ℕ). get_or buffer j 0) f

-- ---- a call

-- A call that writes writes the text with its references replaced, and nothing else is changed;
pub what_a_call_writes : (content buffer : List ℕ) (at n : ℕ) (buffer' : List ℕ) → Put (whole_text content (length buffer) at) buffer at (Written.Bytes n) buffer' → Wrote content buffer at n buffer'
what_a_call_writes content buffer at n buffer' p = by (whole_text content (length buffer) at) (seen (length buffer) at 0 content) p.told p.bytes
  where
    by : (t : Text) → Seen (length buffer) at 0 content t → Written.Bytes n ≡ written_of t → buffer' ≡ left_of buffer at t → Wrote content buffer at n buffer'
    by t (Seen.refused fault place f) e g = let z : ◌≡◌ {A = ℕ} 0 1 = cc in absurd (omega arith)
    by t (Seen.whole out r h) e g =
        let m : n ≡ length out = cc in
        record {
          out = out;
          replaced = r;
          count = sym m;
          run = ap (λ (l : List ℕ). take n (drop at l)) g ∙ ap (λ (k : ℕ). take k (drop at (over buffer at out))) m ∙ the_run_is_written buffer at out h;
          long = ap length g ∙ as_many_bytes_as_before buffer at out h;
          outside = λ k o. ap (λ (l : List ℕ). get_or l k 0) g ∙ every_byte_outside_the_run_stays buffer at out h k (subst (λ (j : ℕ). (k < at) ⊎ (at + j ≤ k)) m o);
        }

-- of well-formed content the bytes that it writes are well formed;
pub what_a_call_writes_is_well_formed : (content buffer : List ℕ) (at n : ℕ) (buffer' : List ℕ) → Octets content → Put (whole_text content (length buffer) at) buffer at (Written.Bytes n) buffer' → Octets (take n (drop at buffer'))
what_a_call_writes_is_well_formed content buffer at n buffer' o p =
    let w = what_a_call_writes content buffer at n buffer' p in
    subst Octets (sym w.run) (well_formed_content_gives_well_formed_text w.replaced o)

-- and a call that refuses changes nothing.
pub a_refusal_changes_nothing : (t : Text) (buffer : List ℕ) (at : ℕ) (x : Refusal) (buffer' : List ℕ) → Put t buffer at (Written.Refused x) buffer' → buffer' ≡ buffer
a_refusal_changes_nothing (Text.Whole bs) buffer at x buffer' p = let e : Written.Refused x ≡ Written.Bytes (length bs) = p.told in let z : ◌≡◌ {A = ℕ} 0 1 = cc in absurd (omega arith)
a_refusal_changes_nothing (Text.Refused y) buffer at x buffer' p = p.bytes

-- No second answer meets the promise.
pub only_one_answer : (t : Text) (buffer : List ℕ) (at : ℕ) (r r' : Written) (b b' : List ℕ) → Put t buffer at r b → Put t buffer at r' b' → (r ≡ r') × (b ≡ b')
only_one_answer t buffer at r r' b b' p q = (p.told ∙ sym q.told, p.bytes ∙ sym q.bytes)
