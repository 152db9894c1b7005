-- Text, references and `<!`: what they become is what the reader's definition says. Assumes nothing.
use Prim.Native.Nat.{ℕ, ◌+◌, ◌-◌, ◌<◌}
use mathlib.Core.Path.{◌≡◌, refl, sym, ap, ap₂, ◌∙◌}
use mathlib.Core.List.{List}
use mathlib.Core.Bool.{Bool, true, false, not, ◌||◌}
use mathlib.Core.Logic.{inl}
use native.Mathlib.Omega.{arith}
use native.Mathlib.Decide.{dec_lt}
use lib.ListN.{length, get_or}
use lib.Dec.{eqb, leb}
use borrow.Author.Tests.{eq-eqb, ne_eqb, eqb-true, eqb-false, le-leb, lt-leb}
use Rattle.ground.specs.Choose.{pick}
use Rattle.ground.specs.Bytes.{amp, hyphen, lt, open_bracket, semicolon}
use Rattle.ground.proofs.Choices.{clash, not_true, pick_bool}
use Rattle.ground.proofs.Lists.{byte_past}
use Rattle.parser.specs.First.{one_of, text_ends, reference_ends, reference_found}
use Rattle.parser.specs.declared.first.Found.{Found}
use Rattle.parser.proofs.Turns.{first_here, first_done}
use Rattle.state.specs.declared.place.Depth.{Depth}
use Rattle.state.specs.declared.place.Span.{Span}
use Rattle.state.specs.declared.answer.Error.{Error}
use Rattle.state.specs.declared.answer.Kind.{Kind}
use Rattle.state.specs.declared.run.Phase.{Phase}
use Rattle.state.specs.declared.run.Reader.{Reader}
use Rattle.state.specs.declared.run.Step.{Step}
use Rattle.state.specs.Make.{event, told, ending}
use Rattle.state.specs.Place.{span, size}
use Rattle.emit.specs.Text.{emit_text, emit_last_text, text_content, trimmed}
use Rattle.emit.specs.Reference.{emit_ref, emit_dangling}
use Rattle.reader.specs.declared.piece.Shape.{Shape}
use Rattle.reader.specs.Cut.{whole, phase_at, cut_bang, cut_next}
use Rattle.reader.specs.Step.{emitted_as, taken}
use Rattle.plain.specs.declared.known.Part.{Part}
use Rattle.plain.specs.declared.known.Known.{Known}
use Rattle.plain.specs.Known.{ends_in}
use Rattle.plain.specs.Told.{tell, is_done, is_text, text_end, text_of, reference_of, becomes, whole_of, behind, no_markup, closed_piece, closed_in, unclosed_in}
use Rattle.plain.proofs.Bytes.{byte_same}
use Rattle.plain.proofs.Checked.{stop_is, piece_is, closed_is}
use Rattle.plain.proofs.Cuts.{text_cut, bang_cut, bang_else, text_to, text_last, ref_to, ref_short, ref_last}
use Rattle.plain.proofs.Flags.{and_left, and_right, or_then}
use Rattle.plain.proofs.Kept.{kept_is}
use Rattle.plain.proofs.Means.{Means}
use Rattle.plain.proofs.Tracks.{Tracks}

-- ---- the byte at which they end

-- `<` or `&`
abbrev Opens : ℕ → Type 0
Opens b = (eqb b lt || eqb b amp) ≡ true

pub text_test : (b : ℕ) → (eqb b lt || eqb b amp) ≡ one_of text_ends b
text_test b = sym (pick_bool (eqb b lt || eqb b amp)) ∙ or_then (eqb b lt) (eqb b amp) true false

-- `;`, `&` or `<`
pub reference_test : (b : ℕ) → ((eqb b semicolon || eqb b amp) || eqb b lt) ≡ one_of reference_ends b
reference_test b =
    sym (pick_bool ((eqb b semicolon || eqb b amp) || eqb b lt))
    ∙ or_then (eqb b semicolon || eqb b amp) (eqb b lt) true false
    ∙ or_then (eqb b semicolon) (eqb b amp) true (pick (eqb b lt) true false)

-- not the first of these three
turned_round : (x y z : Bool) → ((x || y) || z) ≡ true → x ≡ false → (z || y) ≡ true
turned_round true y z e f = clash true refl f
turned_round false true true e f = refl
turned_round false true false e f = refl
turned_round false false true e f = refl
turned_round false false false e f = e

-- the phase behind `<` or `&` is the definition's, and neither that of text nor the end
record Follows (next phase : Phase) : Type 0 where
  is : next ≡ phase
  not_done : is_done next ≡ false
  not_text : is_text next ≡ false

behind_follows : (doc : List ℕ) (i : ℕ) → Opens (get_or doc i 0) → Follows (behind (get_or doc i 0)) (phase_at doc i)
unfolding behind phase_at
behind_follows doc i e = by (eqb (get_or doc i 0) lt) (eqb (get_or doc i 0) amp) e
  where
    by : (t u : Bool) → (t || u) ≡ true → Follows (pick t Phase.InsideMarkup (pick u Phase.InsideRef Phase.InsideText)) (pick t Phase.InsideMarkup Phase.InsideRef)
    by true u e = record { is = refl; not_done = refl; not_text = refl }
    by false true e = record { is = refl; not_done = refl; not_text = refl }
    by false false e = clash false e refl

-- nothing is left exactly where the end is not behind the start
left : (x f : ℕ) → leb x f ≡ eqb (x - f) 0
left x f =
    elim (dec_lt f x) [
      | yes h ↦ lt-leb x f h ∙ sym (ne_eqb (x - f) 0 (λ e. omega arith))
      | no h ↦ le-leb x f (omega arith) ∙ sym (eq-eqb (x - f) 0 (omega arith))
    ]

module _ (doc : List ℕ) (r : Reader) (open_name : Span) (room : Depth) (k : Known) (t : Tracks doc open_name k) where
  abbrev here : Span
  here = span k.from k.at

  abbrev b : ℕ
  b = get_or doc k.at 0

  -- a piece that ends before the byte at hand
  before_is : (shape : Shape) (p : Part) → Opens b → k.part ≡ p
      → (Follows (behind b) (phase_at doc k.at) → becomes r k here (behind b) open_name room p ≡ emitted_as doc r open_name room shape here (behind b))
      → cut_next doc k.from ≡ whole shape k.from k.at (phase_at doc k.at)
      → whole_of r k (closed_piece r k open_name room b) (behind b) open_name room ≡ taken doc r open_name room (cut_next doc k.from)
  before_is shape p o e f c =
      let w = behind_follows doc k.at o in
      ap (λ (x : Bool). whole_of r k (span k.from (pick x k.at (k.at + 1))) (behind b) open_name room) o
      ∙ piece_is doc r open_name room k t shape p k.at (behind b) (behind b) (inl refl) e (f w) (c ∙ ap (whole shape k.from k.at) (sym w.is))

  -- one that ends with the document
  last_is : (shape : Shape) (p : Part) → k.at ≡ length doc → k.part ≡ p
      → becomes r k here Phase.Done open_name room p ≡ emitted_as doc r open_name room shape here Phase.Done
      → cut_next doc k.from ≡ whole shape k.from (length doc) Phase.Done
      → whole_of r k here Phase.Done open_name room ≡ taken doc r open_name room (cut_next doc k.from)
  last_is shape p l e f c =
      piece_is doc r open_name room k t shape p k.at Phase.Done Phase.Done (inl refl) e f (c ∙ ap (λ (n : ℕ). whole shape k.from n Phase.Done) (sym l))

  -- ---- text

  content_is : span k.from (text_end r k here) ≡ text_content doc r.settings here
  unfolding text_content
  content_is = by r.settings.trim_text_end
    where
      by : (x : Bool) → span k.from (pick x k.kept k.at) ≡ pick x (trimmed doc here) here
      by true = ap (span k.from) (sym (kept_is doc k.from k.at k.kept k.from t.kept (omega arith) t.kept.low t.high))
      by false = refl

  tell_text : (next : Phase) → tell r Kind.Text here (span k.from (text_end r k here)) 0 next ≡ emit_text doc r here next
  unfolding tell emit_text
  tell_text next = ap (λ (s : Span). told r (event Kind.Text here s 0) next) content_is

  text_goes_on : (next : Phase) → is_done next ≡ false → text_of r k here next open_name ≡ emit_text doc r here next
  unfolding text_of
  text_goes_on next e = rw e (tell_text next)

  text_ends_lem : text_of r k here Phase.Done open_name ≡ emit_last_text doc r open_name here
  unfolding text_of emit_last_text
  text_ends_lem =
      ap₂ (λ (x : Bool) (s : Step). pick x (ending r open_name here) s)
      (left (text_end r k here) k.from ∙ ap (λ (s : Span). eqb (size s) 0) content_is)
      (tell_text Phase.Done)

  pub text_closed : k.at < length doc → k.part ≡ Part.Text → Means doc k Part.Text → ends_in k (get_or doc k.at 0) Part.Text ≡ true
      → closed_in r k open_name room (get_or doc k.at 0) Part.Text ≡ taken doc r open_name room (cut_next doc k.from)
  text_closed l e m f =
      before_is Shape.Text Part.Text f e (λ w. text_goes_on (behind b) w.not_done)
      (m.1 ∙ text_to doc k.from k.at (m.2 ∙ sym (first_here (one_of text_ends) doc _ k.at refl l (sym (sym (text_test b) ∙ f)))))

  pub text_open : k.at ≡ length doc → k.part ≡ Part.Text → Means doc k Part.Text
      → unclosed_in r k open_name room Part.Text ≡ taken doc r open_name room (cut_next doc k.from)
  text_open l e m =
      last_is Shape.LastText Part.Text l e text_ends_lem
      (m.1 ∙ text_last doc k.from (m.2 ∙ sym (first_done (one_of text_ends) doc _ k.at refl (omega arith))))

  -- no byte was read, and none is left, so that the byte there is neither `<` nor `&`
  pub nothing_open : k.at ≡ length doc → k.part ≡ Part.Nothing → Means doc k Part.Nothing
      → unclosed_in r k open_name room Part.Nothing ≡ taken doc r open_name room (cut_next doc k.from)
  nothing_open l e m =
      last_is Shape.LastText Part.Nothing l e text_ends_lem
      (text_cut doc k.from 0 (sym (byte_past doc k.from (omega (arith, m.0)))) refl refl
      ∙ text_last doc k.from (sym (first_done (one_of text_ends) doc _ k.from refl (omega (arith, m.0)))))

  -- ---- references

  dangling_is : (next : Phase) → is_text next ≡ false → reference_of r here next ≡ emit_dangling r here next
  unfolding reference_of emit_dangling tell
  dangling_is next e = rw e

  ref_is : (piece : Span) → reference_of r piece Phase.InsideText ≡ emit_ref r piece
  unfolding reference_of emit_ref tell
  ref_is piece = refl

  pub reference_closed : k.at < length doc → k.part ≡ Part.Reference → Means doc k Part.Reference → ends_in k (get_or doc k.at 0) Part.Reference ≡ true
      → closed_in r k open_name room (get_or doc k.at 0) Part.Reference ≡ taken doc r open_name room (cut_next doc k.from)
  reference_closed l e m f = by (eqb b semicolon) refl
    where
      found : reference_found doc k.from ≡ Found.At k.at
      found = m.2 ∙ sym (first_here (one_of reference_ends) doc _ k.at refl l (sym (sym (reference_test b) ∙ f)))

      by : (x : Bool) → eqb b semicolon ≡ x → closed_in r k open_name room b Part.Reference ≡ taken doc r open_name room (cut_next doc k.from)
      by true q =
          let g = eqb-true b semicolon q in
          closed_is doc r open_name room k t Shape.GeneralRef Part.Reference semicolon l g (omega arith) refl e (ref_is (span k.from (k.at + 1)))
          (m.1 ∙ ref_to doc k.from k.at found g)
      by false q =
          before_is Shape.Dangling Part.Reference (turned_round (eqb b semicolon) (eqb b amp) (eqb b lt) f q) e (λ w. dangling_is (behind b) w.not_text)
          (m.1 ∙ ref_short doc k.from k.at found (eqb-false b semicolon q))

  pub reference_open : k.at ≡ length doc → k.part ≡ Part.Reference → Means doc k Part.Reference
      → unclosed_in r k open_name room Part.Reference ≡ taken doc r open_name room (cut_next doc k.from)
  reference_open l e m =
      last_is Shape.Dangling Part.Reference l e (dangling_is Phase.Done refl)
      (m.1 ∙ ref_last doc k.from (m.2 ∙ sym (first_done (one_of reference_ends) doc _ k.at refl (omega arith))))

  -- ---- `<!`

  pub bang_closed : k.at < length doc → Means doc k Part.Bang → ends_in k (get_or doc k.at 0) Part.Bang ≡ true
      → closed_in r k open_name room (get_or doc k.at 0) Part.Bang ≡ taken doc r open_name room (cut_next doc k.from)
  bang_closed l m f =
      let n = not_true (eqb b open_bracket) (and_left (not (eqb b open_bracket)) (not (eqb b hyphen)) f) in
      let o = not_true (eqb b hyphen) (and_right (not (eqb b open_bracket)) (not (eqb b hyphen)) f) in
      stop_is doc r open_name room (no_markup b) k.from k.from
      (bang_cut doc k.from m.first b m.second (byte_same doc (k.from + 2) k.at (sym m.size)) ∙ bang_else doc k.from b n o)

  -- no byte behind it reads as 0
  pub bang_open : k.at ≡ length doc → Means doc k Part.Bang → unclosed_in r k open_name room Part.Bang ≡ taken doc r open_name room (cut_next doc k.from)
  unfolding cut_bang
  bang_open l m =
      stop_is doc r open_name room Error.InvalidBangMarkup k.from k.from
      (bang_cut doc k.from m.first 0 m.second (sym (byte_past doc (k.from + 2) (omega (arith, m.size)))))
