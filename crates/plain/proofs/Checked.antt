-- What is known of a piece and of its characters tells what the reader's definition takes: a piece that has its closer or needs none, or a refusal. Assumes nothing.
use Prim.Native.Nat.{ℕ, ◌+◌, ◌-◌, ◌≤◌, ◌<◌}
use mathlib.Core.Path.{◌≡◌, refl, sym, ap, ◌∙◌, subst}
use mathlib.Core.List.{List}
use mathlib.Core.Bool.{false, ◌||◌}
use mathlib.Core.Logic.{◌⊎◌, inl, inr}
use native.Mathlib.Omega.{arith}
use lib.ListN.{length, get_or}
use lib.Dec.{eqb}
use borrow.Author.Tests.{eqb-true, eqb-false}
use Rattle.ground.specs.Bytes.{amp, lt}
use Rattle.ground.specs.Part.{part}
use Rattle.ground.proofs.Choices.{pick_cases, or_left, or_right}
use Rattle.utf8.specs.Utf8.{check, by_utf8}
use Rattle.utf8.specs.declared.Utf8.{Utf8}
use Rattle.state.specs.declared.place.Depth.{Depth}
use Rattle.state.specs.declared.place.Span.{Span}
use Rattle.state.specs.declared.answer.Error.{Error}
use Rattle.state.specs.declared.run.Phase.{Phase}
use Rattle.state.specs.declared.run.Reader.{Reader}
use Rattle.state.specs.declared.run.Step.{Step}
use Rattle.state.specs.Make.{stopped}
use Rattle.state.specs.Place.{at, span, inner}
use Rattle.state.proofs.Spans.{fits}
use Rattle.reader.specs.declared.piece.Shape.{Shape}
use Rattle.reader.specs.Cut.{whole, stop as stop_of_cut, cut_next}
use Rattle.reader.specs.Step.{emitted_as, emitted, checked, taken}
use Rattle.plain.specs.declared.known.Part.{Part}
use Rattle.plain.specs.declared.known.Known.{Known}
use Rattle.plain.specs.Told.{stop, becomes, whole_of, behind, closer, no_closer, read, closed_piece}
use Rattle.plain.proofs.Letters.{Said, spelt_said, spelt_said_more}
use Rattle.plain.proofs.Tracks.{Tracks}

-- what lies between the opener and the closer of a piece
pub inner_to : (from to front back end : ℕ) → from + front ≤ end → end + back ≡ to → inner (span from to) front back ≡ span (from + front) end
inner_to from to front back end h e =
    let f : to - back ≡ end = omega arith in
    sym (fits (span from to) front back (omega arith) (omega arith) (omega arith)) ∙ ap (span (from + front)) f

module _ (doc : List ℕ) (r : Reader) (open_name : Span) (room : Depth) where
  -- ---- a refusal

  pub stop_is : (error : Error) (from to : ℕ) → cut_next doc from ≡ stop_of_cut error from to
      → stop r error (span from to) ≡ taken doc r open_name room (cut_next doc from)
  unfolding taken stop_of_cut stop
  stop_is error from to e = sym (ap (taken doc r open_name room) e)

  -- a piece that has no closer, by what it is
  pub open_is : (k : Known) (p : Part) (error : Error) → k.at ≡ length doc → k.part ≡ p → closer k p ≡ error
      → cut_next doc k.from ≡ stop_of_cut error k.from (length doc)
      → stop r (no_closer k) (read r k open_name room) ≡ taken doc r open_name room (cut_next doc k.from)
  unfolding no_closer
  open_is k p error z e f c =
      ap (λ (x : Error). stop r x (span k.from k.at)) (ap (closer k) e ∙ f)
      ∙ ap (λ (n : ℕ). stop r error (span k.from n)) z
      ∙ stop_is error k.from (length doc) c

  -- ---- a piece

  module _ (k : Known) (t : Tracks doc open_name k) where
    -- it ends before the byte at hand, or with it, which is one of ASCII
    abbrev pub Ends : ℕ → Type 0
    Ends to = (to ≡ k.at) ⊎ ((to ≡ k.at + 1) × (k.at < length doc) × (get_or doc k.at 0 < 0x80))

    -- its check, by the character at hand
    abbrev checks : ℕ → Utf8
    checks to = check k.from (part doc k.from to)

    said : (to : ℕ) → Ends to → Said k.letters (checks to)
    said to (inl z) = subst (λ (n : ℕ). Said k.letters (checks n)) (sym z) (spelt_said doc k.from k.at k.letters t.high t.letters)
    said to (inr w) =
        subst (λ (n : ℕ). Said k.letters (checks n)) (sym w.0) (spelt_said_more doc k.from k.at k.letters w.1 w.2 t.letters)

    -- the definition cuts off this piece, and it becomes the same
    pub piece_is : (shape : Shape) (p : Part) (to : ℕ) (now next : Phase) → Ends to → k.part ≡ p
        → becomes r k (span k.from to) now open_name room p ≡ emitted_as doc r open_name room shape (span k.from to) next
        → cut_next doc k.from ≡ whole shape k.from to next
        → whole_of r k (span k.from to) now open_name room ≡ taken doc r open_name room (cut_next doc k.from)
    unfolding whole_of taken whole checked emitted
    piece_is shape p to now next w e f c =
        pick_cases (λ (s : Step). s ≡ told (checks to)) (eqb k.letters.owed 0) _ _
        (λ x. ap (becomes r k (span k.from to) now open_name room) e ∙ f ∙ ap told (sym ((said to w).well (eqb-true k.letters.owed 0 x))))
        (λ x. ap told (sym ((said to w).ill_from (eqb-false k.letters.owed 0 x))))
        ∙ sym (ap (taken doc r open_name room) c)
      where
        told : Utf8 → Step
        told u = by_utf8 u (emitted_as doc r open_name room shape (span k.from to) next) (λ ill. stopped r Error.Encoding (at ill) (span k.from to))

    -- the same, where it ends with a `>` or a `;`
    pub closed_is : (shape : Shape) (p : Part) (b : ℕ) → k.at < length doc → get_or doc k.at 0 ≡ b → b < 0x80 → (eqb b lt || eqb b amp) ≡ false → k.part ≡ p
        → becomes r k (span k.from (k.at + 1)) Phase.InsideText open_name room p
        ≡ emitted_as doc r open_name room shape (span k.from (k.at + 1)) Phase.InsideText
        → cut_next doc k.from ≡ whole shape k.from (k.at + 1) Phase.InsideText
        → whole_of r k (closed_piece r k open_name room (get_or doc k.at 0)) (behind (get_or doc k.at 0)) open_name room
        ≡ taken doc r open_name room (cut_next doc k.from)
    unfolding behind
    closed_is shape p b l g h n e f c =
        rw (g, or_left (eqb b lt) (eqb b amp) n, or_right (eqb b lt) (eqb b amp) n)
        (piece_is shape p (k.at + 1) Phase.InsideText Phase.InsideText (inr (refl, l, omega arith)) e f c)
