-- A call whose piece is whole in the bytes so far does what it does when more have come, one law to a definition of the reader's Step and Sound. Assumes nothing.
use Prim.Native.Nat.{ℕ, ◌+◌, ◌≤◌, ◌<◌}
use mathlib.Core.Path.{◌≡◌, refl, sym, ap, ◌∙◌, subst}
use mathlib.Core.Bool.{Bool, true, false}
use mathlib.Core.Logic.{inl, inr}
use mathlib.Core.List.{List, ◌++◌}
use native.Mathlib.Omega.{arith}
use lib.ListN.{length, get_or, drop, length-drop}
use borrow.Author.Tests.{eq-eqb, eqb-true, le-leb}
use Rattle.ground.specs.Choose.{pick}
use Rattle.ground.specs.Bytes.{amp, lt}
use Rattle.ground.specs.Part.{part}
use Rattle.ground.proofs.First.{found_has}
use Rattle.ground.proofs.Lists.{part_from, stands_in}
use Rattle.white.specs.White.{leading, not_white, until}
use Rattle.utf8.specs.declared.Utf8.{Utf8}
use Rattle.utf8.specs.Utf8.{check, by_utf8}
use Rattle.parser.specs.First.{text_found, Among, text_ends, one_of}
use Rattle.parser.specs.declared.first.Found.{Found as FirstFound}
use Rattle.parser.proofs.Words.{text_gives}
use Rattle.state.specs.declared.place.Depth.{Depth}
use Rattle.state.specs.declared.place.Span.{Span}
use Rattle.state.specs.declared.config.Config.{Config}
use Rattle.state.specs.declared.run.Phase.{Phase}
use Rattle.state.specs.declared.run.Reader.{Reader}
use Rattle.state.specs.declared.run.Step.{Step}
use Rattle.state.specs.Limits.{longest, capacity}
use Rattle.state.specs.Place.{depth_of}
use Rattle.reader.specs.declared.piece.Shape.{Shape}
use Rattle.reader.specs.declared.piece.Piece.{Piece}
use Rattle.reader.specs.declared.piece.Cut.{Cut}
use Rattle.reader.specs.Cut.{cut_markup, cut_next, cut_ref}
use Rattle.reader.specs.Names.{latest}
use Rattle.reader.specs.Sound.{in_place_in, is_in_place, sound}
use Rattle.reader.specs.Step.{emitted_as, emitted, checked, taken, skipped, step_text, bom, begin, step_in, step_phase, step}
use Rattle.reader.proofs.States.{sound_true}
use Rattle.reader.proofs.Cuts.{fewest, Edges, CutOff, CutAt, ref_cut, markup_cut, next_cut}
use Rattle.arrivals.specs.Whole.{Closes, WholeIn, Whole, Stands, lengthened, lengthened_step}
use Rattle.arrivals.proofs.Stays.{grows, byte_stays, rest_stays, part_stays, until_stays, begins_stays}
use Rattle.arrivals.proofs.Ended.{Ended, text, reference, tag, instruction, cdata, comment, other, closes_ended, closes_come}
use Rattle.arrivals.proofs.Cuts.{markup_same, reference_same, next_same}
use Rattle.arrivals.proofs.Makes.{picked_same, stopped_same, ending_same, bad_same}
use Rattle.arrivals.proofs.Emits.{text_same, last_same, ref_same, dangling_same, comment_same, cdata_same, question_same, end_same, start_same, empty_same}

-- two choices by one check
by_check_same : (n : ℕ) (u : Utf8) (x y : Step) (f g : ℕ → Step) → x ≡ lengthened_step n y → ((p : ℕ) → f p ≡ lengthened_step n (g p))
    → by_utf8 u x f ≡ lengthened_step n (by_utf8 u y g)
by_check_same n Utf8.WellFormed x y f g e h = e
by_check_same n (Utf8.IllFormed p) x y f g e h = h p

module _ (doc more : List ℕ) (n : ℕ) (r : Reader) (last : Span) (cap : Depth) (names : last.to ≤ length doc) where
  -- ---- what a piece becomes

  as_same : (shape : Shape) (piece : Span) (next : Phase) → piece.from + fewest shape ≤ piece.to → piece.to ≤ length doc
      → Edges doc piece.from piece.to shape
      → emitted_as (doc ++ more) (lengthened n r) last cap shape piece next ≡ lengthened_step n (emitted_as doc r last cap shape piece next)
  as_same Shape.Text piece next h k e = text_same doc more n r piece k next
  as_same Shape.LastText piece next h k e = last_same doc more n r piece k last
  as_same Shape.GeneralRef piece next h k e = ref_same n r piece
  as_same Shape.Dangling piece next h k e = dangling_same n r piece next
  as_same Shape.Comment piece next h k e = comment_same doc more n r piece (omega arith) k e.1
  as_same Shape.CData piece next h k e = cdata_same doc more n r piece (omega arith) k e.1
  as_same Shape.QuestionMark piece next h k e = question_same doc more n r piece (omega arith) k
  as_same Shape.End piece next h k e = end_same doc more n r last piece names (omega arith) k
  as_same Shape.Start piece next h k e = start_same doc more n r piece (omega arith) k cap

  emitted_same : (p : Piece) → CutOff doc p.span.from p
      → emitted (doc ++ more) (lengthened n r) last cap p ≡ lengthened_step n (emitted doc r last cap p)
  unfolding emitted
  emitted_same p c = as_same p.shape p.span p.next c.moves c.lies.within c.edges

  checked_same : (p : Piece) → CutOff doc p.span.from p
      → checked (doc ++ more) (lengthened n r) last cap p ≡ lengthened_step n (checked doc r last cap p)
  unfolding checked
  checked_same p c =
      rw (part_stays doc more p.span.from p.span.to c.lies.within)
      (by_check_same n (check p.span.from (part doc p.span.from p.span.to)) _ _ _ _ (emitted_same p c) (λ ill. stopped_same n r _ _ p.span))

  taken_same : (from : ℕ) (c : Cut) → CutAt doc from c → taken (doc ++ more) (lengthened n r) last cap c ≡ lengthened_step n (taken doc r last cap c)
  unfolding taken
  taken_same from (Cut.Piece p) c = checked_same p (subst (λ (i : ℕ). CutOff doc i p) (sym c.lies.starts) c)
  taken_same from (Cut.Stop x) c = stopped_same n r x.error x.place x.piece

-- ---- where a piece begins

module _ (doc more : List ℕ) where
  white_same : (from : ℕ) → from + leading (part doc from (length doc)) < length doc
      → leading (part (doc ++ more) from (length (doc ++ more))) ≡ leading (part doc from (length doc))
  white_same from h =
      let l : leading (part doc from (length doc)) ≡ until not_white (drop from doc) = ap leading (part_from doc from) in
      ap leading (part_from (doc ++ more) from ∙ rest_stays doc more from (omega arith))
      ∙ until_stays not_white (drop from doc) more (omega (arith, length-drop from doc))
      ∙ sym l

  -- white space ends where a byte stands behind it
  pub skipped_same : (c : Config) (from : ℕ) → skipped doc c from < length doc → skipped (doc ++ more) c from ≡ skipped doc c from
  unfolding skipped
  skipped_same c from = by c.trim_text_start
    where
      by : (t : Bool) → pick t (from + leading (part doc from (length doc))) from < length doc
          → pick t (from + leading (part (doc ++ more) from (length (doc ++ more)))) from ≡ pick t (from + leading (part doc from (length doc))) from
      by true h = ap (λ (k : ℕ). from + k) (white_same from h)
      by false h = refl

  -- a byte that is none of the byte order mark's
  abbrev Unmarked : Type 0
  Unmarked = (i : ℕ) × (i < length doc) × (one_of bom (get_or doc i 0) ≡ false)

  unmarked : (i k : ℕ) → get_or doc i 0 ≡ k → 0 < k → one_of bom k ≡ false → Unmarked
  unmarked i k e h f = (i, stands_in doc i k e h, ap (one_of bom) e ∙ f)

  -- every piece that is whole has one: a `<` or `&`, with which it begins or before which it ends
  ended_unmarked : (from : ℕ) → Ended doc from → Unmarked
  ended_unmarked from (text p _ _ e) = by (found_has FirstFound.At _ _ (text_gives doc from) (text_found doc from) p refl e).among
    where
      by : Among text_ends (get_or doc p 0) → Unmarked
      by (inl l) = unmarked p lt l (omega arith) refl
      by (inr (inl a)) = unmarked p amp a (omega arith) refl
      by (inr (inr x5)) = elim x5 [ ]
  ended_unmarked from (reference _ a _) = unmarked from amp a (omega arith) refl
  ended_unmarked from (tag _ l _ _ _ _) = unmarked from lt l (omega arith) refl
  ended_unmarked from (instruction _ l _ _) = unmarked from lt l (omega arith) refl
  ended_unmarked from (cdata _ l _ _ _) = unmarked from lt l (omega arith) refl
  ended_unmarked from (comment _ l _ _ _) = unmarked from lt l (omega arith) refl
  ended_unmarked from (other l _ _ _ _) = unmarked from lt l (omega arith) refl

  -- so it is known whether a byte order mark is there
  pub begin_same : (from : ℕ) → Ended doc from → begin (doc ++ more) ≡ begin doc
  unfolding begin
  begin_same from w = let u = ended_unmarked from w in rw (begins_stays doc more bom u.0 u.1 u.2)

-- ---- a call

module _ (doc more : List ℕ) (r : Reader) (short : length doc ≤ longest) where
  module _ (n : ℕ) (last : Span) (cap : Depth) (names : last.to ≤ length doc) where
    step_text_same : (from : ℕ) → Closes (drop (skipped doc r.settings from) doc)
        → step_text (doc ++ more) (lengthened n r) last cap from ≡ lengthened_step n (step_text doc r last cap from)
    unfolding step_text
    step_text_same from w =
        let q = skipped doc r.settings from in
        let h : q < length doc = closes_come doc q short w in
        rw (skipped_same doc more r.settings from h, next_same doc more q h (closes_ended doc q short w))
        (taken_same doc more n r last cap names q (cut_next doc q) (next_cut doc q (omega arith)))

    in_same : (p : Phase) → WholeIn doc r p → in_place_in doc r p ≡ true
        → step_in (doc ++ more) (lengthened n r) last cap p ≡ lengthened_step n (step_in doc r last cap p)
    in_same Phase.Init w i =
        rw (begin_same doc more _ (closes_ended doc (skipped doc r.settings (begin doc)) short w)) (step_text_same (begin doc) w)
    in_same Phase.InsideText w i = step_text_same r.position.0 w
    in_same Phase.InsideMarkup w i =
        let q = r.position.0 in
        let h : q < length doc = closes_come doc q short w in
        let l : get_or doc q 0 ≡ lt = eqb-true _ _ i in
        rw (markup_same doc more q l (closes_ended doc q short w))
        (taken_same doc more n r last cap names q (cut_markup doc q) (markup_cut doc q (omega arith) l))
    in_same Phase.InsideRef w i =
        let q = r.position.0 in
        let h : q < length doc = closes_come doc q short w in
        let a : get_or doc q 0 ≡ amp = eqb-true _ _ i in
        rw (reference_same doc more q a (closes_ended doc q short w))
        (taken_same doc more n r last cap names q (cut_ref doc q) (ref_cut doc q (omega arith) a))
    in_same Phase.InsideEmpty w i = empty_same n r last
    in_same Phase.Done w i = ending_same n r last _

    phase_same : Whole doc r → is_in_place doc r ≡ true
        → step_phase (doc ++ more) (lengthened n r) last cap ≡ lengthened_step n (step_phase doc r last cap)
    unfolding step_phase is_in_place
    phase_same w i = in_same r.phase w i

  place_in_same : (n : ℕ) (p : Phase) → WholeIn doc r p → in_place_in (doc ++ more) (lengthened n r) p ≡ in_place_in doc r p
  place_in_same n Phase.Init w = refl
  place_in_same n Phase.InsideText w = refl
  place_in_same n Phase.InsideMarkup w = rw (byte_stays doc more r.position.0 (closes_come doc r.position.0 short w))
  place_in_same n Phase.InsideRef w = rw (byte_stays doc more r.position.0 (closes_come doc r.position.0 short w))
  place_in_same n Phase.InsideEmpty w = refl
  place_in_same n Phase.Done w = refl

  place_same : (n : ℕ) → Whole doc r → is_in_place (doc ++ more) (lengthened n r) ≡ is_in_place doc r
  unfolding is_in_place
  place_same n w = place_in_same n r.phase w

  module _ (stack : List ℕ) (at : Stands doc r) (all : length (doc ++ more) ≤ longest) (w : Whole doc r) where
    sound_same : sound (doc ++ more) stack (lengthened (length (doc ++ more)) r) ≡ sound doc stack r
    unfolding sound
    sound_same =
        rw (
          eq-eqb (length (doc ++ more)) (length (doc ++ more)) refl,
          eq-eqb r.length (length doc) at.own,
          le-leb (length (doc ++ more)) longest all,
          le-leb (length doc) longest short,
          le-leb r.position.0 (length (doc ++ more)) (omega (arith, grows doc more)),
          le-leb r.position.0 (length doc) at.within,
          place_same (length (doc ++ more)) w,
        )

    pub step_same : step (doc ++ more) stack (lengthened (length (doc ++ more)) r) ≡ lengthened_step (length (doc ++ more)) (step doc stack r)
    unfolding step
    step_same =
        rw sound_same
        (picked_same (length (doc ++ more)) (sound doc stack r) _ _ _ _
        (λ e. let s = sound_true doc stack r e in
        phase_same (length (doc ++ more)) (latest stack r.depth.0) (depth_of (capacity (length stack))) (omega arith) w s.in_place)
        (λ _. bad_same (length (doc ++ more)) r))
