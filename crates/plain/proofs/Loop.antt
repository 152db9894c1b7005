-- The loop that reads a piece byte by byte: what holds before each byte, and that the answer is the definition's where the piece or the document ends. Assumes nothing.
use Prim.Native.Nat.{ℕ, ◌+◌, ◌-◌, ◌≤◌, ◌<◌}
use mathlib.Core.Path.{◌≡◌, refl, sym, ap, ap₂, ◌∙◌, subst}
use mathlib.Core.List.{List}
use mathlib.Core.Bool.{Bool, true, false, not, ◌&&◌, ◌||◌}
use mathlib.Core.Logic.{◌⊎◌, inl, inr, ⊎_elim}
use native.Mathlib.Omega.{arith}
use native.Mathlib.Decide.{dec_lt}
use lib.ListN.{length, get_or, drop}
use lib.Dec.{eqb}
use borrow.Author.Rules.{rules}
use borrow.Author.Tests.{eq-eqb, eqb-true, eqb-false}
use Rattle.ground.specs.Choose.{pick}
use Rattle.ground.specs.Bytes.{amp, lt}
use Rattle.ground.specs.Equal.{begins as begins_by}
use Rattle.ground.specs.Part.{part}
use Rattle.ground.proofs.Choices.{clash, pick_cases, or_left, or_right}
use Rattle.ground.proofs.Equal.{compare_end, compare_past, compare_other, compare_turn}
use Rattle.ground.proofs.Lists.{part_from}
use Rattle.white.specs.White.{is_white, not_white, until, leading}
use Rattle.white.proofs.Runs.{until_end, until_here, until_next}
use Rattle.state.specs.declared.place.Depth.{Depth}
use Rattle.state.specs.declared.place.Span.{Span}
use Rattle.state.specs.declared.config.Config.{Config}
use Rattle.state.specs.declared.run.Reader.{Reader}
use Rattle.state.specs.declared.run.Step.{Step}
use Rattle.state.specs.Limits.{longest}
use Rattle.reader.specs.Cut.{cut_next}
use Rattle.reader.specs.Step.{bom, begin, skipped, step_text, taken}
use Rattle.plain.specs.declared.known.Part.{Part}
use Rattle.plain.specs.declared.known.Known.{Known}
use Rattle.plain.specs.Asked.{Faces, Readable, read_from}
use Rattle.plain.specs.Known.{next_part, fresh, size_of, ends_in, ends_of, marks, begins, more, tick_of, same_of}
use Rattle.plain.specs.Told.{closed_in, closed_of, unclosed_in, unclosed_of}
use Rattle.plain.proofs.Bytes.{byte_same, of_three}
use Rattle.plain.proofs.Flags.{and_left, and_right, and_both, or_cases}
use Rattle.plain.proofs.Marked.{comment_closed, comment_open, cdata_closed, cdata_open, instruction_closed, instruction_open}
use Rattle.plain.proofs.Means.{Means}
use Rattle.plain.proofs.Tags.{closing_closed, closing_open, opening_closed, opening_open, opened_closed, opened_open}
use Rattle.plain.proofs.Texts.{text_closed, text_open, nothing_open, reference_closed, reference_open, bang_closed, bang_open}
use Rattle.plain.proofs.Tracks.{Tracks, tracks_fresh, tracks_more}
use Rattle.plain.proofs.Turns.{means_next}

-- ---- white space that is skipped

module _ (doc : List ℕ) (c : Config) (from : ℕ) where
  lead_is : (n : ℕ) → until not_white (drop from doc) ≡ n → leading (part doc from (length doc)) ≡ n
  lead_is n e = ap (until not_white) (part_from doc from) ∙ e

  skip_end : length doc ≤ from → skipped doc c from ≡ from
  unfolding skipped
  skip_end h =
      pick_cases (λ (n : ℕ). n ≡ from) c.trim_text_start _ _ (λ e. omega (arith, lead_is 0 (until_end not_white doc from h))) (λ e. refl)

  pub skip_none : from < length doc → (c.trim_text_start && is_white (get_or doc from 0)) ≡ false → skipped doc c from ≡ from
  unfolding skipped
  skip_none h e = by c.trim_text_start e
    where
      by : (t : Bool) → (t && is_white (get_or doc from 0)) ≡ false → pick t (from + leading (part doc from (length doc))) from ≡ from
      by true e = omega (arith, lead_is 0 (until_here not_white doc from h (ap not e)))
      by false e = refl

  skip_one : from < length doc → (c.trim_text_start && is_white (get_or doc from 0)) ≡ true → skipped doc c from ≡ skipped doc c (from + 1)
  unfolding skipped
  skip_one h e = by c.trim_text_start e
    where
      by : (t : Bool) → (t && is_white (get_or doc from 0)) ≡ true
          → pick t (from + leading (part doc from (length doc))) from ≡ pick t (from + 1 + leading (part doc (from + 1) (length doc))) (from + 1)
      by true e =
          let n = until not_white (drop (from + 1) doc) in
          omega (
            arith,
            lead_is (n + 1) (until_next not_white doc from h (ap not e)),
            ap (until not_white) (part_from doc (from + 1)),
          )
      by false e = clash false e refl

-- ---- where the document begins

begin_three : (doc : List ℕ) → begins_by doc bom ≡ true → begin doc ≡ 3
unfolding begin
begin_three doc e = rw e

begin_none : (doc : List ℕ) → begins_by doc bom ≡ false → begin doc ≡ 0
unfolding begin
begin_none doc e = rw e

-- of the mark's bytes none is white space, and none ends text
bom_dark : (i : ℕ) → i < 3 → is_white (get_or bom i 0) ≡ false
bom_dark i h = of_three (λ (n : ℕ). is_white (get_or bom n 0) ≡ false) 0 i (omega arith) h refl refl refl

bom_goes : (i b : ℕ) → i < 3 → (eqb b lt || eqb b amp) ≡ true → b ≡ get_or bom i 0 → ⊥
bom_goes i b h e f = clash (eqb b lt || eqb b amp) e (ap (λ (x : ℕ). eqb x lt || eqb x amp) f ∙ of_three (λ (n : ℕ). (eqb (get_or bom n 0) lt || eqb (get_or bom n 0) amp) ≡ false) 0 i (omega arith) h refl refl refl)

-- ---- what holds before each byte

-- all bytes of the document so far are those of a byte order mark
pub record Marking (doc : List ℕ) (mark : Bool) (origin : ℕ) (k : Known) : Type 0 where
  pub asked : mark ≡ true
  pub start : origin ≡ 0
  pub few : k.at < 3
  pub rest : begins_by doc bom ≡ begins_by (drop k.at doc) (drop k.at bom)
  pub is : ((k.part ≡ Part.Nothing) × (k.at ≡ 0)) ⊎ (k.part ≡ Part.Text)

-- where reading starts by the definition
abbrev pub starts_at : List ℕ → Reader → Bool → ℕ
starts_at doc r mark = pick mark (begin doc) r.position.0

-- `origin` is where it starts, unless more bytes of a byte order mark come
pub record Going (doc : List ℕ) (r : Reader) (open_name : Span) (mark : Bool) (k : Known) : Type 0 where
  pub tracks : Tracks doc open_name k
  pub means : Means doc k k.part
  pub origin : ℕ
  pub link : skipped doc r.settings origin ≡ skipped doc r.settings k.from
  pub firm : k.from < k.at → skipped doc r.settings k.from ≡ k.from
  pub marking : k.mark ≡ true → Marking doc mark origin k
  pub settled : k.mark ≡ false → starts_at doc r mark ≡ origin

module _ (doc : List ℕ) (r : Reader) (open_name : Span) (mark : Bool) (ok : Readable doc r open_name mark) where
  -- a mark that does not go on was none
  start_none : (k : Known) (g : Going doc r open_name mark k) → (k.mark ≡ true → begins_by doc bom ≡ false) → starts_at doc r mark ≡ g.origin
  start_none k g no-mark = by k.mark refl
    where
      by : (x : Bool) → k.mark ≡ x → starts_at doc r mark ≡ g.origin
      by true e =
          let m = g.marking e in
          ap (λ (x : Bool). pick x (begin doc) r.position.0) m.asked ∙ begin_none doc (no-mark e) ∙ sym m.start
      by false e = g.settled e

  fresh_means : (at : ℕ) (x : Bool) → Means doc (fresh at x) (fresh at x).part
  unfolding fresh
  fresh_means at x = (refl, refl, refl)

  going_fresh : Going doc r open_name mark (fresh r.position.0 mark)
  unfolding fresh
  going_fresh =
      record {
        tracks = tracks_fresh doc open_name r.position.0 mark ok.in_doc;
        means = fresh_means r.position.0 mark;
        origin = r.position.0;
        link = refl;
        firm = λ h. absurd (omega arith);
        marking = λ e. record {
          asked = e;
          start = ok.first e;
          few = omega (arith, ok.first e);
          rest = ap (λ (i : ℕ). begins_by (drop i doc) (drop i bom)) (sym (ok.first e));
          is = inl (refl, ok.first e);
        };
        settled = λ e. ap (λ (x : Bool). pick x (begin doc) r.position.0) e;
      }

  pub going_start : (k : Known) → k ≡ fresh r.position.0 mark → Going doc r open_name mark k
  going_start k e = subst (Going doc r open_name mark) (sym e) going_fresh

  -- ---- a byte more

  module _ (k : Known) (g : Going doc r open_name mark k) (l : k.at < length doc) where
    abbrev b : ℕ
    b = get_or doc k.at 0

    abbrev trims : Bool
    trims = r.settings.trim_text_start

    -- the two tests of `begins`: the byte is the last of a byte order mark, or white space that is skipped
    abbrev last_mark : Bool
    last_mark = marks k b && eqb k.at 2

    abbrev skips : Bool
    skips = (eqb (size_of k) 0 && trims) && is_white b

    -- the byte is not the next of a byte order mark
    mark_ends : marks k b ≡ false → k.mark ≡ true → begins_by doc bom ≡ false
    mark_ends e f =
        let m = g.marking f in
        sym (compare_other (begins_by doc bom) doc bom k.at k.at m.rest m.few l
        (λ q. clash (eqb (get_or bom k.at 0) b) (eq-eqb (get_or bom k.at 0) b (sym q)) (ap (λ (x : Bool). x && eqb (get_or bom k.at 0) b) (sym f) ∙ e)))

    -- or it is
    module _ (e : marks k b ≡ true) where
      marking_so : Marking doc mark g.origin k
      marking_so = g.marking (and_left k.mark (eqb (get_or bom k.at 0) b) e)

      mark_byte : b ≡ get_or bom k.at 0
      mark_byte = sym (eqb-true (get_or bom k.at 0) b (and_right k.mark (eqb (get_or bom k.at 0) b) e))

      mark_rest : begins_by doc bom ≡ begins_by (drop (k.at + 1) doc) (drop (k.at + 1) bom)
      mark_rest = compare_turn (begins_by doc bom) doc bom k.at k.at marking_so.rest marking_so.few l mark_byte

    -- behind a byte order mark
    after_mark : marks k b ≡ true → eqb k.at 2 ≡ true → starts_at doc r mark ≡ k.at + 1
    after_mark e f =
        let two = eqb-true k.at 2 f in
        let all = compare_end (begins_by doc bom) doc bom (k.at + 1) (k.at + 1) (mark_rest e) (omega arith) in
        ap (λ (x : Bool). pick x (begin doc) r.position.0) (marking_so e).asked ∙ begin_three doc (sym all) ∙ omega arith

    -- a piece may begin behind the byte
    fresh_next : (origin : ℕ) → skipped doc r.settings origin ≡ skipped doc r.settings (k.at + 1) → starts_at doc r mark ≡ origin
        → Going doc r open_name mark (fresh (k.at + 1) false)
    unfolding fresh
    fresh_next origin f e =
        record {
          tracks = tracks_fresh doc open_name (k.at + 1) false (omega arith);
          means = fresh_means (k.at + 1) false;
          origin = origin;
          link = f;
          firm = λ h. absurd (omega arith);
          marking = λ x. clash false x refl;
          settled = λ x. e;
        }

    skip_next : eqb (size_of k) 0 ≡ true → (trims && is_white b) ≡ true → marks k b ≡ false → Going doc r open_name mark (fresh (k.at + 1) false)
    skip_next e f n =
        let z : k.from ≡ k.at = omega (arith, eqb-true (size_of k) 0 e, g.tracks.low) in
        fresh_next g.origin (g.link ∙ ap (skipped doc r.settings) z ∙ skip_one doc r.settings k.at l f) (start_none k g (mark_ends n))

    -- the piece's first byte is not skipped
    firm_next : begins k b trims ≡ false → k.from < k.at + 1 → skipped doc r.settings k.from ≡ k.from
    firm_next e h =
        elim (dec_lt k.from k.at) [
          | yes x ↦ g.firm x
          | no x ↦
              let z : k.from ≡ k.at = omega arith in
              let w : eqb (size_of k) 0 ≡ true = eq-eqb (size_of k) 0 (omega arith) in
              ap (skipped doc r.settings) z
              ∙ skip_none doc r.settings k.at l (ap (λ (y : Bool). (y && trims) && is_white b) (sym w) ∙ or_right last_mark skips e)
              ∙ sym z
        ]

    -- the byte order mark goes on
    marking_next : (same : Bool) → begins k b trims ≡ false → marks k b ≡ true → Marking doc mark g.origin (more k b same)
    unfolding more
    marking_next same e f =
        let m = marking_so f in
        let n = eqb-false k.at 2 (ap (λ (y : Bool). y && eqb k.at 2) (sym f) ∙ or_left last_mark skips e) in
        record {
          asked = m.asked;
          start = m.start;
          few = omega (arith, m.few);
          rest = mark_rest f;
          is = inr (⊎_elim (λ u. ap₂ next_part u.0 (mark_byte f ∙ byte_same bom k.at 0 u.1)) (λ u. ap (λ (p : Part). next_part p b) u) m.is);
        }

    more_next : (same : Bool) → same ≡ same_of doc k open_name b → ends_of k b ≡ false → begins k b trims ≡ false → Going doc r open_name mark (more k b same)
    unfolding more ends_of
    more_next same q f e =
        record {
          tracks = tracks_more doc open_name k l g.tracks same q;
          means = means_next doc open_name k g.tracks l same k.part refl g.means f;
          origin = g.origin;
          link = g.link;
          firm = firm_next e;
          marking = marking_next same e;
          settled = λ x. start_none k g (mark_ends x);
        }

    marks_off : is_white b ≡ true → marks k b ≡ false
    marks_off w = by (marks k b) refl
      where
        by : (x : Bool) → marks k b ≡ x → marks k b ≡ false
        by false e = e
        by true e = clash (is_white b) w (ap is_white (mark_byte e) ∙ bom_dark k.at (marking_so e).few)

    skip_any : skips ≡ true → Going doc r open_name mark (fresh (k.at + 1) false)
    skip_any x =
        let w = and_right (eqb (size_of k) 0 && trims) (is_white b) x in
        let y = and_left (eqb (size_of k) 0 && trims) (is_white b) x in
        skip_next (and_left (eqb (size_of k) 0) trims y) (and_both trims (is_white b) (and_right (eqb (size_of k) 0) trims y) w) (marks_off w)

    pub going_tick : (next : Known) (trim same ends : Bool) → ends ≡ ends_of k b → ends ≡ false → same ≡ same_of doc k open_name b → trim ≡ r.settings.trim_text_start
        → next ≡ tick_of k b trim same → Going doc r open_name mark next
    unfolding tick_of
    going_tick next trim same ends ee en q tr e =
        subst (Going doc r open_name mark) (sym (e ∙ ap (λ (x : Bool). pick (begins k b x) (fresh (k.at + 1) false) (more k b same)) tr))
        (pick_cases (Going doc r open_name mark) (begins k b trims) _ _
        (λ x. ⊎_elim (λ u. fresh_next (k.at + 1) refl (after_mark (and_left (marks k b) (eqb k.at 2) u) (and_right (marks k b) (eqb k.at 2) u))) skip_any
        (or_cases last_mark skips x))
        (λ x. more_next same q (sym ee ∙ en) x))

  -- ---- the piece ends

  -- the definition starts to cut where the piece begins
  module _ (k : Known) (g : Going doc r open_name mark k) (room : Depth) (x : Step) where
    cuts : starts_at doc r mark ≡ g.origin → skipped doc r.settings k.from ≡ k.from → x ≡ taken doc r open_name room (cut_next doc k.from) → x ≡ read_from doc r open_name room mark
    unfolding read_from step_text
    cuts e f h = h ∙ ap (λ (n : ℕ). taken doc r open_name room (cut_next doc n)) (sym (ap (skipped doc r.settings) e ∙ g.link ∙ f))

    -- with a byte
    module _ (l : k.at < length doc) where
      closed_part : (p : Part) → k.part ≡ p → Means doc k p → ends_in k (get_or doc k.at 0) p ≡ true
          → closed_in r k open_name room (get_or doc k.at 0) p ≡ taken doc r open_name room (cut_next doc k.from)
      closed_part Part.Nothing e m f = clash false f refl
      closed_part Part.Text e m f = text_closed doc r open_name room k g.tracks l e m f
      closed_part Part.Reference e m f = reference_closed doc r open_name room k g.tracks l e m f
      closed_part Part.Opened e m f = opened_closed doc r open_name room k g.tracks l e m f
      closed_part Part.Bang e m f = bang_closed doc r open_name room k g.tracks l m f
      closed_part Part.Comment e m f = comment_closed doc r open_name room k g.tracks l e m f
      closed_part Part.CData e m f = cdata_closed doc r open_name room k g.tracks l e m f
      closed_part Part.Instruction e m f = instruction_closed doc r open_name room k g.tracks l e m f
      closed_part Part.Closing e m f = closing_closed doc r open_name room k g.tracks ok.ordered (omega (arith, ok.behind, ok.in_doc)) l e m f
      closed_part Part.Opening e m f = opening_closed doc r open_name room k g.tracks l e m f

      -- something was read of it
      some_read : (p : Part) → Means doc k p → ends_in k (get_or doc k.at 0) p ≡ true → k.from < k.at
      some_read Part.Nothing m f = clash false f refl
      some_read Part.Text m f = m.0
      some_read Part.Reference m f = m.0
      some_read Part.Opened m f = omega (arith, m.size)
      some_read Part.Bang m f = omega (arith, m.size)
      some_read Part.Comment m f = omega (arith, m.size)
      some_read Part.CData m f = omega (arith, m.size)
      some_read Part.Instruction m f = omega (arith, m.size)
      some_read Part.Closing m f = omega (arith, m.0.size)
      some_read Part.Opening m f = omega (arith, m.0.size)

      -- and it was no byte order mark
      text_byte : (p : Part) → p ≡ Part.Text → ends_in k (get_or doc k.at 0) p ≡ true → (eqb (get_or doc k.at 0) lt || eqb (get_or doc k.at 0) amp) ≡ true
      text_byte p e f = ap (ends_in k (get_or doc k.at 0)) (sym e) ∙ f

      unmarked : ends_in k (get_or doc k.at 0) k.part ≡ true → k.mark ≡ true → begins_by doc bom ≡ false
      unmarked f e =
          let m = g.marking e in
          ⊎_elim (λ u. clash false (ap (ends_in k (get_or doc k.at 0)) (sym u.0) ∙ f) refl)
          (λ u. sym (compare_other (begins_by doc bom) doc bom k.at k.at m.rest m.few l (bom_goes k.at (get_or doc k.at 0) m.few (text_byte k.part u f))))
          m.is

      pub going_closed : (ends : Bool) → ends ≡ ends_of k (get_or doc k.at 0) → ends ≡ true → x ≡ closed_of r k open_name room (get_or doc k.at 0) → x ≡ read_from doc r open_name room mark
      unfolding ends_of closed_of
      going_closed ends ee e h =
          let f = sym ee ∙ e in
          cuts (start_none k g (unmarked f)) (g.firm (some_read k.part g.means f)) (h ∙ closed_part k.part refl g.means f)

    -- with the document
    module _ (l : length doc ≤ k.at) where
      all_read : k.at ≡ length doc
      all_read = omega (arith, g.tracks.high)

      open_part : (p : Part) → k.part ≡ p → Means doc k p → unclosed_in r k open_name room p ≡ taken doc r open_name room (cut_next doc k.from)
      open_part Part.Nothing e m = nothing_open doc r open_name room k g.tracks all_read e m
      open_part Part.Text e m = text_open doc r open_name room k g.tracks all_read e m
      open_part Part.Reference e m = reference_open doc r open_name room k g.tracks all_read e m
      open_part Part.Opened e m = opened_open doc r open_name room k g.tracks all_read e m
      open_part Part.Bang e m = bang_open doc r open_name room k g.tracks all_read m
      open_part Part.Comment e m = comment_open doc r open_name room k g.tracks all_read e m
      open_part Part.CData e m = cdata_open doc r open_name room k g.tracks all_read e m
      open_part Part.Instruction e m = instruction_open doc r open_name room k g.tracks all_read e m
      open_part Part.Closing e m = closing_open doc r open_name room k g.tracks all_read e m
      open_part Part.Opening e m = opening_open doc r open_name room k g.tracks all_read e m

      open_firm : skipped doc r.settings k.from ≡ k.from
      open_firm =
          elim (dec_lt k.from k.at) [
            | yes h ↦ g.firm h
            | no h ↦ skip_end doc r.settings k.from (omega (arith, g.tracks.low))
          ]

      open_unmarked : k.mark ≡ true → begins_by doc bom ≡ false
      open_unmarked e = let m = g.marking e in sym (compare_past (begins_by doc bom) doc bom k.at k.at m.rest m.few l)

      pub going_open : x ≡ unclosed_of r k open_name room → x ≡ read_from doc r open_name room mark
      unfolding unclosed_of
      going_open h = cuts (start_none k g open_unmarked) open_firm (h ∙ open_part k.part refl g.means)

-- ---- what is asked on the way

pub at_below : (doc : List ℕ) (r : Reader) (open_name : Span) (mark : Bool) (k : Known) → Readable doc r open_name mark → k.at < length doc → k.at < longest
at_below doc r open_name mark k ok l = omega (arith, ok.short)

pub faces_there : (doc : List ℕ) (r : Reader) (open_name : Span) (mark : Bool) (k : Known) → Readable doc r open_name mark → k.at < length doc → Faces k open_name
faces_there doc r open_name mark k ok l =
    record { read = omega (arith, ok.short); behind = omega (arith, ok.behind, ok.in_doc, ok.short); ordered = ok.ordered }

pub tick_less : (n b : ℕ) (k next : Known) (trim same : Bool) → next ≡ tick_of k b trim same → k.at < n → n - next.at < n - k.at
unfolding tick_of fresh more
tick_less n b k next trim same e l =
    let f : next.at ≡ k.at + 1 = ap (λ (x : Known). x.at) e ∙ pick_cases (λ (x : Known). x.at ≡ k.at + 1) (begins k b trim) _ _ (λ y. refl) (λ y. refl) in
    omega arith

pub ruleset goings = (rules, going_start, going_tick, going_closed, going_open, at_below, faces_there, tick_less)
