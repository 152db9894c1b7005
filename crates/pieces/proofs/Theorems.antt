-- What a reader of document 02 expects of input in pieces. Assumes nothing.
use Prim.Native.Nat.{ℕ, ◌+◌, ◌≤◌, ◌<◌}
use mathlib.Core.Path.{◌≡◌, refl, sym, ap, ap₂, ◌∙◌, subst}
use mathlib.Core.Bool.{true, false}
use mathlib.Core.Logic.{◌↔◌}
use mathlib.Core.List.{List, [], ◌∷◌}
use native.Mathlib.Omega.{arith}
use native.Mathlib.Decide.{dec_lt}
use lib.ListN.{length, get_or}
use lib.Dec.{ltb}
use borrow.Author.Tests.{lt-leb, ltb-true}
use Rattle.ground.specs.Bytes.{amp}
use Rattle.ground.specs.Least.{Gives}
use Rattle.ground.proofs.Choices.{clash}
use Rattle.ground.proofs.Lists.{stands_in}
use Rattle.parser.specs.Machine.{Scan as Course, found, going, feed}
use Rattle.parser.specs.Element.{element_found, TagEnd}
use Rattle.parser.specs.First.{reference_found, text_found, ReferenceEnd, TextEnd}
use Rattle.parser.specs.Marks.{pi_found, comment_found, cdata_found, PiEnd, CommentEnd, CDataEnd}
use Rattle.parser.specs.declared.element.Found.{Found as TagFound}
use Rattle.parser.specs.declared.first.Found.{Found as FirstFound}
use Rattle.parser.specs.declared.marks.Found.{Found as MarksFound}
use Rattle.parser.proofs.Words.{element_gives, pi_gives, comment_gives, cdata_gives, reference_gives, text_gives}
use Rattle.state.specs.Limits.{longest}
use Rattle.state.specs.Values.{numbered_of}
use Rattle.state.specs.declared.answer.Error.{Error}
use Rattle.pieces.specs.declared.scan.Kind.{Kind}
use Rattle.pieces.specs.declared.scan.What.{What}
use Rattle.pieces.specs.declared.scan.State.{State}
use Rattle.pieces.specs.declared.scan.Scan.{Scan}
use Rattle.pieces.specs.declared.scan.Told.{Told}
use Rattle.pieces.specs.declared.scan.Fed.{Fed}
use Rattle.pieces.specs.Kinds.{piece_step}
use Rattle.pieces.specs.Reached.{reached}
use Rattle.pieces.specs.Fed.{answer_of, fed, fresh, refused, told_number}
use Rattle.pieces.specs.Pieces.{joined, fed_all, Fits, tag_fed, marked_fed, first_fed, piece_fed, Reaches}
use Rattle.pieces.proofs.Machine.{feed_bound}
use Rattle.pieces.proofs.Calls.{fed_closed, fed_bad_place, fed_bad_state, fed_long, fed_open}
use Rattle.pieces.proofs.Cutting.{any_cutting, by_test}
use Rattle.pieces.proofs.Whole.{whole_piece, whole_tag, whole_marked, whole_text_lem}
use Rattle.pieces.proofs.Reaching.{passes, passes_reaches, reaches_passes}

-- ---- any cutting

-- However bytes are cut, and whatever scan they are fed to, the last call answers what one call with the uncut bytes answers: what is told, the place, and
-- where the scan stands. Up to the length limit.
pub however_cut_the_answer_is_that_for_the_uncut_bytes : (scan : Scan) (piece : List ℕ) (pieces : List (List ℕ)) → Fits scan (joined (piece ∷ pieces))
    → fed_all scan piece pieces ≡ fed scan (joined (piece ∷ pieces))
however_cut_the_answer_is_that_for_the_uncut_bytes = any_cutting

-- For a fresh scan that is what the scans of `parser` answer over the uncut bytes.
module _ (piece : List ℕ) (pieces : List (List ℕ)) (within : length (joined (piece ∷ pieces)) ≤ longest) where
  abbrev bytes : List ℕ
  bytes = joined (piece ∷ pieces)

  cut : (what : What) → fed_all (fresh what) piece pieces ≡ fed (fresh what) bytes
  cut what = any_cutting (fresh what) piece pieces (omega arith)

  pub a_tag_in_pieces : fed_all (fresh What.Tag) piece pieces ≡ tag_fed (length bytes) (element_found bytes 0)
  a_tag_in_pieces = cut What.Tag ∙ whole_tag bytes within

  pub an_instruction_in_pieces : fed_all (fresh (What.Marked Kind.Pi)) piece pieces ≡ marked_fed Kind.Pi (length bytes) (pi_found bytes 0)
  an_instruction_in_pieces = cut (What.Marked Kind.Pi) ∙ whole_marked bytes within Kind.Pi

  pub a_comment_in_pieces : fed_all (fresh (What.Marked Kind.Comment)) piece pieces ≡ marked_fed Kind.Comment (length bytes) (comment_found bytes 0)
  a_comment_in_pieces = cut (What.Marked Kind.Comment) ∙ whole_marked bytes within Kind.Comment

  pub a_cdata_section_in_pieces : fed_all (fresh (What.Marked Kind.CData)) piece pieces ≡ marked_fed Kind.CData (length bytes) (cdata_found bytes 0)
  a_cdata_section_in_pieces = cut (What.Marked Kind.CData) ∙ whole_marked bytes within Kind.CData

  pub text_in_pieces : fed_all (fresh What.Text) piece pieces ≡ first_fed State.Text (length bytes) (text_found bytes 0)
  text_in_pieces = cut What.Text ∙ whole_text_lem bytes within

  -- and of a piece that its own bytes tell, what the scan answers that they choose
  pub any_piece_in_pieces : fed_all (fresh What.Piece) piece pieces ≡ piece_fed bytes
  any_piece_in_pieces = cut What.Piece ∙ whole_piece bytes within

-- ---- the place, in document 01's words

module _ {A : Type 0} (at : ℕ → A) (tell : A → Told) (to : (p : ℕ) → tell (at p) ≡ Told.At p) (back : (f : A) (p : ℕ) → tell f ≡ Told.At p → f ≡ at p) where
  gives_told : (f : A) (P : ℕ → Type 0) (t : Told) → t ≡ tell f → Gives at f P → Gives Told.At t P
  gives_told f P t e g = subst (λ (t : Told). Gives Told.At t P) (sym e) (record {
    found = λ p. (λ d. (g.found p).0 (back f p d), λ l. ap tell ((g.found p).1 l) ∙ to p);
    none = (λ n. g.none.0 (λ p d. n p (ap tell d ∙ to p)), λ w p d. g.none.1 w p (back f p d));
  })

pub tag_back : (n : ℕ) (f : TagFound) (p : ℕ) → (tag_fed n f).told ≡ Told.At p → f ≡ TagFound.At p
tag_back n (TagFound.At q) p e = ap TagFound.At (cc)
tag_back n (TagFound.Open q) p e = let z : ◌≡◌ {A = ℕ} 0 1 = cc in absurd (omega arith)

pub marked_back : (k : Kind) (n : ℕ) (f : MarksFound) (p : ℕ) → (marked_fed k n f).told ≡ Told.At p → f ≡ MarksFound.At p
marked_back k n (MarksFound.At q) p e = ap MarksFound.At (cc)
marked_back k n (MarksFound.Open m) p e = let z : ◌≡◌ {A = ℕ} 0 1 = cc in absurd (omega arith)

pub first_back : (t : State) (n : ℕ) (f : FirstFound) (p : ℕ) → (first_fed t n f).told ≡ Told.At p → f ≡ FirstFound.At p
first_back t n (FirstFound.At q) p e = ap FirstFound.At (cc)
first_back t n FirstFound.End p e = let z : ◌≡◌ {A = ℕ} 0 1 = cc in absurd (omega arith)

module _ (piece : List ℕ) (pieces : List (List ℕ)) (within : length (joined (piece ∷ pieces)) ≤ longest) where
  abbrev all : List ℕ
  all = joined (piece ∷ pieces)

  marked_place : (k : Kind) (f : MarksFound) (P : ℕ → Type 0) → fed_all (fresh (What.Marked k)) piece pieces ≡ marked_fed k (length all) f
      → Gives MarksFound.At f P → Gives Told.At (fed_all (fresh (What.Marked k)) piece pieces).told P
  marked_place k f P e =
      gives_told MarksFound.At (λ (f : MarksFound). (marked_fed k (length all) f).told) (λ p. refl) (marked_back k (length all)) f P _
      (ap (λ (x : Fed). x.told) e)

  -- "the first `>` outside quotes"
  pub a_tag_is_closed_at_its_end : Gives Told.At (fed_all (fresh What.Tag) piece pieces).told (TagEnd all 0)
  a_tag_is_closed_at_its_end =
      gives_told TagFound.At (λ (f : TagFound). (tag_fed (length all) f).told) (λ p. refl) (tag_back (length all)) (element_found all 0) (TagEnd all 0) _
      (ap (λ (x : Fed). x.told) (a_tag_in_pieces piece pieces within)) (element_gives all 0)

  -- "the first `>` with a `?` just before"
  pub an_instruction_is_closed_at_its_end : Gives Told.At (fed_all (fresh (What.Marked Kind.Pi)) piece pieces).told (PiEnd all 0)
  an_instruction_is_closed_at_its_end =
      marked_place Kind.Pi (pi_found all 0) (PiEnd all 0) (an_instruction_in_pieces piece pieces within) (pi_gives all 0)

  -- "the first `>` at offset 6 or more with `--` just before"
  pub a_comment_is_closed_at_its_end : Gives Told.At (fed_all (fresh (What.Marked Kind.Comment)) piece pieces).told (CommentEnd all 0)
  a_comment_is_closed_at_its_end =
      marked_place Kind.Comment (comment_found all 0) (CommentEnd all 0) (a_comment_in_pieces piece pieces within) (comment_gives all 0)

  -- "the first `>` with `]]` just before"
  pub a_cdata_section_is_closed_at_its_end : Gives Told.At (fed_all (fresh (What.Marked Kind.CData)) piece pieces).told (CDataEnd all 0)
  a_cdata_section_is_closed_at_its_end =
      marked_place Kind.CData (cdata_found all 0) (CDataEnd all 0) (a_cdata_section_in_pieces piece pieces within) (cdata_gives all 0)

  -- "the next `<` or `&`"
  pub text_ends_at_its_end : Gives Told.At (fed_all (fresh What.Text) piece pieces).told (TextEnd all 0)
  text_ends_at_its_end =
      gives_told FirstFound.At (λ (f : FirstFound). (first_fed State.Text (length all) f).told) (λ p. refl) (first_back State.Text (length all))
      (text_found all 0) (TextEnd all 0) _ (ap (λ (x : Fed). x.told) (text_in_pieces piece pieces within)) (text_gives all 0)

-- "the first of `;`, `&`, `<` after" its `&`, in bytes that begin with one
pub a_reference_ends_at_its_end : (piece : List ℕ) (pieces : List (List ℕ)) → length (joined (piece ∷ pieces)) ≤ longest
    → get_or (joined (piece ∷ pieces)) 0 0 ≡ amp
    → Gives Told.At (fed_all (fresh What.Piece) piece pieces).told (ReferenceEnd (joined (piece ∷ pieces)) 0)
a_reference_ends_at_its_end piece pieces within b =
    gives_told FirstFound.At (λ (f : FirstFound). (first_fed State.Reference (length all) f).told) (λ p. refl) (first_back State.Reference (length all))
    (reference_found all 0) (ReferenceEnd all 0) _
    (ap (λ (x : Fed). x.told) (any_piece_in_pieces piece pieces within ∙ chosen))
    (reference_gives all 0)
  where
    all : List ℕ
    all = joined (piece ∷ pieces)

    chosen : piece_fed all ≡ first_fed State.Reference (length all) (reference_found all 0)
    chosen = rw (lt-leb (length all) 0 (stands_in all 0 amp b (omega arith)), b)

-- ---- one call, case by case

-- what a call on a scan comes to: 17; the place again; 16; the place, found now; or none yet
data Ways (scan : Scan) (piece : List ℕ) : Fed → Type 0 where
  bad : passes scan ≡ false → Ways scan piece (refused scan Error.BadState)
  closed : (p : ℕ) → passes scan ≡ true → scan ≡ Scan.Closed p → p < longest → Ways scan piece (record { scan = Scan.Closed p; told = Told.At p })
  long : (n : ℕ) (s : State) → passes scan ≡ true → scan ≡ Scan.Open n s → longest < n + length piece → Ways scan piece (refused scan Error.SliceTooLong)
  finds : (n : ℕ) (s : State) (p : ℕ) → passes scan ≡ true → scan ≡ Scan.Open n s → n + length piece ≤ longest → n ≤ p → p < n + length piece
      → Ways scan piece (record { scan = Scan.Closed p; told = Told.At p })
  goes : (n : ℕ) (s t : State) → passes scan ≡ true → scan ≡ Scan.Open n s → feed piece_step (going s) n piece ≡ going t
      → Ways scan piece (record { scan = Scan.Open (n + length piece) t; told = Told.Open })

on_ways : (n : ℕ) (s : State) (piece : List ℕ) → reached n s ≡ true → n + length piece ≤ longest
    → (c : Course State) → feed piece_step (going s) n piece ≡ c → Ways (Scan.Open n s) piece (answer_of (n + length piece) c)
on_ways n s piece e h (found p) f = let b = feed_bound piece_step s n p piece f in finds n s p e refl h b.0 b.1
on_ways n s piece e h (going t) f = goes n s t e refl f

ways : (scan : Scan) (piece : List ℕ) → Ways scan piece (fed scan piece)
ways (Scan.Closed p) piece =
    by_test (ltb p longest)
    (λ e. let l = ltb-true p longest e in subst (Ways (Scan.Closed p) piece) (sym (fed_closed p piece l)) (closed p e refl l))
    (λ e. subst (Ways (Scan.Closed p) piece) (sym (fed_bad_place p piece e)) (bad e))
ways (Scan.Open n s) piece =
    by_test (reached n s)
    (λ e. elim (dec_lt longest (n + length piece)) [
      | yes l ↦ subst (Ways (Scan.Open n s) piece) (sym (fed_long n s piece e l)) (long n s e refl l)
      | no l ↦ let h : n + length piece ≤ longest = omega arith in
          subst (Ways (Scan.Open n s) piece) (sym (fed_open n s piece e h _ refl)) (on_ways n s piece e h _ refl)
    ])
    (λ e. subst (Ways (Scan.Open n s) piece) (sym (fed_bad_state n s piece e)) (bad e))

-- tellings of different kinds
module _ {A : Type 0} where
  found_refused : (p : ℕ) (e : Error) → Told.At p ≡ Told.Refused e → A
  found_refused p e d = let z : ◌≡◌ {A = ℕ} 0 1 = cc in absurd (omega arith)

  open_refused : (e : Error) → Told.Open ≡ Told.Refused e → A
  open_refused e d = let z : ◌≡◌ {A = ℕ} 0 1 = cc in absurd (omega arith)

  pub found_open : (p : ℕ) → Told.Open ≡ Told.At p → A
  found_open p d = let z : ◌≡◌ {A = ℕ} 0 1 = cc in absurd (omega arith)

  long_bad : Told.Refused Error.SliceTooLong ≡ Told.Refused Error.BadState → A
  long_bad d = let z : ◌≡◌ {A = ℕ} 0 1 = cc in absurd (omega arith)

-- ---- what a call refuses, and what it leaves

module _ (scan : Scan) (piece : List ℕ) where
  -- A refusal leaves the scan as it is.
  pub a_refusal_leaves_the_scan : (error : Error) → (fed scan piece).told ≡ Told.Refused error → (fed scan piece).scan ≡ scan
  a_refusal_leaves_the_scan error = by (fed scan piece) (ways scan piece)
    where
      by : (x : Fed) → Ways scan piece x → x.told ≡ Told.Refused error → x.scan ≡ scan
      by _ (bad e) d = refl
      by _ (closed p e f l) d = found_refused p error d
      by _ (long n s e f l) d = refl
      by _ (finds n s p e f l m k) d = found_refused p error d
      by _ (goes n s t e f g) d = open_refused error d

  -- 17 is for a scan that no feeding leads to, and for no other,
  pub seventeen_is_for_what_no_feeding_leads_to : ((fed scan piece).told ≡ Told.Refused Error.BadState) ↔ (Reaches scan → ⊥)
  seventeen_is_for_what_no_feeding_leads_to = (
    λ d r. clash (passes scan) (reaches_passes scan r) (failed (fed scan piece) (ways scan piece) d),
    λ n. by_test (passes scan) (λ e. absurd (n (passes_reaches scan e))) (λ e. told (fed scan piece) (ways scan piece) e),
  )
    where
      failed : (x : Fed) → Ways scan piece x → x.told ≡ Told.Refused Error.BadState → passes scan ≡ false
      failed _ (bad e) d = e
      failed _ (closed p e f l) d = found_refused p Error.BadState d
      failed _ (long n s e f l) d = long_bad d
      failed _ (finds n s p e f l m k) d = found_refused p Error.BadState d
      failed _ (goes n s t e f g) d = open_refused Error.BadState d

      told : (x : Fed) → Ways scan piece x → passes scan ≡ false → x.told ≡ Told.Refused Error.BadState
      told _ (bad e) d = refl
      told _ (closed p e f l) d = clash (passes scan) e d
      told _ (long n s e f l) d = clash (passes scan) e d
      told _ (finds n s p e f l m k) d = clash (passes scan) e d
      told _ (goes n s t e f g) d = clash (passes scan) e d

  -- and by its number too. What has a number leaves the scan as it is.
  pub the_number_17_is_for_no_other : told_number (fed scan piece).told ≡ (numbered_of Error.BadState).number → Reaches scan → ⊥
  the_number_17_is_for_no_other d r = clash (passes scan) (reaches_passes scan r) (by (fed scan piece) (ways scan piece) d)
    where
      by : (x : Fed) → Ways scan piece x → told_number x.told ≡ (numbered_of Error.BadState).number → passes scan ≡ false
      by _ (bad e) d = e
      by _ (closed p e f l) d = absurd (omega arith)
      by _ (long n s e f l) d = absurd (omega arith)
      by _ (finds n s p e f l m k) d = absurd (omega arith)
      by _ (goes n s t e f g) d = absurd (omega arith)

  pub what_has_a_number_leaves_the_scan : (told_number (fed scan piece).told ≡ 0 → ⊥) → (fed scan piece).scan ≡ scan
  what_has_a_number_leaves_the_scan n = by (fed scan piece) (ways scan piece) n
    where
      by : (x : Fed) → Ways scan piece x → (told_number x.told ≡ 0 → ⊥) → x.scan ≡ scan
      by _ (bad e) d = refl
      by _ (closed p e f l) d = absurd (d refl)
      by _ (long n s e f l) d = refl
      by _ (finds n s p e f l m k) d = absurd (d refl)
      by _ (goes n s t e f g) d = absurd (d refl)

-- 16 for one that is open where the piece would pass the length limit, be the closer within it or not.
pub sixteen_is_for_a_piece_that_would_pass_the_limit : (taken : ℕ) (state : State) (piece : List ℕ)
    → ((fed (Scan.Open taken state) piece).told ≡ Told.Refused Error.SliceTooLong) ↔ (Reaches (Scan.Open taken state) × (longest < taken + length piece))
sixteen_is_for_a_piece_that_would_pass_the_limit taken state piece = (
  by (fed (Scan.Open taken state) piece) (ways (Scan.Open taken state) piece),
  λ h. ap (λ (x : Fed). x.told) (fed_long taken state piece (reaches_passes (Scan.Open taken state) h.0) h.1),
)
  where
    by : (x : Fed) → Ways (Scan.Open taken state) piece x → x.told ≡ Told.Refused Error.SliceTooLong
        → Reaches (Scan.Open taken state) × (longest < taken + length piece)
    by _ (bad e) d = long_bad (sym d)
    by _ (closed p e f l) d = found_refused p Error.SliceTooLong d
    by _ (long n s e f l) d = let m : n ≡ taken = cc in (passes_reaches (Scan.Open taken state) e, omega arith)
    by _ (finds n s p e f l m k) d = found_refused p Error.SliceTooLong d
    by _ (goes n s t e f g) d = open_refused Error.SliceTooLong d

-- After the closer pieces of any length change nothing, and get the same answer.
pub what_is_found_stays_found : (scan : Scan) (piece : List ℕ) (place : ℕ) → (fed scan piece).told ≡ Told.At place
    → (more : List ℕ) → fed (fed scan piece).scan more ≡ fed scan piece
what_is_found_stays_found scan piece place d more = by (fed scan piece) (ways scan piece) d
  where
    by : (x : Fed) → Ways scan piece x → x.told ≡ Told.At place → fed x.scan more ≡ x
    by _ (bad e) d = found_refused place Error.BadState (sym d)
    by _ (closed p e f l) d = fed_closed p more l
    by _ (long n s e f l) d = found_refused place Error.SliceTooLong (sym d)
    by _ (finds n s p e f l m k) d = fed_closed p more (omega arith)
    by _ (goes n s t e f g) d = found_open place d

-- The place is that of one of the bytes that the call was fed, counted from the first byte of all.
pub the_place_is_among_the_bytes : (taken : ℕ) (state : State) (piece : List ℕ) (place : ℕ)
    → (fed (Scan.Open taken state) piece).told ≡ Told.At place → (taken ≤ place) × (place < taken + length piece)
the_place_is_among_the_bytes taken state piece place = by (fed (Scan.Open taken state) piece) (ways (Scan.Open taken state) piece)
  where
    by : (x : Fed) → Ways (Scan.Open taken state) piece x → x.told ≡ Told.At place → (taken ≤ place) × (place < taken + length piece)
    by _ (bad e) d = found_refused place Error.BadState (sym d)
    by _ (closed p e f l) d = let z : ◌≡◌ {A = ℕ} 0 1 = cc in absurd (omega arith)
    by _ (long n s e f l) d = found_refused place Error.SliceTooLong (sym d)
    by _ (finds n s p e f l m k) d = let a : n ≡ taken = cc in let b : p ≡ place = cc in (omega arith, omega arith)
    by _ (goes n s t e f g) d = found_open place d

-- An empty piece changes nothing.
stays : (n : ℕ) (s t : State) → feed piece_step (going s) n [] ≡ going t → s ≡ t
unfolding feed
stays n s t e = cc

pub an_empty_piece_changes_nothing : (scan : Scan) → (fed scan []).scan ≡ scan
an_empty_piece_changes_nothing scan = by (fed scan []) (ways scan [])
  where
    by : (x : Fed) → Ways scan [] x → x.scan ≡ scan
    by _ (bad e) = refl
    by _ (closed p e f l) = sym f
    by _ (long n s e f l) = refl
    by _ (finds n s p e f l m k) = absurd (omega arith)
    by _ (goes n s t e f g) = let m : n + 0 ≡ n = omega arith in ap₂ (λ (k : ℕ) (u : State). Scan.Open k u) m (sym (stays n s t g)) ∙ sym f
