-- NO BYTE SET TWICE, NONE DROPPED (request M-113). Any document within the limit, any settings, any lent stack, any number of calls from a fresh reader. Assumes
-- nothing.
use Prim.Native.Nat.{ℕ, zero, suc, ◌+◌, ◌≤◌, ◌<◌}
use mathlib.Core.Path.{◌≡◌, refl, sym, ap, ◌∙◌, subst}
use mathlib.Core.Logic.{◌⊎◌, inl, inr}
use mathlib.Core.Bool.{true, false}
use mathlib.Core.List.{List, [], ◌∷◌, ◌++◌}
use native.Mathlib.Omega.{arith}
use lib.ListN.{length}
use Rattle.ground.specs.Equal.{begins}
use Rattle.ground.proofs.Choices.{pick_cases, pick_either, pick_neither, clash}
use Rattle.white.specs.White.{WhiteWithin}
use Rattle.state.specs.declared.place.Span.{Span}
use Rattle.state.specs.declared.config.Config.{Config}
use Rattle.state.specs.declared.answer.Answer.{Answer}
use Rattle.state.specs.declared.run.Phase.{Phase}
use Rattle.state.specs.declared.run.Reader.{Reader}
use Rattle.state.specs.declared.run.Step.{Step}
use Rattle.state.specs.Limits.{longest}
use Rattle.state.specs.Place.{span}
use Rattle.state.specs.Values.{values_of}
use Rattle.state.specs.Make.{fresh, bad_state}
use Rattle.reader.specs.Names.{bytes}
use Rattle.reader.specs.Left.{Left}
use Rattle.reader.specs.Step.{bom, begin, step}
use Rattle.reader.proofs.Outside.{Spent, not_done, step_turn}
use Rattle.reader.proofs.Rooms.{any_state}
use Rattle.reader.proofs.Passed.{skip_from, skips_here, bom_bytes}
use Rattle.demands.specs.Run.{World, said, call, run, AtRest}
use Rattle.demands.specs.Answers.{is_eof, is_unclosed, is_ending, count, one_is}
use Rattle.demands.specs.Calls.{Promise, Advances, Calls}
use Rattle.demands.specs.Laid.{What, Laid, laid, gap, skipped_before, layout, pieces, Chained, AmongParts, is_piece, has_byte, SetOnce}
use Rattle.demands.proofs.Clauses.{setting}
use Rattle.demands.proofs.Demand1.{turn, no_init_after_a_call, rest_reader, rest_again, done_and_marked_stays, after_eof}
use Rattle.demands.proofs.Joined.{what_holds_of_a_run_holds_of_calls}
use Rattle.demands.proofs.Layouts.{chained_append, in_order_lem, chained_gap, not_behind, none_behind, once_within, among_append, among_gap, pieces_laid, times_in_pieces, count_reverse}
use Rattle.demands.proofs.Unclosed.{marks_when_told}

-- ---- any state

-- THEOREM: a refusal leaves the reader at the end of its piece, and that where document 01 says for its number; 18 leaves it where the Eof does that it replaces
pub where_a_refusal_leaves_the_reader : (doc stack : List ℕ) (r : Reader)
    → 0 < (values_of (step doc stack r).answer).number → (values_of (step doc stack r).answer).number ≤ 15
    → ((step doc stack r).reader.position.0 ≡ (values_of (step doc stack r).answer).piece.to)
    × Left doc (values_of (step doc stack r).answer).number (values_of (step doc stack r).answer).piece
unfolding bad_state
where_a_refusal_leaves_the_reader doc stack r =
    any_state doc stack r
    (λ (s : Step). 0 < (values_of s.answer).number → (values_of s.answer).number ≤ 15
    → (s.reader.position.0 ≡ (values_of s.answer).piece.to) × Left doc (values_of s.answer).number (values_of s.answer).piece)
    (λ ok some few. let t = step_turn doc stack r ok in (t.left, t.refusal some few))
    (λ some few. absurd (omega arith))

-- ---- a run

module _ (doc stack : List ℕ) (c : Config) (short : length doc ≤ longest) where
  abbrev after : ℕ → World
  after n = run doc stack c n

  abbrev position : ℕ → ℕ
  position n = (after n).reader.position.0

  -- the piece of call n + 1
  abbrev piece : ℕ → Span
  piece n = (values_of (said doc (after n))).piece

  -- what n calls have laid out
  abbrev parts : ℕ → List Laid
  parts n = layout doc (pieces (after n).answers)

  -- where white space may be skipped after a call
  skip_from_the_piece's_end : (n : ℕ) → skip_from doc (position (suc n)) (after (suc n)).reader.phase ≡ (piece n).to
  unfolding run call
  skip_from_the_piece's_end n = by (skips_here doc (position (suc n)) (after (suc n)).reader.phase) ∙ (turn doc stack c short n).left
    where
      by : ((after (suc n)).reader.phase ≡ Phase.Init) ⊎ (skip_from doc (position (suc n)) (after (suc n)).reader.phase ≡ position (suc n))
          → skip_from doc (position (suc n)) (after (suc n)).reader.phase ≡ position (suc n)
      by (inl e) = absurd (no_init_after_a_call doc stack c short n e)
      by (inr e) = e

  skipped_reaches : (n : ℕ) → Chained (position n) (skipped_before doc (pieces (after n).answers) (piece n).from) (piece n).from
  unfolding run call fresh
  skipped_reaches zero =
      chained_append 0 (begin doc) (piece zero).from (gap What.ByteOrderMark 0 (begin doc)) _
      (chained_gap What.ByteOrderMark 0 (begin doc) (omega arith))
      (chained_gap What.WhiteSpace (begin doc) (piece zero).from (turn doc stack c short zero).passed.after)
  skipped_reaches (suc n) =
      let t = turn doc stack c short n in
      rw t.left (chained_gap What.WhiteSpace (piece n).to (piece (suc n)).from (omega (arith, t.left, (turn doc stack c short (suc n)).after)))

  -- the parts of n calls reach the position
  reach : (n : ℕ) → Chained 0 (parts n) (position n)
  unfolding run call fresh layout Chained
  reach zero = refl
  reach (suc n) =
      let t = turn doc stack c short n in
      chained_append 0 (position n) (position (suc n)) (parts n) _ (reach n)
      (chained_append (position n) (piece n).from (position (suc n)) (skipped_before doc (pieces (after n).answers) (piece n).from) _ (skipped_reaches n)
      (refl, t.ordered, sym t.left))

  -- what a part is called, it is
  abbrev Meant : What → Span → Type 0
  Meant What.ByteOrderMark s = (s ≡ span 0 (begin doc)) × ((s ≡ span 0 3) × (bytes doc s ≡ bom))
  Meant What.WhiteSpace s = (c.trim_text_start ≡ true) × WhiteWithin doc s.from s.to
  Meant What.Piece s = Unit {0}

  abbrev AsNamed : Laid → Type 0
  AsNamed x = Meant x.what x.span

  bom_there : 0 < begin doc → (span 0 (begin doc) ≡ span 0 3) × (bytes doc (span 0 (begin doc)) ≡ bom)
  unfolding begin
  bom_there =
      pick_cases (λ (k : ℕ). 0 < k → (span 0 k ≡ span 0 3) × (bytes doc (span 0 k) ≡ bom)) (begins doc bom) _ _
      (λ e _. (refl, bom_bytes doc e))
      (λ _ h. absurd (omega arith))

  bom_is : 0 < begin doc → Meant What.ByteOrderMark (span 0 (begin doc))
  bom_is h = (refl, bom_there h)

  white_is : (n from : ℕ) → skip_from doc (position n) (after n).reader.phase ≡ from → from < (piece n).from → Meant What.WhiteSpace (span from (piece n).from)
  white_is n from e h =
      let p = (turn doc stack c short n).passed in
      (sym (setting doc stack c short n (λ (s : Config). s.trim_text_start) c.trim_text_start refl) ∙ p.asked (omega arith), λ k i j. p.white k (omega arith) j)

  skipped_is : (n : ℕ) (x : Laid) → AmongParts x (skipped_before doc (pieces (after n).answers) (piece n).from) → AsNamed x
  unfolding run call fresh
  skipped_is zero x h = by (among_append x (gap What.ByteOrderMark 0 (begin doc)) _ h)
    where
      by : AmongParts x (gap What.ByteOrderMark 0 (begin doc)) ⊎ AmongParts x (gap What.WhiteSpace (begin doc) (piece zero).from) → AsNamed x
      by (inl i) = let t = among_gap x What.ByteOrderMark 0 (begin doc) i in subst AsNamed (sym t.0) (bom_is t.1)
      by (inr i) = let t = among_gap x What.WhiteSpace (begin doc) (piece zero).from i in subst AsNamed (sym t.0) (white_is zero (begin doc) refl t.1)
  skipped_is (suc n) x h =
      let t = among_gap x What.WhiteSpace (piece n).to (piece (suc n)).from h in
      subst AsNamed (sym t.0) (white_is (suc n) (piece n).to (skip_from_the_piece's_end n) t.1)

  as_named_lem : (n : ℕ) (x : Laid) → AmongParts x (parts n) → AsNamed x
  unfolding run call fresh layout AmongParts
  as_named_lem zero x h = absurd h
  as_named_lem (suc n) x h = by (among_append x (parts n) _ h) (as_named_lem n x)
    where
      now : AmongParts x (skipped_before doc (pieces (after n).answers) (piece n).from) ⊎ ((x ≡ laid What.Piece (piece n)) ⊎ ⊥) → AsNamed x
      now (inl i) = skipped_is n x i
      now (inr (inl e)) = subst AsNamed (sym e) tt
      now (inr (inr i)) = absurd i

      by : AmongParts x (parts n) ⊎ AmongParts x (skipped_before doc (pieces (after n).answers) (piece n).from ++ (laid What.Piece (piece n) ∷ []))
          → (AmongParts x (parts n) → AsNamed x) → AsNamed x
      by (inl i) earlier = earlier i
      by (inr i) earlier = now (among_append x (skipped_before doc (pieces (after n).answers) (piece n).from) _ i)

  position_within : (n : ℕ) → position n ≤ length doc
  unfolding run call fresh
  position_within zero = omega arith
  position_within (suc n) = let t = turn doc stack c short n in omega (arith, t.left, t.within)

  -- THEOREM: no byte is set twice and none is dropped
  pub each_byte_is_set_once : (n : ℕ) → SetOnce doc c (pieces (after n).answers) (position n)
  each_byte_is_set_once n =
      record {
        within = position_within n;
        follow = reach n;
        once = λ place h. once_within place 0 (position n) (parts n) (reach n) (omega arith) h;
        ahead = λ place h. none_behind place 0 (position n) (parts n) (reach n) h;
        order = λ before between behind x y e. in_order_lem (position n) before between behind x y (subst (λ (xs : List Laid). Chained 0 xs (position n)) e (reach n));
        each = pieces_laid doc (pieces (after n).answers);
        white = λ s h. as_named_lem n (laid What.WhiteSpace s) h;
        byte_order_mark = λ s h. (as_named_lem n (laid What.ByteOrderMark s) h).1;
      }

  -- THEOREM: where no white space is skipped every byte behind the byte order mark and before the position is in the piece of exactly one answer
  pub each_byte_is_in_one_piece : c.trim_text_start ≡ false → (n place : ℕ) → begin doc ≤ place → place < position n
      → count (has_byte place) (pieces (after n).answers) ≡ 1
  each_byte_is_in_one_piece off n place from to =
      sym (count_reverse (has_byte place) (pieces (after n).answers))
      ∙ ap (count (has_byte place)) (sym (pieces_laid doc (pieces (after n).answers)))
      ∙ sym (times_in_pieces place (parts n) (λ x i. other x.what x.span (as_named_lem n x i)))
      ∙ (each_byte_is_set_once n).once place to
    where
      -- what is no piece does not have the byte
      other : (what : What) (s : Span) → Meant what s → is_piece what ≡ false → has_byte place s ≡ false
      other What.ByteOrderMark s m bare = not_behind place s (omega (arith, ap (λ (x : Span). x.to) m.0))
      other What.WhiteSpace s m bare = clash _ m.0 off
      other What.Piece s m bare = clash true refl bare

  -- ---- the end

  -- a reader that is done has come to the end of the document, unless a refusal ended the run
  spent : (n : ℕ) → (after n).reader.phase ≡ Phase.Done → one_is is_ending (after n).answers ≡ false → position n ≡ length doc
  unfolding run call fresh one_is
  spent zero d none = absurd (not_done Phase.Init (omega arith) d)
  spent (suc n) d none = by ((turn doc stack c short n).finish.done d) (spent n)
    where
      by : (is_ending (said doc (after n)) ≡ true) ⊎ Spent doc (after n).reader (position (suc n))
          → ((after n).reader.phase ≡ Phase.Done → one_is is_ending (after n).answers ≡ false → position n ≡ length doc) → position (suc n) ≡ length doc
      by (inl on) earlier = clash _ on (pick_neither (is_ending (said doc (after n))) _ none).0
      by (inr (inl e)) earlier = e
      by (inr (inr e)) earlier = e.1 ∙ earlier e.0 (pick_neither (is_ending (said doc (after n))) _ none).1

  -- THEOREM: at Eof, unless a refusal ended the run, the position is the length
  pub at_eof_the_position_is_the_length : (n : ℕ) → one_is is_eof (after n).answers ≡ true → one_is is_ending (after n).answers ≡ false → position n ≡ length doc
  at_eof_the_position_is_the_length n eof none = spent n (after_eof doc stack c short n eof).0 none

  -- THEOREM: so every byte of the document is in exactly one part
  pub at_eof_every_byte_of_the_document_is_set : (n : ℕ) → one_is is_eof (after n).answers ≡ true → one_is is_ending (after n).answers ≡ false
      → SetOnce doc c (pieces (after n).answers) (length doc)
  at_eof_every_byte_of_the_document_is_set n eof none =
      subst (SetOnce doc c (pieces (after n).answers)) (at_eof_the_position_is_the_length n eof none) (each_byte_is_set_once n)

  -- after a refusal that ends the run the reader is done, with the mark on
  module _ (n : ℕ) (ending : is_ending (said doc (after n)) ≡ true) where
    done_then : (after (suc n)).reader.phase ≡ Phase.Done
    unfolding run call
    done_then = (turn doc stack c short n).finish.stops ending

    marked_then : (after (suc n)).reader.mark ≡ true
    marked_then = marks_when_told doc stack c short n (pick_either (is_eof (said doc (after n))) _ (pick_either (is_unclosed (said doc (after n))) _ ending))

    -- THEOREM: so every call after it answers Eof, and changes nothing
    pub after_a_refusal_that_ends_the_run_all_stays : (k : ℕ) → AtRest doc (after (suc n)) (after (k + suc n))
    after_a_refusal_that_ends_the_run_all_stays k = done_and_marked_stays doc stack c short (suc n) done_then marked_then k

  -- where the answers tell of a refusal that ended the run
  record Ended (n : ℕ) (a : Answer) : Type 0 where
    done : (after n).reader.phase ≡ Phase.Done
    marked : (after n).reader.mark ≡ true
    position : position n ≡ (values_of a).piece.to

  ended : (n : ℕ) (later before : List Answer) (a : Answer) → (after n).answers ≡ later ++ (a ∷ before) → is_ending a ≡ true → Ended n a
  unfolding run call
  ended zero [] before a e ending = let z : ◌≡◌ {A = ℕ} 0 1 = cc in absurd (omega arith)
  ended zero (b ∷ later) before a e ending = let z : ◌≡◌ {A = ℕ} 0 1 = cc in absurd (omega arith)
  ended (suc n) [] before a e ending =
      let same : said doc (after n) ≡ a = cc in
      let on : is_ending (said doc (after n)) ≡ true = ap is_ending same ∙ ending in
      record { done = done_then n on; marked = marked_then n on; position = (turn doc stack c short n).left ∙ ap (λ (x : Answer). (values_of x).piece.to) same }
  ended (suc n) (b ∷ later) before a e ending =
      let x = ended n later before a (cc) ending in
      let again = rest_again doc stack c short n x.done x.marked in
      record {
        done = again.0;
        marked = again.1;
        position = ap (λ (r : Reader). r.position.0) (rest_reader doc stack c short n x.done x.marked) ∙ x.position;
      }

  -- THEOREM: where one of the answers is a refusal that ended the run, the position is the end of its piece, and what lies behind it is left
  pub a_refusal_that_ended_the_run_leaves_what_is_behind_it : (n : ℕ) (later before : List Answer) (a : Answer)
      → (after n).answers ≡ later ++ (a ∷ before) → is_ending a ≡ true → position n ≡ (values_of a).piece.to
  a_refusal_that_ended_the_run_leaves_what_is_behind_it n later before a e ending = (ended n later before a e ending).position

-- ---- calls

module _ (Kept : Promise) (advances : Advances Kept) (doc stack : List ℕ) (c : Config) {n : ℕ} {w : World} (calls : Calls Kept doc stack c n w) where
  -- THEOREM: the same over calls of a function that keeps the promise of `advance`
  pub each_byte_is_set_once_over_calls : SetOnce doc c (pieces w.answers) w.reader.position.0
  each_byte_is_set_once_over_calls =
      what_holds_of_a_run_holds_of_calls Kept advances doc stack c (λ (v : World). SetOnce doc c (pieces v.answers) v.reader.position.0) calls
      (λ short. each_byte_is_set_once doc stack c short n)

  -- THEOREM: and at Eof, unless a refusal ended the run, the position is the length
  pub at_eof_the_position_is_the_length_over_calls : one_is is_eof w.answers ≡ true → one_is is_ending w.answers ≡ false → w.reader.position.0 ≡ length doc
  at_eof_the_position_is_the_length_over_calls =
      what_holds_of_a_run_holds_of_calls Kept advances doc stack c
      (λ (v : World). one_is is_eof v.answers ≡ true → one_is is_ending v.answers ≡ false → v.reader.position.0 ≡ length doc) calls
      (λ short. at_eof_the_position_is_the_length doc stack c short n)

  -- THEOREM: where one did, it is the end of its piece
  pub a_refusal_that_ended_the_run_leaves_what_is_behind_it_over_calls : (later before : List Answer) (a : Answer)
      → w.answers ≡ later ++ (a ∷ before) → is_ending a ≡ true → w.reader.position.0 ≡ (values_of a).piece.to
  a_refusal_that_ended_the_run_leaves_what_is_behind_it_over_calls =
      what_holds_of_a_run_holds_of_calls Kept advances doc stack c
      (λ (v : World). (later before : List Answer) (a : Answer) → v.answers ≡ later ++ (a ∷ before) → is_ending a ≡ true → v.reader.position.0 ≡ (values_of a).piece.to) calls
      (λ short. a_refusal_that_ended_the_run_leaves_what_is_behind_it doc stack c short n)
