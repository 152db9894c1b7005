-- One call on a sound state, seen from outside: what every law on many calls goes by. A new kind of answer or another place of a refusal is shown to be
-- such a turn here, once, and the laws above stand. Assumes nothing.
use Prim.Native.Nat.{ℕ, ◌+◌, ◌-◌, ◌≤◌, ◌<◌}
use mathlib.Core.Path.{◌≡◌, refl, sym, ap, ◌∙◌}
use mathlib.Core.List.{List, []}
use mathlib.Core.Logic.{◌⊎◌, inl, inr}
use mathlib.Core.Bool.{true, false}
use native.Mathlib.Omega.{arith}
use lib.ListN.{length, drop, get_or}
use lib.Dec.{eqb, leb, ltb}
use borrow.Author.Tests.{eq-eqb, ne_eqb, eqb-true, eqb-false, ltb-true, ltb-false, lt-ltb}
use Rattle.ground.specs.Bytes.{gt, lt}
use Rattle.ground.specs.Choose.{pick}
use Rattle.ground.specs.Equal.{begins, same}
use Rattle.ground.specs.Part.{part}
use Rattle.ground.proofs.Choices.{pick_cases, clash, both, not_true, not_false}
use Rattle.ground.proofs.Equal.{same_is}
use Rattle.ground.proofs.Lists.{part_end}
use Rattle.white.specs.White.{is_white, name_len}
use Rattle.white.proofs.Runs.{until_within}
use Rattle.utf8.specs.Utf8.{check, by_utf8, Octets}
use Rattle.utf8.specs.declared.Utf8.{Utf8}
use Rattle.utf8.proofs.Rfc.{well_formed}
use Rattle.utf8.proofs.Places.{octets_nothing, ill_here, ill_first}
use Rattle.parser.specs.Hyphens.{pair_found}
use Rattle.parser.proofs.Cases.{first_cases}
use Rattle.parser.proofs.Words.{pair_first, pair_behind, pair_nowhere}
use Rattle.state.specs.declared.place.Position.{Position}
use Rattle.state.specs.declared.place.Span.{Span}
use Rattle.state.specs.declared.config.Config.{Config}
use Rattle.state.specs.declared.answer.Kind.{Kind}
use Rattle.state.specs.declared.answer.Event.{Event}
use Rattle.state.specs.declared.answer.Error.{Error}
use Rattle.state.specs.declared.answer.Answer.{Answer}
use Rattle.state.specs.declared.run.Phase.{Phase}
use Rattle.state.specs.declared.run.Reader.{Reader}
use Rattle.state.specs.declared.run.Step.{Step}
use Rattle.state.specs.Place.{at, span, size, depth_of, inner}
use Rattle.state.specs.Limits.{capacity}
use Rattle.state.specs.Values.{kind_number, numbered_of, values_of, ends_run, turns_on}
use Rattle.state.specs.Make.{event, moved, with_depth, marked, told, ended, refused, stopped, refuses_end, ending}
use Rattle.state.proofs.Numbers.{no_number}
use Rattle.state.proofs.Refused.{owed, owed_few, owed_marked, owed_less}
use Rattle.state.proofs.Spans.{inner_lies, fits}
use Rattle.emit.specs.Text.{text_content, emit_text, emit_last_text}
use Rattle.emit.specs.Reference.{emit_ref, emit_dangling}
use Rattle.emit.specs.Bang.{comment_opener, cdata_opener, bang_event, checked_comment, emit_comment, emit_cdata, TwoHyphens, FirstPair}
use Rattle.emit.specs.Question.{is_decl, question_event, emit_question_mark}
use Rattle.emit.specs.End.{end_event, unmatched, differs, matched, emit_end, close_expanded_empty}
use Rattle.emit.specs.Start.{slashed, tag, opening, emit_start}
use Rattle.reader.specs.declared.piece.Shape.{Shape}
use Rattle.reader.specs.declared.piece.Piece.{Piece}
use Rattle.reader.specs.declared.piece.Cut.{Cut}
use Rattle.reader.specs.Left.{Left, at_start, after_bracket, after_piece}
use Rattle.reader.specs.Names.{latest, name_of, bytes}
use Rattle.reader.specs.Sound.{in_place_in, is_in_place, sound}
use Rattle.reader.specs.Step.{emitted_as, emitted, checked, taken, step_text, begin, step_in, step_phase, step, FirstIll}
use Rattle.reader.proofs.Cuts.{fewest, Edges, Lands, Plain, PlainError, StopError, Lies, CutOff, CutAt, next_cut, markup_cut, ref_cut}
use Rattle.reader.proofs.Passed.{skip_from, PassesOver, begin_within, passes_nothing, passes_white, skipped_within}
use Rattle.reader.proofs.States.{sound_true, markup_at, ref_at}

-- ---- what there is to see

-- a bound on the calls until the reader is done
abbrev pub rank_at : List ℕ → ℕ → Phase → ℕ
rank_at doc position Phase.Init = length doc + 1
rank_at doc position Phase.InsideText = length doc - position + 1
rank_at doc position Phase.InsideMarkup = length doc - position + 1
rank_at doc position Phase.InsideRef = length doc - position + 1
rank_at doc position Phase.InsideEmpty = length doc - position + 2
rank_at doc position Phase.Done = 0

abbrev pub rank : List ℕ → Reader → ℕ
rank doc r = rank_at doc r.position.0 r.phase

-- and one on those until the next is Eof, which falls with each call
abbrev pub due : List ℕ → Reader → ℕ
due doc r = rank doc r + owed r

-- an answer that says nothing of names
abbrev pub Quiet : Answer → Type 0
Quiet a = ((values_of a).kind ≡ kind_number Kind.Start → ⊥) × ((values_of a).kind ≡ kind_number Kind.End → ⊥) × Plain (values_of a).number

-- what a Start tells of its tag
pub record Tagged (doc : List ℕ) (s : Step) : Type 0 where
  pub ordered : (values_of s.answer).content.from ≤ (values_of s.answer).content.to
  pub within : (values_of s.answer).content.to ≤ s.reader.position.0
  pub named : (values_of s.answer).name ≡ name_len (bytes doc (values_of s.answer).content)
  pub opens : get_or doc (values_of s.answer).piece.from 0 ≡ lt
  pub starts : (values_of s.answer).content.from ≡ (values_of s.answer).piece.from + 1
  pub expands : slashed doc (values_of s.answer).piece ≡ true → s.reader.phase ≡ Phase.InsideEmpty

-- what a call does to the names, of which there is room for `cap`, and of which `last` is the latest
pub data Named (doc : List ℕ) (cap : ℕ) (last : Span) (r : Reader) (s : Step) : Type 0 where
  keeps : Quiet s.answer → s.reader.depth.0 ≡ r.depth.0 → Named doc cap last r s
  opens : (values_of s.answer).kind ≡ kind_number Kind.Start → r.depth.0 < cap → s.reader.depth.0 ≡ r.depth.0 + 1 → Tagged doc s → Named doc cap last r s
  closes : (values_of s.answer).kind ≡ kind_number Kind.End → 0 < r.depth.0 → s.reader.depth.0 ≡ r.depth.0 - 1
      → (r.settings.check_end_names ≡ true → bytes doc (values_of s.answer).content ≡ bytes doc last) → Named doc cap last r s
  mismatches : (values_of s.answer).number ≡ 10 → 0 < r.depth.0 → s.reader.depth.0 ≡ r.depth.0 - 1 → r.settings.check_end_names ≡ true
      → (values_of s.answer).expected ≡ last → (bytes doc (values_of s.answer).found ≡ bytes doc last → ⊥) → Named doc cap last r s
  closes_nothing : (values_of s.answer).kind ≡ kind_number Kind.End → r.depth.0 ≡ 0 → s.reader.depth.0 ≡ 0 → r.settings.allow_unmatched_ends ≡ true → Named doc cap last r s
  unmatches : (values_of s.answer).number ≡ 11 → r.depth.0 ≡ 0 → s.reader.depth.0 ≡ 0 → r.settings.allow_unmatched_ends ≡ false → Named doc cap last r s

-- what a call says of a comment: 9 for two hyphens in it, at the first of the first two, and a Comment where they are looked for and there are none
pub record Commented (doc : List ℕ) (r : Reader) (a : Answer) : Type 0 where
  pub refused : (values_of a).number ≡ 9 → (r.settings.check_comments ≡ true) × FirstPair doc (inner (values_of a).piece 4 3) (values_of a).place
  pub passed : (values_of a).kind ≡ kind_number Kind.Comment → r.settings.check_comments ≡ true → TwoHyphens doc (inner (values_of a).piece 4 3) → ⊥

-- what a call says of UTF-8: the piece of an event is well formed, and any after which reading goes on; 13 is told at the first ill-formed byte of its piece
pub record Encoded (doc : List ℕ) (s : Step) : Type 0 where
  pub event : 0 < (values_of s.answer).kind → Octets (bytes doc (values_of s.answer).piece)
  pub going : (s.reader.phase ≡ Phase.Done → ⊥) → Octets (bytes doc (values_of s.answer).piece)
  pub ill : (values_of s.answer).number ≡ 13 → FirstIll doc (values_of s.answer).piece (values_of s.answer).place

-- nothing is left to read: the document ends there, or the reader was done there before
abbrev pub Spent : List ℕ → Reader → ℕ → Type 0
Spent doc r to = (to ≡ length doc) ⊎ ((r.phase ≡ Phase.Done) × (to ≡ r.position.0))

-- what a call says of the end: Eof where it is not refused, 18 where it is, at the latest open name; the reader is done after either, and after a refusal that
-- ends the run. It is done after no other, unless nothing is left to read. And what a call does to the mark
pub record Finished (doc : List ℕ) (last : Span) (r : Reader) (s : Step) : Type 0 where
  pub over : (values_of s.answer).kind ≡ kind_number Kind.Eof → (s.reader.phase ≡ Phase.Done) × (refuses_end r ≡ false)
  pub unclosed : (values_of s.answer).number ≡ 18 → (s.reader.phase ≡ Phase.Done) × (refuses_end r ≡ true) × ((values_of s.answer).place ≡ last.from)
  pub stops : ends_run (values_of s.answer).number ≡ true → s.reader.phase ≡ Phase.Done
  pub done : s.reader.phase ≡ Phase.Done → (ends_run (values_of s.answer).number ≡ true) ⊎ Spent doc r s.reader.position.0
  pub mark : s.reader.mark ≡ pick (turns_on s.answer) true r.mark

pub record Turned (doc : List ℕ) (cap : ℕ) (last : Span) (r : Reader) (s : Step) : Type 0 where
  pub size : s.reader.length ≡ r.length
  pub settings : s.reader.settings ≡ r.settings
  -- the answer's piece lies between the two positions, and ends at the second
  pub after : r.position.0 ≤ (values_of s.answer).piece.from
  pub ordered : (values_of s.answer).piece.from ≤ (values_of s.answer).piece.to
  pub left : s.reader.position.0 ≡ (values_of s.answer).piece.to
  pub within : (values_of s.answer).piece.to ≤ length doc
  pub passed : PassesOver doc r (values_of s.answer).piece.from
  pub in_place : is_in_place doc s.reader ≡ true
  pub falls : due doc s.reader ≤ due doc r - 1
  pub finish : Finished doc last r s
  -- where a refusal leaves the reader; 16 and 17 are no answers on a sound state, and 18 has the piece of an Eof
  pub refusal : 0 < (values_of s.answer).number → (values_of s.answer).number ≤ 15 → Left doc (values_of s.answer).number (values_of s.answer).piece
  pub names : Named doc cap last r s
  pub comment : Commented doc r s.answer
  pub encoding : Encoded doc s

-- ---- the two ways to answer

-- a piece that starts after what was read and ends in the document, with what is passed over before it
record Fits (doc : List ℕ) (r : Reader) (piece : Span) : Type 0 where
  pub after : r.position.0 ≤ piece.from
  pub ordered : piece.from ≤ piece.to
  pub within : piece.to ≤ length doc
  pub passed : PassesOver doc r piece.from

-- a well-formed one with bytes, where the reader is not done
record Some (doc : List ℕ) (r : Reader) (piece : Span) : Type 0 where
  pub has : piece.from < piece.to
  pub near : length doc - piece.from + 1 ≤ rank doc r
  pub whole : Octets (bytes doc piece)

-- a kind of event that says nothing of names, and is neither Eof nor a Comment
abbrev Silent : Kind → Type 0
Silent k =
    (kind_number k ≡ kind_number Kind.Start → ⊥)
    × (kind_number k ≡ kind_number Kind.End → ⊥)
    × (kind_number k ≡ kind_number Kind.Eof → ⊥)
    × (kind_number k ≡ kind_number Kind.Comment → ⊥)

-- what is to be known of an event that is a Comment
abbrev Unpaired : List ℕ → Reader → Span → Kind → Type 0
Unpaired doc r piece k = kind_number k ≡ kind_number Kind.Comment → r.settings.check_comments ≡ true → TwoHyphens doc (inner piece 4 3) → ⊥

-- and of a refusal that is 9 or 13
abbrev Placed : List ℕ → Reader → Span → Error → Position → Type 0
Placed doc r piece error place =
    ((numbered_of error).number ≡ 9 → (r.settings.check_comments ≡ true) × FirstPair doc (inner piece 4 3) place.0)
    × ((numbered_of error).number ≡ 13 → FirstIll doc piece place.0)

-- the same reader but for phase, position, depth and mark
record Like (r b : Reader) : Type 0 where
  pub size : b.length ≡ r.length
  pub settings : b.settings ≡ r.settings

-- and the mark is the same too
record Twin (r b : Reader) : Type 0 where
  pub like : Like r b
  pub mark : b.mark ≡ r.mark

-- a phase in which b may go on at `to`
record Next (doc : List ℕ) (r b : Reader) (to : ℕ) (next : Phase) : Type 0 where
  pub in_place : in_place_in doc (moved b next to) next ≡ true
  pub falls : rank_at doc to next + owed b ≤ due doc r - 1

twin_itself : (r : Reader) → Twin r r
twin_itself r = record { like = record { size = refl; settings = refl }; mark = refl }

like_marked : (r : Reader) → Like r (marked r)
unfolding marked
like_marked r = record { size = refl; settings = refl }

-- with no more names open
twin_owed : (r b : Reader) → Twin r b → b.depth.0 ≤ r.depth.0 → owed b ≤ owed r
twin_owed r b t d = owed_less r b t.like.settings t.mark d

-- a phase in which there is a call to come
pub not_done : (p : Phase) → 1 ≤ rank_at [] 0 p → p ≡ Phase.Done → ⊥
not_done p h e = let z : rank_at [] 0 p ≡ 0 = ap (rank_at [] 0) e in omega arith

-- ---- names

module _ (doc : List ℕ) (c : Config) (last name : Span) where
  agrees : differs doc c last name ≡ false → c.check_end_names ≡ true → bytes doc name ≡ bytes doc last
  unfolding differs
  agrees e on = sym ((same_is (bytes doc last) (bytes doc name)).0 (not_false _ (simp on at e)))

  disagrees : differs doc c last name ≡ true → (c.check_end_names ≡ true) × (bytes doc name ≡ bytes doc last → ⊥)
  unfolding differs
  disagrees e =
      let t = both _ _ e in
      (t.0, λ q. clash _ ((same_is (bytes doc last) (bytes doc name)).1 (sym q)) (not_true _ t.1))

-- one that ends in `/>` has three bytes at least
slashed_long : (doc : List ℕ) (piece : Span) → slashed doc piece ≡ true → piece.from + 2 < piece.to
unfolding slashed inner
slashed_long doc piece e =
    let t : (inner piece 1 1).from < (inner piece 1 1).to = ltb-true _ _ (both _ _ e).0 in
    pick_cases (λ (x : Span). x.from < x.to → piece.from + 2 < piece.to) (leb (piece.from + 1 + 1) piece.to) _ _
    (λ _ h. omega arith)
    (λ _ h. absurd (omega arith))
    t

-- ---- one piece

module _ (doc : List ℕ) (cap : ℕ) (last : Span) (r : Reader) (piece : Span) (f : Fits doc r piece) where
  abbrev Turn : Step → Type 0
  Turn = Turned doc cap last r

  abbrev Names : Step → Type 0
  Names = Named doc cap last r

  abbrev Leaves : Error → Type 0
  Leaves error = Left doc (numbered_of error).number piece

  told_turn : (b : Reader) (kind : Kind) (content : Span) (name : ℕ) (next : Phase) → Like r b → Next doc r b piece.to next
      → Octets (bytes doc piece) → Finished doc last r (told b (event kind piece content name) next) → Unpaired doc r piece kind
      → Names (told b (event kind piece content name) next) → Turn (told b (event kind piece content name) next)
  unfolding told moved is_in_place refuses_end
  told_turn b kind content name next l n w o u k =
      record {
        size = l.size;
        settings = l.settings;
        after = f.after;
        ordered = f.ordered;
        left = refl;
        within = f.within;
        passed = f.passed;
        in_place = n.in_place;
        falls = n.falls;
        finish = o;
        refusal = λ some few. absurd (omega arith);
        names = k;
        comment = record { refused = λ e. absurd (omega arith); passed = u };
        encoding = record { event = λ _. w; going = λ _. w; ill = λ e. absurd (omega arith) };
      }

  refused_turn : (b : Reader) (error : Error) (place : Position) (next : Phase) → Like r b → Next doc r b piece.to next
      → ((next ≡ Phase.Done → ⊥) → Octets (bytes doc piece)) → Finished doc last r (refused b error place piece next) → Placed doc r piece error place
      → ((numbered_of error).number ≤ 15 → Leaves error) → Names (refused b error place piece next) → Turn (refused b error place piece next)
  unfolding refused moved is_in_place refuses_end
  refused_turn b error place next l n w o p q k =
      record {
        size = l.size;
        settings = l.settings;
        after = f.after;
        ordered = f.ordered;
        left = refl;
        within = f.within;
        passed = f.passed;
        in_place = n.in_place;
        falls = n.falls;
        finish = o;
        refusal = λ some few. q few;
        names = k;
        comment = record { refused = p.0; passed = λ e. absurd (omega arith) };
        encoding = record { event = λ e. absurd (omega arith); going = w; ill = p.1 };
      }

  -- a phase that comes next is Done only where nothing is left to read
  abbrev Ends : Phase → Type 0
  Ends next = next ≡ Phase.Done → Spent doc r piece.to

  lands_ends : (next : Phase) → Lands doc piece.to next → Ends next
  lands_ends Phase.Init l e = absurd l
  lands_ends Phase.InsideText l e = absurd (not_done _ (omega arith) e)
  lands_ends Phase.InsideMarkup l e = absurd (not_done _ (omega arith) e)
  lands_ends Phase.InsideRef l e = absurd (not_done _ (omega arith) e)
  lands_ends Phase.InsideEmpty l e = absurd l
  lands_ends Phase.Done l e = inl l

  text_ends_lem : Ends Phase.InsideText
  text_ends_lem = lands_ends Phase.InsideText tt

  -- an answer that is not of the end, and keeps the mark
  told_on : (b : Reader) (kind : Kind) (content : Span) (name : ℕ) (next : Phase) → Twin r b → (kind_number kind ≡ kind_number Kind.Eof → ⊥)
      → Ends next → Finished doc last r (told b (event kind piece content name) next)
  unfolding told moved
  told_on b kind content name next t n d =
      record { over = λ e. absurd (n e); unclosed = λ e. absurd (omega arith); stops = λ e. clash false e refl; done = λ e. inr (d e); mark = rw (ne_eqb (kind_number kind) (kind_number Kind.Eof) n) t.mark }

  refused_on : (b : Reader) (error : Error) (place : Position) (next : Phase) → Twin r b → ((numbered_of error).number ≡ 18 → ⊥) → ends_run (numbered_of error).number ≡ false
      → Ends next → Finished doc last r (refused b error place piece next)
  unfolding refused moved
  refused_on b error place next t n off d =
      record { over = λ e. absurd (omega arith); unclosed = λ e. absurd (n e); stops = λ e. clash _ e off; done = λ e. inr (d e); mark = rw (ne_eqb (numbered_of error).number 18 n, off) t.mark }

  -- one that ends the run
  stopped_off : (error : Error) (place : Position) → ((numbered_of error).number ≡ 18 → ⊥) → ends_run (numbered_of error).number ≡ true
      → Finished doc last r (refused (marked r) error place piece Phase.Done)
  unfolding refused moved marked
  stopped_off error place n on =
      record { over = λ e. absurd (omega arith); unclosed = λ e. absurd (n e); stops = λ _. refl; done = λ _. inl on; mark = rw (ne_eqb (numbered_of error).number 18 n, on) refl }

  -- the phases that come next
  to_end : Next doc r (marked r) piece.to Phase.Done
  to_end = record { in_place = refl; falls = omega (arith, owed_marked r) }

  -- where there is something to read
  to_done : length doc - piece.from + 1 ≤ rank doc r → Next doc r r piece.to Phase.Done
  to_done near = record { in_place = refl; falls = omega (arith, near) }

  -- a piece with bytes
  module _ (some : Some doc r piece) where
    to_text : (b : Reader) → owed b ≤ owed r → Next doc r b piece.to Phase.InsideText
    to_text b m = record { in_place = refl; falls = omega (arith, f, some) }

    to_next : (next : Phase) → Lands doc piece.to next → Next doc r r piece.to next
    unfolding moved
    to_next Phase.Init l = absurd l
    to_next Phase.InsideText l = to_text r (omega arith)
    to_next Phase.InsideMarkup l = record { in_place = eq-eqb _ _ l; falls = omega (arith, f, some) }
    to_next Phase.InsideRef l = record { in_place = eq-eqb _ _ l; falls = omega (arith, f, some) }
    to_next Phase.InsideEmpty l = absurd l
    to_next Phase.Done l = to_done some.near

  -- ---- an answer that says nothing of names

  told_quiet : (kind : Kind) (content : Span) (name : ℕ) (next : Phase) → Next doc r r piece.to next → Ends next → Octets (bytes doc piece) → Silent kind
      → Turn (told r (event kind piece content name) next)
  unfolding told moved
  told_quiet kind content name next n d w q =
      told_turn r kind content name next (twin_itself r).like n w (told_on r kind content name next (twin_itself r) q.2 d) (λ e. absurd (q.3 e)) (keeps (q.0, q.1, omega arith) refl)

  refused_quiet : (error : Error) (place : Position) (next : Phase) → Next doc r r piece.to next → Ends next → ((next ≡ Phase.Done → ⊥) → Octets (bytes doc piece))
      → PlainError error → ends_run (numbered_of error).number ≡ false → Leaves error → Turn (refused r error place piece next)
  unfolding refused moved
  refused_quiet error place next n d w p off q =
      refused_turn r error place next (twin_itself r).like n w (refused_on r error place next (twin_itself r) p.3 off d) (λ e. absurd (p.1 e), λ e. absurd (p.2 e)) (λ _. q)
      (keeps (λ e. omega arith, λ e. omega arith, p.0) refl)

  stopped_quiet : (error : Error) (place : Position) → StopError error → Leaves error → Turn (stopped r error place piece)
  unfolding stopped refused moved marked
  stopped_quiet error place p q =
      refused_turn (marked r) error place Phase.Done (like_marked r) to_end (λ n. absurd (n refl)) (stopped_off error place p.0.3 p.1)
      (λ e. absurd (p.0.1 e), λ e. absurd (p.0.2 e)) (λ _. q) (keeps (λ e. omega arith, λ e. omega arith, p.0.0) refl)

  -- ---- the end

  eof_turn : Octets (bytes doc piece) → Spent doc r piece.to → refuses_end r ≡ false → Turn (ended r piece)
  unfolding ended told moved marked
  eof_turn w d e =
      told_turn (marked r) Kind.Eof _ 0 Phase.Done (like_marked r) to_end w
      (record { over = λ _. (refl, e); unclosed = λ e. absurd (omega arith); stops = λ e. clash false e refl; done = λ _. inr d; mark = refl }) (λ e. absurd (omega arith)) (keeps (omega arith) refl)

  -- 18
  unclosed_turn : Spent doc r piece.to → refuses_end r ≡ true → Turn (stopped r Error.UnclosedElements (at last.from) piece)
  unfolding stopped refused moved marked
  unclosed_turn d e =
      refused_turn (marked r) Error.UnclosedElements _ Phase.Done (like_marked r) to_end (λ n. absurd (n refl))
      (record { over = λ e. absurd (omega arith); unclosed = λ _. (refl, e, refl); stops = λ e. clash false e refl; done = λ _. inr d; mark = refl }) (λ e. absurd (omega arith), λ e. absurd (omega arith)) (λ few. absurd (omega arith)) (keeps (omega arith) refl)

  end_turn : Octets (bytes doc piece) → Spent doc r piece.to → Turn (ending r last piece)
  unfolding ending
  end_turn w d = pick_cases Turn (refuses_end r) _ _ (λ e. unclosed_turn d e) (λ e. eof_turn w d e)

  -- ---- text, references, comments, CDATA, processing instructions

  last_turn : length doc - piece.from + 1 ≤ rank doc r → Octets (bytes doc piece) → piece.to ≡ length doc → Turn (emit_last_text doc r last piece)
  unfolding emit_last_text emit_text
  last_turn near w l =
      pick_cases Turn (eqb (size (text_content doc r.settings piece)) 0) _ _
      (λ _. end_turn w (inl l))
      (λ _. told_quiet Kind.Text _ 0 Phase.Done (to_done near) (λ _. inl l) w (omega arith))

  module _ (some : Some doc r piece) where
    text_turn : (next : Phase) → Lands doc piece.to next → Turn (emit_text doc r piece next)
    unfolding emit_text
    text_turn next l = told_quiet Kind.Text _ 0 next (to_next some next l) (lands_ends next l) some.whole (omega arith)

    dangling_turn : (next : Phase) → Lands doc piece.to next → Turn (emit_dangling r piece next)
    unfolding emit_dangling
    dangling_turn next l =
        pick_cases Turn r.settings.allow_dangling_amp _ _
        (λ _. told_quiet Kind.Text piece 0 next (to_next some next l) (lands_ends next l) some.whole (omega arith))
        (λ _. refused_quiet Error.UnclosedReference _ next (to_next some next l) (lands_ends next l) (λ _. some.whole) (omega arith) refl (after_piece (omega arith) (omega arith) some.has))

    -- an event after which text goes on
    plain_turn : (kind : Kind) (content : Span) (name : ℕ) → Silent kind → Turn (told r (event kind piece content name) Phase.InsideText)
    plain_turn kind content name q = told_quiet kind content name Phase.InsideText (to_text some r (omega arith)) text_ends_lem some.whole q

    ref_turn : Turn (emit_ref r piece)
    unfolding emit_ref
    ref_turn = plain_turn Kind.GeneralRef _ 0 (omega arith)

    bang_turn : (kind : Kind) (content : Span) → Silent kind → Turn (bang_event r kind piece content)
    unfolding bang_event
    bang_turn kind content q = plain_turn kind content 0 q

    -- a Comment, where it is known what its hyphens are
    remark_turn : (content : Span) → (r.settings.check_comments ≡ true → TwoHyphens doc (inner piece 4 3) → ⊥) → Turn (bang_event r Kind.Comment piece content)
    unfolding bang_event told moved
    remark_turn content u =
        told_turn r Kind.Comment content 0 Phase.InsideText (twin_itself r).like (to_text some r (omega arith)) some.whole (told_on r Kind.Comment content 0 Phase.InsideText (twin_itself r) (λ e. omega arith) text_ends_lem)
        (λ _. u) (keeps (omega arith) refl)

    -- one whose hyphens are looked for
    checked_turn : r.settings.check_comments ≡ true → Turn (checked_comment doc r piece (inner piece 4 3))
    unfolding checked_comment refused moved
    checked_turn on =
        let from : ℕ = (inner piece 4 3).from in
        let to : ℕ = (inner piece 4 3).to in
        first_cases Turn (pair_found doc from) _ _
        (λ p e. pick_cases Turn (ltb to p) _ _
        (λ t. remark_turn _ (λ _ h. pair_behind doc from to p e (ltb-true to p t) h.0 h.1))
        (λ t. refused_turn r Error.DoubleHyphenInComment _ Phase.InsideText (twin_itself r).like (to_text some r (omega arith)) (λ _. some.whole)
        (refused_on r Error.DoubleHyphenInComment _ Phase.InsideText (twin_itself r) (λ e. omega arith) refl text_ends_lem)
        (λ _. (on, pair_first doc from to p e (ltb-false to p t)), λ e. absurd (omega arith)) (λ _. after_piece (omega arith) (omega arith) some.has) (keeps (omega arith) refl)))
        (λ e. remark_turn _ (λ _ h. pair_nowhere doc from to e h.0 h.1))

    comment_turn : get_or doc (piece.to - 1) 0 ≡ gt → Turn (emit_comment doc r piece)
    unfolding emit_comment
    comment_turn g =
        pick_cases Turn (begins (drop piece.from doc) comment_opener) _ _
        (λ _. pick_cases Turn r.settings.check_comments _ _ (λ on. checked_turn on) (λ off. remark_turn _ (λ on. clash _ on off)))
        (λ _. stopped_quiet Error.UnclosedComment _ (omega arith, refl) (after_bracket (omega arith) (omega arith) some.has g))

    cdata_turn : get_or doc (piece.to - 1) 0 ≡ gt → Turn (emit_cdata doc r piece)
    unfolding emit_cdata
    cdata_turn g =
        pick_cases Turn (begins (drop piece.from doc) cdata_opener) _ _
        (λ _. bang_turn Kind.CData _ (omega arith))
        (λ _. stopped_quiet Error.UnclosedCData _ (omega arith, refl) (after_bracket (omega arith) (omega arith) some.has g))

    question_turn : get_or doc (piece.to - 1) 0 ≡ gt → Turn (emit_question_mark doc r piece)
    unfolding emit_question_mark question_event
    question_turn g =
        pick_cases Turn (ltb (size piece) 4) _ _
        (λ _. stopped_quiet Error.UnclosedPI _ (omega arith, refl) (after_bracket (omega arith) (omega arith) some.has g))
        (λ _. pick_cases (λ (e : Event). Turn (told r e Phase.InsideText)) (is_decl (bytes doc (inner piece 2 2))) _ _
        (λ _. plain_turn Kind.Decl _ 3 (omega arith))
        (λ _. plain_turn Kind.PI _ _ (omega arith)))

    -- ---- closing tags

    module _ (name : Span) where
      stray_turn : r.depth.0 ≡ 0 → r.settings.allow_unmatched_ends ≡ true → Turn (end_event r piece name)
      unfolding end_event told moved
      stray_turn z on =
          told_turn r Kind.End name _ Phase.InsideText (twin_itself r).like (to_text some r (omega arith)) some.whole
          (told_on r Kind.End name _ Phase.InsideText (twin_itself r) (λ e. omega arith) text_ends_lem) (λ e. absurd (omega arith)) (closes_nothing refl z z on)

      unmatched_turn : r.depth.0 ≡ 0 → Turn (unmatched r piece name)
      unfolding unmatched refused moved
      unmatched_turn z =
          pick_cases Turn r.settings.allow_unmatched_ends _ _
          (λ on. stray_turn z on)
          (λ off. refused_turn r (Error.UnmatchedEndTag name) _ Phase.InsideText (twin_itself r).like (to_text some r (omega arith)) (λ _. some.whole)
          (refused_on r (Error.UnmatchedEndTag name) _ Phase.InsideText (twin_itself r) (λ e. omega arith) refl text_ends_lem)
          (λ e. absurd (omega arith), λ e. absurd (omega arith)) (λ _. after_piece (omega arith) (omega arith) some.has) (unmatches refl z z off))

      -- b has one name fewer
      module _ (z : 0 < r.depth.0) (b : Reader) (l : Twin r b) (d : b.depth.0 ≡ r.depth.0 - 1) where
        onward : Next doc r b piece.to Phase.InsideText
        onward = to_text some b (twin_owed r b l (omega arith))

        closed_turn : (r.settings.check_end_names ≡ true → bytes doc name ≡ bytes doc last) → Turn (end_event b piece name)
        unfolding end_event told moved
        closed_turn same =
            told_turn b Kind.End name _ Phase.InsideText l.like onward some.whole (told_on b Kind.End name _ Phase.InsideText l (λ e. omega arith) text_ends_lem)
            (λ e. absurd (omega arith)) (closes refl z d same)

        matched_turn : Turn (matched doc b last piece name)
        unfolding matched refused moved
        matched_turn =
            let on = ap (λ (c : Config). c.check_end_names) l.like.settings in
            pick_cases Turn (differs doc b.settings last name) _ _
            (λ e. let x = disagrees doc b.settings last name e in
            refused_turn b (Error.MismatchedEndTag last name) _ Phase.InsideText l.like onward (λ _. some.whole)
            (refused_on b (Error.MismatchedEndTag last name) _ Phase.InsideText l (λ e. omega arith) refl text_ends_lem) (λ e. absurd (omega arith), λ e. absurd (omega arith))
            (λ _. after_piece (omega arith) (omega arith) some.has) (mismatches refl z d (sym on ∙ x.0) refl x.1))
            (λ e. closed_turn (λ h. agrees doc b.settings last name e (on ∙ h)))

    close_turn : Turn (emit_end doc r last piece)
    unfolding emit_end with_depth
    close_turn =
        pick_cases Turn (eqb r.depth.0 0) _ _
        (λ e. unmatched_turn _ (eqb-true _ _ e))
        (λ e. let n : r.depth.0 ≡ 0 → ⊥ = eqb-false _ _ e in
        matched_turn _ (omega arith) _ (record { like = record { size = refl; settings = refl }; mark = refl }) refl)

    -- ---- opening tags

    to_empty : (b : Reader) → b.depth.0 ≡ r.depth.0 + 1 → piece.from + 2 < piece.to → Next doc r b piece.to Phase.InsideEmpty
    unfolding moved
    to_empty b d h = record { in_place = lt-ltb 0 b.depth.0 (omega arith); falls = omega (arith, f, some, owed_few b) }

    -- a tag that begins with `<` and has a byte more, and what is answered where there is no room for its name
    module _ (bracket : get_or doc piece.from 0 ≡ lt) (two : piece.from + 2 ≤ piece.to) (full : Turn (stopped r Error.NameStackFull (at piece.from) (span piece.from piece.from))) where
      module _ (content : Span) (next : Phase) (n : (b : Reader) → b.depth.0 ≡ r.depth.0 + 1 → Next doc r b piece.to next) (d : Ends next)
          (first : content.from ≡ piece.from + 1) (o : content.from ≤ content.to) (w : content.to ≤ piece.to) (x : slashed doc piece ≡ true → next ≡ Phase.InsideEmpty) where
        -- b has one name more
        added_turn : (b : Reader) → Twin r b → b.depth.0 ≡ r.depth.0 + 1 → r.depth.0 < cap
            → Turn (told b (event Kind.Start piece content (name_len (bytes doc content))) next)
        unfolding told moved
        added_turn b l more room =
            told_turn b Kind.Start content _ next l.like (n b more) some.whole (told_on b Kind.Start content _ next l (λ e. omega arith) d) (λ e. absurd (omega arith))
            (opens refl room more (record { ordered = o; within = w; named = refl; opens = bracket; starts = first; expands = x }))

        opened_turn : Turn (opening r (depth_of cap) (tag doc Kind.Start piece content) next)
        unfolding opening tag with_depth
        opened_turn =
            pick_cases Turn (ltb r.depth.0 cap) _ _
            (λ e. added_turn _ (record { like = record { size = refl; settings = refl }; mark = refl }) refl (ltb-true _ _ e))
            (λ _. full)

      start_turn : Turn (emit_start doc r (depth_of cap) piece)
      unfolding emit_start tag
      start_turn =
          pick_cases Turn (slashed doc piece) _ _
          (λ e. pick_cases Turn r.settings.expand_empty_elements _ _
          (λ _. let i = inner_lies piece 1 2 f.ordered in
          let long = slashed_long doc piece e in
          opened_turn _ Phase.InsideEmpty (λ b d. to_empty b d long) (λ e. absurd (not_done Phase.InsideEmpty (omega arith) e)) (inner_first 2 (omega arith)) i.0 i.1 (λ _. refl))
          (λ _. plain_turn Kind.Empty _ _ (omega arith)))
          (λ e. let i = inner_lies piece 1 1 f.ordered in
          opened_turn _ Phase.InsideText (λ b d. record { in_place = refl; falls = omega (arith, f, some, owed_few b) }) text_ends_lem (inner_first 1 (omega arith)) i.0 i.1 (λ t. clash _ t e))
        where
          inner_first : (back : ℕ) → piece.from + 1 + back ≤ piece.to → (inner piece 1 back).from ≡ piece.from + 1
          inner_first back h = ap (λ (x : Span). x.from) (sym (fits piece 1 back (omega arith) (omega arith) (omega arith)))

-- ---- the call

-- what holds of each case of the UTF-8 check holds of the choice by it
pub utf8_cases : {A : Type 0} (M : A → Type 0) (u : Utf8) (a : A) (f : ℕ → A) → (u ≡ Utf8.WellFormed → M a) → ((p : ℕ) → u ≡ Utf8.IllFormed p → M (f p))
    → M (by_utf8 u a f)
utf8_cases M Utf8.WellFormed a f g h = g refl
utf8_cases M (Utf8.IllFormed p) a f g h = h p refl

-- a place where the call may cut its piece off
record From (doc : List ℕ) (r : Reader) (from : ℕ) : Type 0 where
  pub after : r.position.0 ≤ from
  pub within : from ≤ length doc
  pub near : length doc - from + 1 ≤ rank doc r
  pub passed : PassesOver doc r from

lies_fits : (doc : List ℕ) (r : Reader) (from : ℕ) (piece : Span) → From doc r from → Lies doc from piece → Fits doc r piece
lies_fits doc r from piece f l =
    record { after = omega (arith, f, l); ordered = omega (arith, l); within = l.within; passed = rw l.starts f.passed }

module _ (doc : List ℕ) (cap : ℕ) (last : Span) (r : Reader) where
  abbrev Turns : Step → Type 0
  Turns = Turned doc cap last r

  full_turn : (piece : Span) → Fits doc r piece → Turns (stopped r Error.NameStackFull (at piece.from) (span piece.from piece.from))
  full_turn piece f =
      stopped_quiet doc cap last r (span piece.from piece.from)
      (record { after = f.after; ordered = omega arith; within = omega (arith, f); passed = f.passed })
      Error.NameStackFull _ (omega arith, refl) (at_start (inr (inr refl)) refl)

  -- 13
  ill_turn : (piece : Span) → Fits doc r piece → piece.from < piece.to → (p : ℕ) → FirstIll doc piece p → Turns (stopped r Error.Encoding (at p) piece)
  unfolding stopped refused moved marked
  ill_turn piece f some p x =
      refused_turn doc cap last r piece f (marked r) Error.Encoding (at p) Phase.Done (like_marked r) (to_end doc cap last r piece f) (λ n. absurd (n refl))
      (stopped_off doc cap last r piece f Error.Encoding (at p) (λ e. omega arith) refl) (λ e. absurd (omega arith), λ _. x)
      (λ _. after_piece (omega arith) (omega arith) some) (keeps (omega arith) refl)

  module _ (piece : Span) (f : Fits doc r piece) (near : length doc - piece.from + 1 ≤ rank doc r) (whole : Octets (bytes doc piece)) where
    some : piece.from + 1 ≤ piece.to → Some doc r piece
    some m = record { has = omega arith; near = near; whole = whole }

    emitted_turn : (shape : Shape) (next : Phase) → piece.from + fewest shape ≤ piece.to → Edges doc piece.from piece.to shape → Lands doc piece.to next
        → Turns (emitted_as doc r last (depth_of cap) shape piece next)
    emitted_turn Shape.Text next m o l = text_turn doc cap last r piece f (some m) next l
    emitted_turn Shape.LastText next m o l = last_turn doc cap last r piece f near whole o
    emitted_turn Shape.GeneralRef next m o l = ref_turn doc cap last r piece f (some m)
    emitted_turn Shape.Dangling next m o l = dangling_turn doc cap last r piece f (some m) next l
    emitted_turn Shape.Comment next m o l = comment_turn doc cap last r piece f (some m) o.1
    emitted_turn Shape.CData next m o l = cdata_turn doc cap last r piece f (some m) o.1
    emitted_turn Shape.QuestionMark next m o l = question_turn doc cap last r piece f (some m) o.1
    emitted_turn Shape.End next m o l = close_turn doc cap last r piece f (some m)
    emitted_turn Shape.Start next m o l = start_turn doc cap last r piece f (some (omega arith)) o m (full_turn piece f)

  piece_turn : (from : ℕ) (p : Piece) → From doc r from → CutOff doc from p → Turns (checked doc r last (depth_of cap) p)
  unfolding checked emitted
  piece_turn from p f c =
      let fits : Fits doc r p.span = lies_fits doc r from _ f c.lies in
      utf8_cases Turns (check p.span.from (bytes doc p.span)) _ _
      (λ e. emitted_turn p.span fits (rw c.lies.starts f.near) ((well_formed p.span.from (bytes doc p.span)).0 e)
      p.shape p.next (rw c.lies.starts c.moves) (rw c.lies.starts c.edges) c.lands)
      (λ ill e. let here = ill_here doc p.span.from p.span.to fits.within c.border fits.ordered ill e in
      ill_turn p.span fits (omega (arith, here.after, here.before)) ill (ill_first doc p.span.from p.span.to ill here))

  taken_turn : (from : ℕ) (c : Cut) → From doc r from → CutAt doc from c → Turns (taken doc r last (depth_of cap) c)
  unfolding taken
  taken_turn from (Cut.Piece p) f c = piece_turn from p f c
  taken_turn from (Cut.Stop x) f c = stopped_quiet doc cap last r x.piece (lies_fits doc r from _ f c.lies) x.error _ c.plain c.left

  -- ---- the phases

  -- "go on as text" from a place
  text_from_lem : (from : ℕ) → From doc r from → skip_from doc r.position.0 r.phase ≡ from → Turns (step_text doc r last (depth_of cap) from)
  unfolding step_text
  text_from_lem from f e =
      let w = skipped_within doc r.settings from f.within in
      let p = passes_white doc r from e in
      taken_turn _ _ (record { after = omega (arith, f, p.after); within = w; near = omega (arith, f, p.after); passed = p }) (next_cut doc _ w)

  module _ (in_doc : r.position.0 ≤ length doc) (ok : is_in_place doc r ≡ true) where
    -- the piece with no bytes where the reader stands
    nothing : Octets (part doc r.position.0 r.position.0)
    nothing = octets_nothing doc r.position.0 in_doc

    -- where the reader stands, and text may begin
    module _ (e : skip_from doc r.position.0 r.phase ≡ r.position.0) where
      here : Fits doc r (span r.position.0 r.position.0)
      here = record { after = omega arith; ordered = omega arith; within = in_doc; passed = passes_nothing doc r r.position.0 e }

      -- with a rank as in text
      stands : length doc - r.position.0 + 1 ≤ rank doc r → From doc r r.position.0
      stands h = record { after = omega arith; within = in_doc; near = h; passed = passes_nothing doc r r.position.0 e }

    from_start : r.phase ≡ Phase.Init → From doc r (begin doc)
    unfolding is_in_place
    from_start e =
        let z : r.position.0 ≡ 0 = eqb-true _ _ (both _ _ (simp e at ok)).0 in
        record { after = omega arith; within = begin_within doc; near = rw e (omega arith); passed = passes_nothing doc r (begin doc) (ap (skip_from doc r.position.0) e) }

    module _ (e : r.phase ≡ Phase.InsideEmpty) where
      -- b has one name fewer
      expanded_end : (b : Reader) → Twin r b → b.depth.0 ≡ r.depth.0 - 1 → Turns (end_event b (span r.position.0 r.position.0) last)
      unfolding end_event told moved is_in_place
      expanded_end b l d =
          let z : 0 < r.depth.0 = ltb-true _ _ (simp e at ok) in
          let two : rank doc r ≡ length doc - r.position.0 + 2 = ap (rank_at doc r.position.0) e in
          let s = ap (skip_from doc r.position.0) e in
          told_turn doc cap last r (span r.position.0 r.position.0) (here s) b Kind.End last _
          Phase.InsideText l.like (record { in_place = refl; falls = omega (arith, two, twin_owed r b l (omega arith)) }) nothing
          (told_on doc cap last r (span r.position.0 r.position.0) (here s) b Kind.End last _ Phase.InsideText l (λ e. omega arith) (text_ends_lem doc cap last r (span r.position.0 r.position.0) (here s))) (λ e. absurd (omega arith))
          (closes refl z d (λ _. refl))

      expanded_turn : Turns (close_expanded_empty r last)
      unfolding close_expanded_empty with_depth
      expanded_turn = expanded_end _ (record { like = record { size = refl; settings = refl }; mark = refl }) refl

    phase_turn : (p : Phase) → r.phase ≡ p → Turns (step_in doc r last (depth_of cap) p)
    phase_turn Phase.Init e = text_from_lem (begin doc) (from_start e) (ap (skip_from doc r.position.0) e)
    phase_turn Phase.InsideText e = let s = ap (skip_from doc r.position.0) e in text_from_lem r.position.0 (stands s (rw e (omega arith))) s
    phase_turn Phase.InsideMarkup e =
        taken_turn _ _ (stands (ap (skip_from doc r.position.0) e) (rw e (omega arith))) (markup_cut doc r.position.0 in_doc (markup_at doc r ok e))
    phase_turn Phase.InsideRef e =
        taken_turn _ _ (stands (ap (skip_from doc r.position.0) e) (rw e (omega arith))) (ref_cut doc r.position.0 in_doc (ref_at doc r ok e))
    phase_turn Phase.InsideEmpty e = expanded_turn e
    phase_turn Phase.Done e = end_turn doc cap last r _ (here (ap (skip_from doc r.position.0) e)) nothing (inr (e, refl))

-- a call on a sound state is a turn
pub step_turn : (doc stack : List ℕ) (r : Reader) → sound doc stack r ≡ true
    → Turned doc (capacity (length stack)) (latest stack r.depth.0) r (step doc stack r)
unfolding step step_phase
step_turn doc stack r e = let s = sound_true doc stack r e in rw e (phase_turn doc _ _ r s.in_doc s.in_place r.phase refl)

-- ---- what follows

-- 16 and 17 are no answers of a call on a sound state
pub call_numbers : (doc : List ℕ) (cap : ℕ) (last : Span) (r : Reader) (s : Step) → Named doc cap last r s
    → ((values_of s.answer).number ≡ 16 → ⊥) × ((values_of s.answer).number ≡ 17 → ⊥)
call_numbers doc cap last r s (keeps q d) = (q.2.2, q.2.3)
call_numbers doc cap last r s (opens k room d tag) = let z = no_number s.answer (omega arith) in (λ e. omega arith, λ e. omega arith)
call_numbers doc cap last r s (closes k z d same) = let z = no_number s.answer (omega arith) in (λ e. omega arith, λ e. omega arith)
call_numbers doc cap last r s (mismatches n z d on x y) = (λ e. omega arith, λ e. omega arith)
call_numbers doc cap last r s (closes_nothing k z d on) = let z = no_number s.answer (omega arith) in (λ e. omega arith, λ e. omega arith)
call_numbers doc cap last r s (unmatches n z d off) = (λ e. omega arith, λ e. omega arith)

-- the name of a Start is the first bytes of its content, and ends where the reader stands then, or before
module _ (doc : List ℕ) (s : Step) (t : Tagged doc s) where
  pub name_fits : (values_of s.answer).name ≤ (values_of s.answer).content.to - (values_of s.answer).content.from
  name_fits =
      let c = (values_of s.answer).content in
      omega (arith, t.ordered, t.named, part_end doc c.from c.to, until_within is_white (bytes doc c))

  pub name_within : (name_of s.answer).to ≤ s.reader.position.0
  name_within = omega (arith, t.ordered, t.within, name_fits)
