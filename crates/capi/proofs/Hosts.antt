-- A host's calls are a run, told in numbers; so the demands hold of what a host hears. Assumes nothing.
use Prim.Native.Nat.{ℕ, zero, suc, ◌+◌, ◌≤◌}
use native.Mathlib.Omega.{arith}
use mathlib.Core.Path.{◌≡◌, refl, sym, ap, ap₂, ◌∙◌, subst}
use mathlib.Core.Bool.{Bool, true, false}
use mathlib.Core.List.{List, [], ◌∷◌, ◌++◌, map}
use lib.ListN.{length, get_or, take, replicate}
use lib.Seq.{get_or-take}
use lib.Dec.{eqb}
use Rattle.ground.proofs.Choices.{pick_nlt}
use Rattle.state.specs.declared.place.Span.{Span}
use Rattle.state.specs.declared.answer.Kind.{Kind}
use Rattle.state.specs.declared.answer.Answer.{Answer}
use Rattle.state.specs.declared.answer.Values.{Values}
use Rattle.state.specs.declared.run.Reader.{Reader}
use Rattle.state.specs.declared.run.Made.{Made}
use Rattle.state.specs.Limits.{longest}
use Rattle.state.specs.Make.{fresh, made}
use Rattle.state.specs.Place.{span}
use Rattle.state.specs.Values.{kind_number, values_of, ends_run}
use Rattle.demands.specs.Answers.{is_mismatch, is_unclosed, is_ending, count, latest_is, one_is}
use Rattle.demands.specs.Laid.{pieces, SetOnce}
use Rattle.demands.specs.Run.{World, said, call, run}
use Rattle.demands.proofs.Demand3.{starts_are_ends_mismatches_and_open, as_many_as_the_depth}
use Rattle.demands.proofs.Joined.{latest_eof}
use Rattle.demands.proofs.Laid.{each_byte_is_set_once, at_eof_the_position_is_the_length, a_refusal_that_ended_the_run_leaves_what_is_behind_it}
use Rattle.demands.proofs.Unclosed.{a_page_that_ends_with_eof_and_no_refusal_is_whole}
use Rattle.capi.specs.Numbers.{config_of, values_numbers, answer_slots}
use Rattle.capi.specs.Slots.{put}
use Rattle.capi.specs.Calls.{made_number, Called}
use Rattle.capi.specs.Hosts.{Heard, Host, HostCalls, none, more, numbers_heard, numbers_told, heard_kind, heard_number, heard_ending, names_open, heard_piece, stands_at, Follows}
use Rattle.capi.proofs.Rounds.{holds}
use Rattle.capi.proofs.Runs.{a_host's_reader_is_a_run's, a_host's_call_is_the_run's}

-- the numbers that are written are the first ones
written_first : (answer : List ℕ) (v : Values) → answer_slots ≤ length answer → take answer_slots (put answer (values_numbers v)) ≡ values_numbers v
unfolding put values_numbers
written_first answer v l = ap (take answer_slots) (sym (pick_nlt _ _ _ _ _ l refl))

module _ (doc stack : List ℕ) (settings : ℕ) where
  -- THEOREM: a host that was told 0 and lends each call what the call before left stands where the run stands, and the document is within the limit
  pub a_host's_calls_are_a_run : {n : ℕ} {h : Host} → HostCalls doc stack settings n h → (length doc ≤ longest) × Follows (run doc stack (config_of settings) n) h
  unfolding run call
  a_host's_calls_are_a_run (none {lent} {state} o) =
      let m = a_host's_reader_is_a_run's doc stack lent state settings o in
      (m.0, record { stack = refl; state = m.1; heard = refl })
  a_host's_calls_are_a_run (more {n} {h} {answer} {number} {stack'} {state'} {answer'} before room called) =
      let m = a_host's_calls_are_a_run before in
      let w : World = run doc stack (config_of settings) n in
      let same : Called doc w.stack h.state answer number stack' state' answer' =
      subst (λ (names : List ℕ). Called doc names h.state answer number stack' state' answer') m.1.stack called in
      let t = a_host's_call_is_the_run's doc w h.state answer number stack' state' answer' m.1.state room same in
      let slots : take answer_slots answer' ≡ values_numbers (values_of (said doc w)) = ap (take answer_slots) t.values ∙ written_first answer (values_of (said doc w)) room in
      (m.0, record { stack = t.stack; state = t.state; heard = ap₂ ◌∷◌ (ap₂ ◌∷◌ t.number slots) m.1.heard })

-- THEOREM: over a document within the limit a host can make n calls, for any n
pub a_host_can_call : (doc stack : List ℕ) (settings : ℕ) → length doc ≤ longest → (n : ℕ) → (h : Host) × HostCalls doc stack settings n h
unfolding made
a_host_can_call doc stack settings short zero =
    let e : Made.Fresh (fresh (length doc) (config_of settings)) ≡ made (length doc) (config_of settings) = pick_nlt _ _ _ _ _ short refl in
    (_, none {lent = replicate answer_slots 0} (record { said = ap made_number e; slots = refl }))
a_host_can_call doc stack settings short (suc n) =
    let before = a_host_can_call doc stack settings short n in
    (_, more {answer = replicate answer_slots 0} before.1 (omega arith) (record { said = refl; names = refl; reader = refl; slots = refl }))

-- ---- what is told in numbers is told of answers

module _ (is : Heard → Bool) (was : Answer → Bool) (agree : (x : Heard) (a : Answer) → numbers_heard x ≡ numbers_told a → is x ≡ was a) where
  same_told : (xs : List Heard) (answers : List Answer) → map numbers_heard xs ≡ map numbers_told answers
      → (count is xs ≡ count was answers) × (latest_is is xs ≡ latest_is was answers) × (one_is is xs ≡ one_is was answers)
  unfolding count one_is
  same_told [] [] e = (refl, refl, refl)
  same_told [] (a ∷ before) e = let z : ◌≡◌ {A = ℕ} 0 1 = cc in absurd (omega arith)
  same_told (x ∷ xs) [] e = let z : ◌≡◌ {A = ℕ} 0 1 = cc in absurd (omega arith)
  same_told (x ∷ xs) (a ∷ before) e =
      let now = agree x a (cc) in
      let earlier = same_told xs before (cc) in
      (rw (now, earlier.0), now, rw (now, earlier.2))

-- an event of this kind
abbrev is_kind : Kind → Answer → Bool
is_kind kind a = eqb (values_of a).kind (kind_number kind)

module _ (x : Heard) (a : Answer) (e : numbers_heard x ≡ numbers_told a) where
  same_kind : (kind : Kind) → heard_kind kind x ≡ is_kind kind a
  unfolding values_numbers
  same_kind kind = ap (λ (k : ℕ). eqb k (kind_number kind)) (sym (get_or-take answer_slots x.slots 0 0 (omega arith)) ∙ ap (λ (vs : List ℕ). get_or vs 1 0) e)

  same_number : (n : ℕ) → heard_number n x ≡ eqb (values_of a).number n
  same_number n = ap (λ (vs : List ℕ). eqb (get_or vs 0 0) n) e

  same_ending : heard_ending x ≡ is_ending a
  same_ending = ap (λ (vs : List ℕ). ends_run (get_or vs 0 0)) e

  same_piece : heard_piece x ≡ (values_of a).piece
  unfolding values_numbers
  same_piece =
      sym (ap₂ span (get_or-take answer_slots x.slots 3 0 (omega arith)) (get_or-take answer_slots x.slots 4 0 (omega arith)))
      ∙ ap (λ (vs : List ℕ). span (get_or vs 4 0) (get_or vs 5 0)) e

pieces_heard : (xs : List Heard) (answers : List Answer) → map numbers_heard xs ≡ map numbers_told answers → map heard_piece xs ≡ pieces answers
pieces_heard [] [] e = refl
pieces_heard [] (a ∷ before) e = let z : ◌≡◌ {A = ℕ} 0 1 = cc in absurd (omega arith)
pieces_heard (x ∷ xs) [] e = let z : ◌≡◌ {A = ℕ} 0 1 = cc in absurd (omega arith)
pieces_heard (x ∷ xs) (a ∷ before) e = ap₂ ◌∷◌ (same_piece x a (cc)) (pieces_heard xs before (cc))

-- the answer of which a host was told something
record ToldAt (x : Heard) (answers : List Answer) : Type 0 where
  later : List Answer
  answer : Answer
  before : List Answer
  split : answers ≡ later ++ (answer ∷ before)
  same : numbers_heard x ≡ numbers_told answer

told_at : (x : Heard) (before later : List Heard) (answers : List Answer) → map numbers_heard (later ++ (x ∷ before)) ≡ map numbers_told answers → ToldAt x answers
told_at x before [] [] e = let z : ◌≡◌ {A = ℕ} 0 1 = cc in absurd (omega arith)
told_at x before [] (a ∷ answers) e = record { later = []; answer = a; before = answers; split = refl; same = cc }
told_at x before (y ∷ later) [] e = let z : ◌≡◌ {A = ℕ} 0 1 = cc in absurd (omega arith)
told_at x before (y ∷ later) (a ∷ answers) e =
    let t = told_at x before later answers (cc) in
    record { later = a ∷ t.later; answer = t.answer; before = t.before; split = ap (λ (others : List Answer). a ∷ others) t.split; same = t.same }

-- ---- the demands, in the numbers that a host hears

module _ (doc stack : List ℕ) (settings : ℕ) {n : ℕ} {h : Host} (calls : HostCalls doc stack settings n h) where
  abbrev w : World
  w = run doc stack (config_of settings) n

  short : length doc ≤ longest
  short = (a_host's_calls_are_a_run doc stack settings calls).0

  follows : Follows w h
  follows = (a_host's_calls_are_a_run doc stack settings calls).1

  heard_kind_lem : (kind : Kind)
      → (count (heard_kind kind) h.heard ≡ count (is_kind kind) w.answers)
      × (latest_is (heard_kind kind) h.heard ≡ latest_is (is_kind kind) w.answers)
      × (one_is (heard_kind kind) h.heard ≡ one_is (is_kind kind) w.answers)
  heard_kind_lem kind = same_told (heard_kind kind) (is_kind kind) (λ x a e. same_kind x a e kind) h.heard w.answers follows.heard

  -- THEOREM: "end of file comes by call number length + 2", and stays
  pub after_length_and_two_calls_a_host_hears_eof : length doc + 2 ≤ n → latest_is (heard_kind Kind.Eof) h.heard ≡ true
  after_length_and_two_calls_a_host_hears_eof enough = (heard_kind_lem Kind.Eof).1 ∙ latest_eof doc stack (config_of settings) short n enough

  open_names : names_open h ≡ w.reader.depth.0
  open_names = ap (λ (r : Reader). r.depth.0) (holds h.state w.reader follows.state).3

  -- THEOREM: "Starts = Ends + mismatches + names open"
  pub a_host's_starts_are_ends_mismatches_and_open : (config_of settings).allow_unmatched_ends ≡ false
      → count (heard_kind Kind.Start) h.heard ≡ count (heard_kind Kind.End) h.heard + count (heard_number 10) h.heard + names_open h
  a_host's_starts_are_ends_mismatches_and_open off =
      omega (
        arith,
        open_names,
        (heard_kind_lem Kind.Start).0,
        (heard_kind_lem Kind.End).0,
        (same_told (heard_number 10) is_mismatch (λ x a e. same_number x a e 10) h.heard w.answers follows.heard).0,
        starts_are_ends_mismatches_and_open doc stack (config_of settings) short off n,
        as_many_as_the_depth doc stack (config_of settings) short n,
      )

  -- THEOREM: open names checked: a host that heard Eof, and neither 18 nor a refusal that ended the run, heard a whole page: no name is open, and, where unmatched
  -- ends are refused, Starts = Ends + mismatches
  pub a_host's_page_that_ends_with_eof_and_no_refusal_is_whole : (config_of settings).check_open_names ≡ true
      → one_is (heard_kind Kind.Eof) h.heard ≡ true → one_is (heard_number 18) h.heard ≡ false → one_is heard_ending h.heard ≡ false
      → (names_open h ≡ 0)
      × ((config_of settings).allow_unmatched_ends ≡ false
      → count (heard_kind Kind.Start) h.heard ≡ count (heard_kind Kind.End) h.heard + count (heard_number 10) h.heard)
  a_host's_page_that_ends_with_eof_and_no_refusal_is_whole on eof unclosed ending =
      let whole =
      a_page_that_ends_with_eof_and_no_refusal_is_whole doc stack (config_of settings) short on n
      (sym (heard_kind_lem Kind.Eof).2 ∙ eof)
      (sym (same_told (heard_number 18) is_unclosed (λ x a e. same_number x a e 18) h.heard w.answers follows.heard).2 ∙ unclosed)
      (sym (same_told heard_ending is_ending same_ending h.heard w.answers follows.heard).2 ∙ ending) in
      let none : names_open h ≡ 0 = open_names ∙ sym (as_many_as_the_depth doc stack (config_of settings) short n) ∙ ap length whole.0 in
      (none, λ off. omega (arith, none, a_host's_starts_are_ends_mismatches_and_open off))

  same_pieces : map heard_piece h.heard ≡ pieces w.answers
  same_pieces = pieces_heard h.heard w.answers follows.heard

  same_position : stands_at h ≡ w.reader.position.0
  same_position = ap (λ (r : Reader). r.position.0) (holds h.state w.reader follows.state).3

  -- THEOREM: no byte is set twice and none is dropped, by the pieces that a host hears
  pub each_byte_is_set_once_for_a_host : SetOnce doc (config_of settings) (map heard_piece h.heard) (stands_at h)
  each_byte_is_set_once_for_a_host = rw (same_pieces, same_position) (each_byte_is_set_once doc stack (config_of settings) short n)

  -- THEOREM: and of a host that heard Eof and no refusal that ended the run the state stands at the document's end
  pub at_eof_a_host_stands_at_the_end : one_is (heard_kind Kind.Eof) h.heard ≡ true → one_is heard_ending h.heard ≡ false → stands_at h ≡ length doc
  at_eof_a_host_stands_at_the_end eof ending =
      same_position
      ∙ at_eof_the_position_is_the_length doc stack (config_of settings) short n
      (sym (heard_kind_lem Kind.Eof).2 ∙ eof)
      (sym (same_told heard_ending is_ending same_ending h.heard w.answers follows.heard).2 ∙ ending)

  -- THEOREM: where one of those ended the run, it stands at the end of its piece
  pub a_refusal_that_ended_the_run_leaves_a_host_what_is_behind_it : (later before : List Heard) (x : Heard)
      → h.heard ≡ later ++ (x ∷ before) → heard_ending x ≡ true → stands_at h ≡ (heard_piece x).to
  a_refusal_that_ended_the_run_leaves_a_host_what_is_behind_it later before x e ending =
      let t = told_at x before later w.answers (ap (map numbers_heard) (sym e) ∙ follows.heard) in
      same_position
      ∙ a_refusal_that_ended_the_run_leaves_what_is_behind_it doc stack (config_of settings) short n t.later t.before t.answer t.split (sym (same_ending x t.answer t.same) ∙ ending)
      ∙ sym (ap (λ (s : Span). s.to) (same_piece x t.answer t.same))
