-- What a caller knows of a column, from its promise and the demands alone. Assumes nothing.
use Prim.Native.Nat.{ℕ, zero, suc, ◌+◌, ◌-◌, ◌≤◌, ◌<◌}
use mathlib.Core.Path.{◌≡◌, refl, sym, ap, ◌∙◌, subst}
use mathlib.Core.List.{List, [], ◌∷◌, ◌++◌, append-nil}
use mathlib.Core.Bool.{Bool, true, false, not}
use native.Mathlib.Omega.{arith}
use native.Mathlib.Decide.{dec_lt}
use lib.ListN.{length, get_or, take, drop, length-append, get_or-append}
use lib.Seq.{get_or-append-add, get_or-drop}
use lib.Dec.{eqb, ltb}
use borrow.Author.Tests.{eqb-true, ne_eqb, ltb-true, ltb-false, lt-ltb, le-ltb}
use Rattle.ground.specs.Choose.{pick}
use Rattle.ground.specs.Least.{Gives}
use Rattle.ground.proofs.Choices.{clash, must_fail, not_true, not_false, pick_cases}
use Rattle.state.specs.declared.place.Span.{Span}
use Rattle.state.specs.declared.answer.Kind.{Kind}
use Rattle.state.specs.declared.answer.Answer.{Answer}
use Rattle.state.specs.declared.answer.Event.{Event}
use Rattle.state.specs.declared.answer.Error.{Error}
use Rattle.state.specs.Limits.{longest}
use Rattle.state.specs.Make.{refusal, made}
use Rattle.state.specs.Place.{at, span}
use Rattle.state.specs.Settings.{defaults}
use Rattle.state.specs.Values.{kind_number}
use Rattle.reader.specs.Names.{bytes}
use Rattle.demands.specs.Run.{World, said, call, run}
use Rattle.demands.specs.Answers.{is_eof, one_is}
use Rattle.demands.proofs.Demand1.{eof_by_length_and_two}
use Rattle.demands.proofs.Pieces.{pieces_stand_in_the_order_of_calls}
use Rattle.columns.specs.declared.Summary.{Summary}
use Rattle.columns.specs.declared.order.Order.{Order}
use Rattle.columns.specs.declared.text.Text.{Text}
use Rattle.columns.specs.declared.told.Told.{Told}
use Rattle.columns.specs.declared.outcome.Outcome.{Outcome}
use Rattle.columns.specs.Time.{is_time, value, cleared, read_time}
use Rattle.columns.specs.Order.{time}
use Rattle.columns.specs.Outcome.{is_refused}
use Rattle.columns.specs.Told.{is_kind, within, text_told_as, text_tells, event_tells, tells}
use Rattle.columns.specs.Column.{Reading, reading, onward, read_of, calls_of, answers_of, read_in, filled_with, Columned, told_in}
use Rattle.columns.specs.Words.{Lower, Gave, none, one, refuses, Timed, time_in, times_told, Stops, EndedBy, StoppedBy}
use Rattle.columns.proofs.Ordered.{the_index_is_the_first_that_is_lower, kept_order_never_decreases}
use Rattle.columns.proofs.Turns.{filling, heard, asked, ended, over, heard_next, heard_over, asked_next, ended_next, unended_next, over_refused, over_ended, not_over, over_on, refused_stays, over_stays, eof_heard}

-- ---- the promise leaves one answer

same_summary : (s s' : Summary) → s.count ≡ s'.count → s.outcome ≡ s'.outcome → s.order ≡ s'.order → s ≡ s'
same_summary s s' c o d =
    ap (λ (x : ℕ). record { count = x; outcome = s.outcome; order = s.order }) c
    ∙ ap (λ (x : Outcome). record { count = s'.count; outcome = x; order = s.order }) o
    ∙ ap (λ (x : Order). record { count = s'.count; outcome = s'.outcome; order = x }) d

-- THEOREM: a second answer, a second stack and a second column that meet the promise are the first
pub only_one : (doc stack column : List ℕ) (s s' : Summary) (stack' stack'' column' column'' : List ℕ) → Columned doc stack column s stack' column'
    → Columned doc stack column s' stack'' column'' → (s ≡ s') × (stack' ≡ stack'') × (column' ≡ column'')
only_one doc stack column s s' stack' stack'' column' column'' p q = (
  same_summary s s' (p.count ∙ sym q.count) (p.refusal ∙ sym q.refusal) (p.order ∙ sym q.order),
  p.names ∙ sym q.names,
  p.slots ∙ sym q.slots,
)

-- ---- what an answer tells

empty_text : (s : List ℕ) → eqb (length s) 0 ≡ true → s ≡ []
empty_text [] e = refl
empty_text (b ∷ s) e = let z : suc (length s) ≡ 0 = eqb-true (suc (length s)) 0 e in absurd (omega arith)

some_text : (s : List ℕ) → eqb (length s) 0 ≡ false → s ≡ [] → ⊥
some_text s e z = clash (eqb (length s) 0) (ap (λ (l : List ℕ). eqb (length l) 0) z) e

gave : (text : List ℕ) (piece : Span) (empty is : Bool) → eqb (length (cleared text)) 0 ≡ empty → is_time (cleared text) ≡ is
    → Gave text piece (text_told_as piece (pick empty Text.Empty (pick is (Text.Time (value (cleared text))) Text.Other)))
gave text piece true is e f = none (empty_text (cleared text) e) refl
gave text piece false true e f = one f refl
gave text piece false false e f = refuses (some_text (cleared text) e) f refl

text_gives : (text : List ℕ) (piece : Span) → Gave text piece (text_tells text piece)
unfolding text_tells read_time
text_gives text piece = gave text piece (eqb (length (cleared text)) 0) (is_time (cleared text)) refl refl

module _ (doc : List ℕ) (names : List Span) (e : Event) (inside : within doc names ≡ true) where
  -- THEOREM: "each Text within `t` gives one value, none, or the refusal"
  pub each_text_within_t_gives_a_value_none_or_the_refusal : is_kind Kind.Text e ≡ true → Gave (bytes doc e.content) e.piece (tells doc names (Answer.Event e))
  unfolding event_tells
  each_text_within_t_gives_a_value_none_or_the_refusal k = rw (k, inside) (text_gives (bytes doc e.content) e.piece)

  -- THEOREM: "References inside `t` are 30"
  pub a_reference_within_t_is_refused : is_kind Kind.GeneralRef e ≡ true → tells doc names (Answer.Event e) ≡ Told.Refused (Outcome.BadTime e.piece)
  unfolding event_tells
  a_reference_within_t_is_refused k =
      let n : kind_number e.kind ≡ 5 = eqb-true (kind_number e.kind) (kind_number Kind.GeneralRef) k in
      rw (ne_eqb (kind_number e.kind) (kind_number Kind.Text) (λ z. omega arith), k, inside) refl

module _ (doc : List ℕ) (names : List Span) (v : ℕ) (piece : Span) where
  no_time : {A : Type 0} → Told.Nothing ≡ Told.Time v piece → A
  no_time e = let z : ◌≡◌ {A = ℕ} 0 1 = cc in absurd (omega arith)

  refuses_no_time : {A : Type 0} (o : Outcome) → Told.Refused o ≡ Told.Time v piece → A
  refuses_no_time o e = let z : ◌≡◌ {A = ℕ} 0 1 = cc in absurd (omega arith)

  text_timed : (e : Event) → is_kind Kind.Text e ≡ true → within doc names ≡ true → (t : Told) → Gave (bytes doc e.content) e.piece t → t ≡ Told.Time v piece
      → Timed doc names (Answer.Event e) v piece
  text_timed e k w t (none c f) h = no_time (sym f ∙ h)
  text_timed e k w t (one c f) h =
      let g : Told.Time (value (cleared (bytes doc e.content))) e.piece ≡ Told.Time v piece = sym f ∙ h in
      record { text = eqb-true (kind_number e.kind) (kind_number Kind.Text) k; inside = w; is = c; worth = cc; place = cc }
  text_timed e k w t (refuses n c f) h = refuses_no_time (Outcome.BadTime e.piece) (sym f ∙ h)

  -- THEOREM: a time is told by a Text within `t` alone, and it is that text's
  pub only_text_within_t_tells_a_time : (a : Answer) → tells doc names a ≡ Told.Time v piece → Timed doc names a v piece
  unfolding event_tells
  only_text_within_t_tells_a_time (Answer.Refused x) h = refuses_no_time (Outcome.ReaderRefused x) h
  only_text_within_t_tells_a_time (Answer.Event e) h =
      pick_cases M (is_kind Kind.Text e) _ _
      (λ k. pick_cases M (within doc names) _ _ (λ w. text_timed e k w _ (text_gives (bytes doc e.content) e.piece)) (λ _ g. no_time g))
      (λ _.
      pick_cases M (is_kind Kind.GeneralRef e) _ _
      (λ _. pick_cases M (within doc names) _ _ (λ _ g. refuses_no_time (Outcome.BadTime e.piece) g) (λ _ g. no_time g))
      (λ _ g. no_time g))
      h
    where
      M : Told → Type 0
      M t = t ≡ Told.Time v piece → Timed doc names (Answer.Event e) v piece

-- ---- a test that turns on

record TurnsOn (f : ℕ → Bool) (n m : ℕ) : Type 0 where
  pub below : m < n
  pub off : f m ≡ false
  pub on : f (suc m) ≡ true

-- one that fails at 0 and passes at n turns on between them
turned_on : (f : ℕ → Bool) (n : ℕ) → f 0 ≡ false → f n ≡ true → (m : ℕ) × TurnsOn f n m
turned_on f zero off e = clash (f 0) e off
turned_on f (suc n) off e = by (f n) refl (turned_on f n off)
  where
    by : (t : Bool) → f n ≡ t → (f n ≡ true → (m : ℕ) × TurnsOn f n m) → (m : ℕ) × TurnsOn f (suc n) m
    by true h more = let x = more h in (x.0, record { below = omega (arith, x.1.below); off = x.1.off; on = x.1.on })
    by false h more = (n, record { below = omega arith; off = h; on = e })

-- ---- what is read

-- a call that does not end the reading adds the time that it tells, if it tells one
onward_adds : (room : ℕ) (r : Reading) (t : Told) → is_refused (onward room r t).outcome ≡ false → (onward room r t).times ≡ r.times ++ time_in t
onward_adds room r Told.Nothing e = sym (append-nil r.times)
onward_adds room r (Told.Time v piece) e =
    pick_cases (λ (x : Reading). is_refused x.outcome ≡ false → x.times ≡ r.times ++ (v ∷ [])) (ltb (length r.times) room) _ _
    (λ _ _. refl)
    (λ _ h. clash true refl h)
    e
onward_adds room r (Told.Refused o) e = sym (append-nil r.times)

-- one that ends it stops it, and adds none
onward_stops : (room : ℕ) (r : Reading) (t : Told) → is_refused r.outcome ≡ false → is_refused (onward room r t).outcome ≡ true → length r.times ≤ room
    → ((onward room r t).times ≡ r.times) × Stops room r.times t (onward room r t).outcome
onward_stops room r Told.Nothing n e l = clash (is_refused r.outcome) e n
onward_stops room r (Told.Time v piece) n e l =
    pick_cases (λ (x : Reading). is_refused x.outcome ≡ true → (x.times ≡ r.times) × ((length r.times ≡ room) × (x.outcome ≡ Outcome.ColumnFull piece)))
    (ltb (length r.times) room) _ _
    (λ _ h. clash (is_refused r.outcome) h n)
    (λ f _. (refl, (omega (arith, ltb-false (length r.times) room f), refl)))
    e
onward_stops room r (Told.Refused o) n e l = (refl, (e, refl))

-- one that does not end it does not stop it
onward_goes : (room : ℕ) (r : Reading) (t : Told) (outcome : Outcome) → is_refused (onward room r t).outcome ≡ false → Stops room r.times t outcome → ⊥
onward_goes room r Told.Nothing outcome e s = s
onward_goes room r (Told.Time v piece) outcome e s =
    pick_cases (λ (x : Reading). is_refused x.outcome ≡ false → ⊥) (ltb (length r.times) room) _ _
    (λ f _. omega (arith, ltb-true (length r.times) room f, s.0))
    (λ _ h. clash true refl h)
    e
onward_goes room r (Told.Refused o) outcome e s = clash (is_refused o) s.0 e

onward_room : (room : ℕ) (r : Reading) (t : Told) → length r.times ≤ room → length (onward room r t).times ≤ room
onward_room room r Told.Nothing l = l
onward_room room r (Told.Time v piece) l =
    pick_cases (λ (x : Reading). length x.times ≤ room) (ltb (length r.times) room) _ _
    (λ e. omega (arith, ltb-true (length r.times) room e, length-append r.times (v ∷ [])))
    (λ _. l)
onward_room room r (Told.Refused o) l = l

module _ (doc stack column : List ℕ) where
  abbrev room : ℕ
  room = length column

  abbrev after : ℕ → World
  after n = run doc stack defaults n

  abbrev read : ℕ → Reading
  read n = heard doc stack column n

  -- where the reading goes on after a call it went on before it
  went_on : (n : ℕ) → is_refused (read (suc n)).outcome ≡ false → is_refused (read n).outcome ≡ false
  went_on n e =
      must_fail (is_refused (read n).outcome)
      (λ f. clash (is_refused (read n).outcome) f (ap (λ (r : Reading). is_refused r.outcome) (sym (heard_over doc stack column n f)) ∙ e))

  times_more : (n : ℕ) → times_told doc (after (suc n)).answers ≡ times_told doc (after n).answers ++ time_in (told_in doc (after n))
  unfolding run call times_told
  times_more n = refl

  -- as long as nothing is refused the times are all that are told
  all_told : (n : ℕ) → is_refused (read n).outcome ≡ false → (read n).times ≡ times_told doc (after n).answers
  unfolding run read_of times_told
  all_told zero e = refl
  all_told (suc n) e =
      let f = went_on n e in
      let h = heard_next doc stack column n f in
      ap (λ (r : Reading). r.times) h
      ∙ onward_adds room (read n) (told_in doc (after n)) (ap (λ (r : Reading). is_refused r.outcome) (sym h) ∙ e)
      ∙ ap (λ (ts : List ℕ). ts ++ time_in (told_in doc (after n))) (all_told n f)
      ∙ sym (times_more n)

  -- the reading has no more times than the column has slots
  in_room : (n : ℕ) → length (read n).times ≤ room
  unfolding run read_of
  in_room zero = omega arith
  in_room (suc n) = by (is_refused (read n).outcome) refl (in_room n)
    where
      by : (t : Bool) → is_refused (read n).outcome ≡ t → length (read n).times ≤ room → length (read (suc n)).times ≤ room
      by true e l = rw (heard_over doc stack column n e) l
      by false e l = rw (heard_next doc stack column n e) (onward_room room (read n) (told_in doc (after n)) l)

  -- where something is refused, one call did it first
  first : (n : ℕ) → is_refused (read n).outcome ≡ true → (m : ℕ) × TurnsOn (λ (k : ℕ). is_refused (read k).outcome) n m
  unfolding run read_of
  first n = turned_on (λ (k : ℕ). is_refused (read k).outcome) n refl

  -- where an answer is Eof, one was it first
  first_eof : (n : ℕ) → ended doc stack column n ≡ true → (m : ℕ) × TurnsOn (ended doc stack column) n m
  unfolding run one_is
  first_eof n = turned_on (ended doc stack column) n refl

  turned_by_eof : (m : ℕ) → ended doc stack column m ≡ false → ended doc stack column (suc m) ≡ true → is_eof (said doc (after m)) ≡ true
  turned_by_eof m off on =
      not_false (is_eof (said doc (after m)))
      (must_fail (not (is_eof (said doc (after m))))
      (λ e. clash (ended doc stack column (suc m)) on (unended_next doc stack column m off (not_true (is_eof (said doc (after m))) e))))

  -- a call before one that goes on goes on
  goes_before : (k m : ℕ) → k ≤ m → is_refused (read m).outcome ≡ false → is_refused (read k).outcome ≡ false
  goes_before k zero l e = let z : k ≡ 0 = omega arith in rw z e
  goes_before k (suc m) l e =
      elim (dec_lt k (suc m)) [
        | yes h ↦ goes_before k m (omega arith) (went_on m e)
        | no h ↦ let z : k ≡ suc m = omega arith in rw z e
      ]

  -- as long as the reading is not over every call is made
  asked_all : (m : ℕ) → over doc stack column m ≡ false → asked doc stack column m ≡ m
  unfolding run calls_of
  asked_all zero e = refl
  asked_all (suc m) e =
      let f = must_fail (over doc stack column m) (λ g. clash (over doc stack column (suc m)) (over_on doc stack column m g) e) in
      asked_next doc stack column m f ∙ ap suc (asked_all m f)

  -- so the call with which it is over is the last
  asked_last : (m n : ℕ) → m < n → over doc stack column m ≡ false → over doc stack column (suc m) ≡ true → asked doc stack column n ≡ suc m
  asked_last m n l e f =
      let k : n - suc m + suc m ≡ n = omega arith in
      ap (asked doc stack column) (sym k)
      ∙ (over_stays doc stack column (suc m) f (n - suc m)).1
      ∙ asked_next doc stack column m e
      ∙ ap suc (asked_all m e)

  -- one that goes on is no stop
  no_stop : (k : ℕ) (outcome : Outcome) → is_refused (read (suc k)).outcome ≡ false → Stops room (times_told doc (after k).answers) (told_in doc (after k)) outcome → ⊥
  no_stop k outcome e s =
      let f = went_on k e in
      let h = heard_next doc stack column k f in
      onward_goes room (read k) (told_in doc (after k)) outcome
      (ap (λ (r : Reading). is_refused r.outcome) (sym h) ∙ e)
      (subst (λ (ts : List ℕ). Stops room ts (told_in doc (after k)) outcome) (sym (all_told k f)) s)

  module _ (short : length doc ≤ longest) where
    -- no answer before one that is refused is Eof
    unended_before : (m : ℕ) → is_refused (read m).outcome ≡ false → is_refused (read (suc m)).outcome ≡ true → ended doc stack column m ≡ false
    unended_before m went over-now =
        must_fail (ended doc stack column m)
        (λ e.
        let x = first_eof m e in
        let k = x.0 in
        let goes = goes_before k m (omega (arith, x.1.below)) went in
        let j : m - k + suc k ≡ suc m = omega (arith, x.1.below) in
        let h : read (suc m) ≡ read k = ap read (sym j) ∙ eof_heard doc stack column short k goes (turned_by_eof k x.1.off x.1.on) (m - k) in
        clash (is_refused (read (suc m)).outcome) over-now (ap (λ (r : Reading). is_refused r.outcome) h ∙ goes))

    -- the reading is stopped by the first call that does
    stopped : is_refused (read (length doc + 2)).outcome ≡ true → (m : ℕ) × StoppedBy doc stack room (read (length doc + 2)) m
    stopped e =
        let x = first (length doc + 2) e in
        let m = x.0 in
        let f = x.1 in
        let k : length doc + 2 - suc m + suc m ≡ length doc + 2 = omega (arith, f.below) in
        let is : read (length doc + 2) ≡ read (suc m) = ap read (sym k) ∙ refused_stays doc stack column (suc m) f.on (length doc + 2 - suc m) in
        let h = heard_next doc stack column m f.off in
        let s = onward_stops room (read m) (told_in doc (after m)) f.off (ap (λ (r : Reading). is_refused r.outcome) (sym h) ∙ f.on) (in_room m) in
        let t : (read (length doc + 2)).times ≡ (read m).times = ap (λ (r : Reading). r.times) (is ∙ h) ∙ s.0 in (
          m,
          record {
            times = t ∙ all_told m f.off;
            stops =
                subst (λ (r : Reading). Stops room r.times (told_in doc (after m)) r.outcome) (sym (is ∙ h))
                (subst (λ (ts : List ℕ). Stops room ts (told_in doc (after m)) (onward room (read m) (told_in doc (after m))).outcome) (sym s.0) s.1);
            before = λ k outcome l. no_stop k outcome (goes_before (suc k) m (omega arith) f.off);
            calls =
                asked_last m (length doc + 2) f.below
                (not_over doc stack column m f.off (unended_before m f.off f.on))
                (over_refused doc stack column (suc m) f.on);
          },
        )

    -- one that nothing stops comes to Eof
    ended_by : is_refused (read (length doc + 2)).outcome ≡ false → (n : ℕ) × EndedBy doc stack room n
    unfolding run call one_is
    ended_by e =
        let two : length doc + 2 ≡ suc (length doc + 1) = omega arith in
        let end : ended doc stack column (length doc + 2) ≡ true =
        subst (λ (n : ℕ). ended doc stack column n ≡ true) (sym two) (ended_next doc stack column (length doc + 1) (eof_by_length_and_two doc stack defaults short)) in
        let x = first_eof (length doc + 2) end in
        let n = x.0 in (
          n,
          record {
            eof = turned_by_eof n x.1.off x.1.on;
            in_time = x.1.below;
            unstopped = λ k outcome l. no_stop k outcome (goes_before (suc k) (length doc + 2) (omega arith) e);
            calls =
                asked_last n (length doc + 2) x.1.below
                (not_over doc stack column n (goes_before n (length doc + 2) (omega (arith, x.1.below)) e) x.1.off)
                (over_ended doc stack column (suc n) x.1.on);
          },
        )

  -- ---- the theorems

  -- THEOREM: "16 where the document is too long"
  pub too_long_is_16 : longest < length doc → read_in doc stack room ≡ reading [] (Outcome.ReaderRefused (refusal Error.SliceTooLong (at 0) (span 0 0)))
  unfolding read_in made
  too_long_is_16 l = rw (lt-ltb longest (length doc) l) refl

  module _ (short : length doc ≤ longest) where
    is_read : read_in doc stack room ≡ read (length doc + 2)
    unfolding read_in made
    is_read = rw (le-ltb longest (length doc) short) refl

    -- THEOREM: no time is left out and none is read twice: where nothing is refused, the column has the times that all answers tell, each once and in their order
    pub the_column_is_the_times_told : (read_in doc stack room).outcome ≡ Outcome.Whole → (read_in doc stack room).times ≡ times_told doc (answers_of doc stack)
    the_column_is_the_times_told e =
        ap (λ (r : Reading). r.times) is_read
        ∙ all_told (length doc + 2) (ap (λ (r : Reading). is_refused r.outcome) (sym is_read) ∙ ap is_refused e)

    -- THEOREM: "Refusals, the first from the left, end the reading": the times told before it stay, and none is read after it
    pub the_first_refusal_ends_the_reading : is_refused (read_in doc stack room).outcome ≡ true → (n : ℕ) × StoppedBy doc stack room (read_in doc stack room) n
    the_first_refusal_ends_the_reading e =
        subst (λ (r : Reading). (n : ℕ) × StoppedBy doc stack room r n) (sym is_read)
        (stopped short (ap (λ (r : Reading). is_refused r.outcome) (sym is_read) ∙ e))

    -- THEOREM: it ends, by demand 1's bound: where nothing is refused, a call answers Eof by number length + 2, it is the last that is made, and no call stops the reading
    pub it_ends : (read_in doc stack room).outcome ≡ Outcome.Whole → (n : ℕ) × EndedBy doc stack room n
    it_ends e = ended_by short (ap (λ (r : Reading). is_refused r.outcome) (sym is_read) ∙ ap is_refused e)

    -- THEOREM: the times are told in document order: the piece of one ends where that of a later one begins, or before
    pub times_are_told_in_document_order : (m n v w : ℕ) (p q : Span) → m < n → told_in doc (after m) ≡ Told.Time v p → told_in doc (after n) ≡ Told.Time w q → p.to ≤ q.from
    times_are_told_in_document_order m n v w p q l e f =
        let a = only_text_within_t_tells_a_time doc _ v p (said doc (after m)) e in
        let b = only_text_within_t_tells_a_time doc _ w q (said doc (after n)) f in
        rw (a.place, b.place) (pieces_stand_in_the_order_of_calls doc stack defaults short m n l)

-- ---- the slots

module _ (doc stack column : List ℕ) (s : Summary) (stack' column' : List ℕ) (p : Columned doc stack column s stack' column') where
  abbrev times : List ℕ
  times = (read_in doc stack (length column)).times

  -- THEOREM: the slots up to the count are the times, in their order
  pub the_first_slots_are_the_times : (i : ℕ) → i < s.count → get_or column' i 0 ≡ time times i
  the_first_slots_are_the_times i l = ap (λ (c : List ℕ). get_or c i 0) p.slots ∙ get_or-append times (drop (length times) column) 0 i (omega (arith, p.count))

  -- THEOREM: "later slots are unchanged"
  pub later_slots_are_unchanged : (i : ℕ) → s.count ≤ i → get_or column' i 0 ≡ get_or column i 0
  later_slots_are_unchanged i l =
      let k : length times + (i - length times) ≡ i = omega (arith, p.count) in
      ap (λ (c : List ℕ). get_or c i 0) p.slots
      ∙ ap (λ (j : ℕ). get_or (filled_with times column) j 0) (sym k)
      ∙ get_or-append-add times (drop (length times) column) (i - length times) 0
      ∙ get_or-drop (length times) column (i - length times) 0
      ∙ ap (λ (j : ℕ). get_or column j 0) k

  -- THEOREM: if 'never decreases' is answered, every two of its slots i < j have value i ≤ value j
  pub the_column_never_decreases : s.order ≡ Order.Kept → (i j : ℕ) → i < j → j < s.count → get_or column' i 0 ≤ get_or column' j 0
  the_column_never_decreases e i j l h =
      rw (the_first_slots_are_the_times i (omega arith), the_first_slots_are_the_times j h)
      (kept_order_never_decreases times (sym p.order ∙ e) i j l (omega (arith, p.count)))

  -- THEOREM: else the index given is the first of its slots that is lower than the one before it
  pub the_index_given_is_the_first : Gives Order.LowerAt s.order (Lower (take s.count column'))
  the_index_given_is_the_first = rw (p.order, (filling times column column' s.count p.count p.slots).first) (the_index_is_the_first_that_is_lower times)

  -- THEOREM: the times stand in the column
  pub the_count_is_within_the_column : s.count ≤ length column'
  the_count_is_within_the_column = (filling times column column' s.count p.count p.slots).fits

  -- THEOREM: and the slots up to the count are as many
  pub the_times_are_counted : s.count ≡ length (take s.count column')
  the_times_are_counted = (filling times column column' s.count p.count p.slots).counted
