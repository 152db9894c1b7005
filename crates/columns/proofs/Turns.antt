-- A loop over calls has what the run tells, call by call, by the reader's promise and the theorems of `demands` alone. Assumes nothing.
use Prim.Native.Nat.{ℕ, zero, suc, ◌+◌, ◌-◌, ◌*◌, ◌≤◌, ◌<◌}
use native.Mathlib.Omega.{arith}
use native.Mathlib.Numerals.{add-one}
use native.Mathlib.Nat.{zero-add, suc-add}
use mathlib.Core.Path.{◌≡◌, refl, sym, ap, ◌∙◌}
use mathlib.Core.Bool.{Bool, true, false}
use mathlib.Core.List.{List, [], ◌∷◌, ◌++◌}
use lib.ListN.{length, get_or, take, drop, set, length-append, length-take, length-drop}
use lib.Seq.{set_out, set-append_seam, append_snoc, take-append_seam}
use lib.Dec.{ltb}
use borrow.Author.Rules.{rules}
use borrow.Author.Tests.{eqb-true, ne_eqb, ltb-true, ltb-false}
use Rattle.ground.specs.Choose.{pick}
use Rattle.ground.proofs.Choices.{clash, pick_same}
use Rattle.ground.proofs.Lists.{drop_next}
use Rattle.state.specs.declared.place.Span.{Span}
use Rattle.state.specs.declared.config.Config.{Config}
use Rattle.state.specs.declared.answer.Kind.{Kind}
use Rattle.state.specs.declared.answer.Answer.{Answer}
use Rattle.state.specs.declared.answer.Refusal.{Refusal}
use Rattle.state.specs.declared.run.Reader.{Reader}
use Rattle.state.specs.declared.run.Step.{Step}
use Rattle.state.specs.declared.run.Made.{Made}
use Rattle.state.specs.Limits.{longest, slots}
use Rattle.state.specs.Make.{made}
use Rattle.state.specs.Settings.{defaults}
use Rattle.state.specs.Values.{kind_number}
use Rattle.state.proofs.Room.{capacity_slots}
use Rattle.reader.specs.Step.{step, Stepped}
use Rattle.demands.specs.Run.{World, said, call, run}
use Rattle.demands.specs.Answers.{is_eof, one_is}
use Rattle.demands.specs.Open.{entries}
use Rattle.demands.proofs.Demand1.{a_reader_made_is_a_run's, depth_within_capacity, stack_keeps_its_length, eof_stays}
use Rattle.demands.proofs.Demand3.{open_names_are_those_told}
use Rattle.columns.specs.declared.order.Order.{Order}
use Rattle.columns.specs.declared.told.Told.{Told}
use Rattle.columns.specs.declared.told.Filled.{Filled}
use Rattle.columns.specs.declared.outcome.Outcome.{Outcome}
use Rattle.columns.specs.Order.{order_of}
use Rattle.columns.specs.Outcome.{is_refused}
use Rattle.columns.specs.Told.{event_tells, tells}
use Rattle.columns.specs.Column.{Reading, reading, onward, read_of, is_over, calls_of, read_in, stack_left, filled_with, Columned, told_in}
use Rattle.columns.specs.Inside.{filled_by, slots_by, ReadTo}

-- ---- a column and its times

filled_length : (times column : List ℕ) → length times ≤ length column → length (filled_with times column) ≡ length column
filled_length times column l = omega (arith, length-append times (drop (length times) column), length-drop (length times) column)

-- one more
filled_more : (times column : List ℕ) (value : ℕ) → length times < length column
    → set (filled_with times column) (length times) value ≡ filled_with (times ++ (value ∷ [])) column
filled_more times column value l =
    let n = length times in
    let e : length (times ++ (value ∷ [])) ≡ n + 1 = length-append times (value ∷ []) in
    ap (λ (rest : List ℕ). set (times ++ rest) n value) (drop_next column n l)
    ∙ set-append_seam times (get_or column n 0) (drop (n + 1) column) value
    ∙ sym (append_snoc times value (drop (n + 1) column))
    ∙ ap (λ (k : ℕ). (times ++ (value ∷ [])) ++ drop k column) (sym e)

-- times that fill a column stand in it, and are its first slots
pub record Filling (times : List ℕ) (count : ℕ) (column : List ℕ) : Type 0 where
  pub fits : count ≤ length column
  pub counted : count ≡ length (take count column)
  pub first : take count column ≡ times

pub filling : (times column column' : List ℕ) (count : ℕ) → count ≡ length times → column' ≡ filled_with times column → Filling times count column'
filling times column column' count e f =
    let first : take count column' ≡ times = rw (e, f) (take-append_seam times (drop (length times) column)) in
    let counted : count ≡ length (take count column') = e ∙ ap length (sym first) in
    record { fits = omega (arith, length-take count column'); counted = counted; first = first }

-- ---- what one answer does

-- the code's count, refusal and slots are those of what is read
pub record Same (r : Reading) (column₀ : List ℕ) (filled : Filled) (column : List ℕ) : Type 0 where
  pub times : filled.count ≡ length r.times
  pub outcome : filled.outcome ≡ r.outcome
  pub slots : column ≡ filled_with r.times column₀
  pub fits : length r.times ≤ length column₀

module _ (r : Reading) (column₀ : List ℕ) (whole : r.outcome ≡ Outcome.Whole) (fits : length r.times ≤ length column₀) where
  abbrev room : ℕ
  room = length column₀

  -- a time
  timed : (value : ℕ) (piece : Span) (t : Bool) → ltb (length r.times) room ≡ t
      → Same
      (pick t (reading (r.times ++ (value ∷ [])) r.outcome) (reading r.times (Outcome.ColumnFull piece)))
      column₀
      (pick t (record { count = length r.times + 1; outcome = Outcome.Whole }) (record { count = length r.times; outcome = Outcome.ColumnFull piece }))
      (set (filled_with r.times column₀) (length r.times) value)
  timed value piece true e =
      let l = ltb-true (length r.times) room e in
      let k = length-append r.times (value ∷ []) in
      record { times = sym k; outcome = sym whole; slots = filled_more r.times column₀ value l; fits = omega arith }
  timed value piece false e =
      let l = ltb-false (length r.times) room e in
      record { times = refl; outcome = refl; slots = set_out (filled_with r.times column₀) (length r.times) value (omega (arith, filled_length r.times column₀ fits)); fits = fits }

  same_onward : (told : Told) → Same (onward room r told) column₀ (filled_by room (length r.times) told) (slots_by (filled_with r.times column₀) (length r.times) told)
  same_onward Told.Nothing = record { times = refl; outcome = sym whole; slots = refl; fits = fits }
  same_onward (Told.Time value piece) = timed value piece (ltb (length r.times) room) refl
  same_onward (Told.Refused outcome) = record { times = refl; outcome = refl; slots = refl; fits = fits }

-- ---- end of file tells nothing

eof_tells_nothing : (doc : List ℕ) (names : List Span) (a : Answer) → is_eof a ≡ true → tells doc names a ≡ Told.Nothing
unfolding event_tells
eof_tells_nothing doc names (Answer.Event e) h =
    let k : kind_number e.kind ≡ kind_number Kind.Eof = eqb-true (kind_number e.kind) (kind_number Kind.Eof) h in
    let n : kind_number e.kind ≡ kind_number Kind.Text → ⊥ = λ z. omega arith in
    let m : kind_number e.kind ≡ kind_number Kind.GeneralRef → ⊥ = λ z. omega arith in
    rw (ne_eqb (kind_number e.kind) (kind_number Kind.Text) n, ne_eqb (kind_number e.kind) (kind_number Kind.GeneralRef) m) refl
eof_tells_nothing doc names (Answer.Refused x) h = clash false h refl

-- what is not refused is read whole
whole_outcome : (o : Outcome) → is_refused o ≡ false → o ≡ Outcome.Whole
whole_outcome Outcome.Whole e = refl
whole_outcome (Outcome.ReaderRefused x) e = clash true refl e
whole_outcome (Outcome.BadTime x) e = clash true refl e
whole_outcome (Outcome.ColumnFull x) e = clash true refl e

-- ---- a run

module _ (doc stack₀ column₀ : List ℕ) where
  abbrev after : ℕ → World
  after n = run doc stack₀ defaults n

  -- what the first n answers tell, and how many of them were asked for
  abbrev pub heard : ℕ → Reading
  heard n = read_of doc (length column₀) (after n).answers

  abbrev pub asked : ℕ → ℕ
  asked n = calls_of doc (length column₀) (after n).answers

  -- whether one of them is Eof, and whether the reading is over
  abbrev pub ended : ℕ → Bool
  ended n = one_is is_eof (after n).answers

  abbrev pub over : ℕ → Bool
  over n = is_over doc (length column₀) (after n).answers

  module _ (n : ℕ) where
    pub heard_next : is_refused (heard n).outcome ≡ false → heard (suc n) ≡ onward (length column₀) (heard n) (told_in doc (after n))
    unfolding run call read_of
    heard_next e = rw e refl

    pub asked_next : over n ≡ false → asked (suc n) ≡ suc (asked n)
    unfolding run call calls_of
    asked_next e = rw e refl

    pub heard_over : is_refused (heard n).outcome ≡ true → heard (suc n) ≡ heard n
    unfolding run call read_of
    heard_over e = rw e refl

    pub asked_over : over n ≡ true → asked (suc n) ≡ asked n
    unfolding run call calls_of
    asked_over e = rw e refl

    pub ended_next : is_eof (said doc (after n)) ≡ true → ended (suc n) ≡ true
    unfolding run call one_is
    ended_next e = rw e refl

    pub ended_stays : ended n ≡ true → ended (suc n) ≡ true
    unfolding run call one_is
    ended_stays e = rw e (pick_same (is_eof (said doc (after n))) true)

    pub unended_next : ended n ≡ false → is_eof (said doc (after n)) ≡ false → ended (suc n) ≡ false
    unfolding run call one_is
    unended_next e f = rw (f, e) refl

    -- a reading is over after a refusal, and after Eof
    pub over_refused : is_refused (heard n).outcome ≡ true → over n ≡ true
    over_refused e = rw e refl

    pub over_ended : ended n ≡ true → over n ≡ true
    over_ended e = rw e (pick_same (is_refused (heard n).outcome) true)

    pub not_over : is_refused (heard n).outcome ≡ false → ended n ≡ false → over n ≡ false
    not_over e f = rw (e, f) refl

  pub over_on : (n : ℕ) → over n ≡ true → over (suc n) ≡ true
  over_on n e = by (is_refused (heard n).outcome) refl
    where
      by : (t : Bool) → is_refused (heard n).outcome ≡ t → over (suc n) ≡ true
      by true f = over_refused (suc n) (ap (λ (r : Reading). is_refused r.outcome) (heard_over n f) ∙ f)
      by false f = over_ended (suc n) (ended_stays n (rw f at e))

  -- a refusal ends the reading
  pub refused_stays : (n : ℕ) → is_refused (heard n).outcome ≡ true → (k : ℕ) → heard (k + n) ≡ heard n
  refused_stays n e zero = rw (zero-add n) refl
  refused_stays n e (suc k) =
      let h = refused_stays n e k in
      rw (suc-add k n) (heard_over (k + n) (ap (λ (r : Reading). is_refused r.outcome) h ∙ e) ∙ h)

  -- where it is over no call is made
  pub over_stays : (n : ℕ) → over n ≡ true → (k : ℕ) → (over (k + n) ≡ true) × (asked (k + n) ≡ asked n)
  over_stays n e zero = rw (zero-add n) (e, refl)
  over_stays n e (suc k) = let h = over_stays n e k in rw (suc-add k n) (over_on (k + n) h.0, asked_over (k + n) h.0 ∙ h.1)

  module _ (short : length doc ≤ longest) where
    -- an Eof is the last that is heard
    module _ (n : ℕ) (goes : is_refused (heard n).outcome ≡ false) (eof : is_eof (said doc (after n)) ≡ true) where
      pub eof_heard : (k : ℕ) → heard (k + suc n) ≡ heard n
      eof_heard zero = rw (zero-add (suc n)) (heard_next n goes ∙ ap (onward (length column₀) (heard n)) (eof_tells_nothing doc _ (said doc (after n)) eof))
      eof_heard (suc k) =
          let h = eof_heard k in
          let m = k + suc n in
          let f : is_refused (heard m).outcome ≡ false = ap (λ (r : Reading). is_refused r.outcome) h ∙ goes in
          let e : is_eof (said doc (after m)) ≡ true = (eof_stays doc stack₀ defaults short n eof k).says in
          rw (suc-add k (suc n)) (heard_next m f ∙ ap (onward (length column₀) (heard m)) (eof_tells_nothing doc _ (said doc (after m)) e) ∙ h)

-- ---- a loop over calls

-- what it has after i calls, of which none is refused and none answers Eof
pub record Going (doc stack₀ column₀ : List ℕ) (i : ℕ) (stack column : List ℕ) (r : Reader) (count : ℕ) : Type 0 where
  pub short : length doc ≤ longest
  pub reader : r ≡ (run doc stack₀ defaults i).reader
  pub names : stack ≡ (run doc stack₀ defaults i).stack
  pub asks : asked doc stack₀ column₀ i ≡ i
  pub unended : ended doc stack₀ column₀ i ≡ false
  pub same : Same (heard doc stack₀ column₀ i) column₀ (record { count = count; outcome = Outcome.Whole }) column

-- what a loop has when it ends, after `calls` calls that count
read_to : (doc stack₀ column₀ : List ℕ) (f : Filled) (stack column : List ℕ) (r : Reading) (calls : ℕ) → r ≡ heard doc stack₀ column₀ (length doc + 2)
    → calls ≡ asked doc stack₀ column₀ (length doc + 2) → stack ≡ (run doc stack₀ defaults calls).stack → Same r column₀ f column
    → ReadTo doc stack₀ column₀ f stack column
read_to doc stack₀ column₀ f stack column r calls e n t s =
    record {
      count = s.times ∙ ap (λ (x : Reading). length x.times) e;
      refusal = s.outcome ∙ ap (λ (x : Reading). x.outcome) e;
      slots = s.slots ∙ ap (λ (x : Reading). filled_with x.times column₀) e;
      names = t ∙ ap (λ (k : ℕ). (run doc stack₀ defaults k).stack) n;
    }

-- before the first call
pub going_first : (doc stack column : List ℕ) (r : Reader) → made (length doc) defaults ≡ Made.Fresh r → Going doc stack column 0 stack column r 0
unfolding run read_of calls_of one_is
going_first doc stack column r e =
    let m = a_reader_made_is_a_run's doc stack defaults r e in
    record {
      short = m.0;
      reader = m.1;
      names = refl;
      asks = refl;
      unended = refl;
      same = record { times = refl; outcome = refl; slots = refl; fits = omega arith };
    }

module _ (doc stack₀ column₀ stack column : List ℕ) (r : Reader) (i count : ℕ) (g : Going doc stack₀ column₀ i stack column r count) where
  goes : is_refused (heard doc stack₀ column₀ i).outcome ≡ false
  goes = ap is_refused (sym g.same.outcome)

  reads_on : over doc stack₀ column₀ i ≡ false
  reads_on = not_over doc stack₀ column₀ i goes g.unended

  asked_onward : asked doc stack₀ column₀ (suc i) ≡ suc i
  asked_onward = asked_next doc stack₀ column₀ i reads_on ∙ ap suc g.asks

  column_length : length column ≡ length column₀
  column_length = ap length g.same.slots ∙ filled_length (heard doc stack₀ column₀ i).times column₀ g.same.fits

  -- at the end
  pub read_whole : (calls : ℕ) → calls ≡ length doc + 2 → i ≤ calls → calls ≤ i → ReadTo doc stack₀ column₀ (record { count = count; outcome = Outcome.Whole }) stack column
  read_whole calls e l m =
      let n : i ≡ length doc + 2 = omega arith in
      read_to doc stack₀ column₀ _ stack column (heard doc stack₀ column₀ i) i
      (ap (heard doc stack₀ column₀) n)
      (sym g.asks ∙ ap (asked doc stack₀ column₀) n)
      g.names
      g.same

  module _ (s : Step) (after' : List ℕ) (p : Stepped doc stack r s after') where
    answered : s ≡ step doc (run doc stack₀ defaults i).stack (run doc stack₀ defaults i).reader
    answered = p.outcome ∙ rw (g.reader, g.names) refl

    next_reader : s.reader ≡ (run doc stack₀ defaults (suc i)).reader
    unfolding run call
    next_reader = ap (λ (t : Step). t.reader) answered

    next_stack : after' ≡ (run doc stack₀ defaults (suc i)).stack
    unfolding run call
    next_stack = p.slots ∙ rw (g.reader, g.names) refl

    next_said : s.answer ≡ said doc (run doc stack₀ defaults i)
    next_said = ap (λ (t : Step). t.answer) answered

    -- the open names have their slots
    pub names_have_slots : s.reader.depth.0 * slots ≤ length after'
    names_have_slots =
        let d = depth_within_capacity doc stack₀ defaults g.short (suc i) in
        let l = stack_keeps_its_length doc stack₀ defaults g.short (suc i) in
        rw (next_reader, next_stack, l) (capacity_slots (length stack₀) (run doc stack₀ defaults (suc i)).reader.depth.0 d)

    -- at an Eof
    pub read_eof : (calls : ℕ) (x : Bool) → calls ≡ length doc + 2 → i < calls → x ≡ is_eof s.answer → x ≡ true
        → ReadTo doc stack₀ column₀ (record { count = count; outcome = Outcome.Whole }) after' column
    read_eof calls x e l f t =
        let eof : is_eof (said doc (run doc stack₀ defaults i)) ≡ true = ap is_eof (sym next_said) ∙ sym f ∙ t in
        let k = length doc + 2 - suc i in
        let n : k + suc i ≡ length doc + 2 = omega arith in
        let over-now = over_ended doc stack₀ column₀ (suc i) (ended_next doc stack₀ column₀ i eof) in
        read_to doc stack₀ column₀ _ after' column (heard doc stack₀ column₀ i) (suc i)
        (sym (eof_heard doc stack₀ column₀ g.short i goes eof k) ∙ ap (heard doc stack₀ column₀) n)
        (sym asked_onward ∙ sym (over_stays doc stack₀ column₀ (suc i) over-now k).1 ∙ ap (asked doc stack₀ column₀) n)
        next_stack
        g.same

    module _ (t : Told) (f : Filled) (column' : List ℕ) (et : t ≡ tells doc (entries after' s.reader.depth.0) s.answer)
        (ef : f ≡ filled_by (length column) count t) (ec : column' ≡ slots_by column count t) where
      told_next : t ≡ told_in doc (run doc stack₀ defaults i)
      unfolding run call
      told_next =
          et ∙ rw (next_reader, next_stack, next_said) refl
          ∙ ap (λ (names : List Span). tells doc names (said doc (run doc stack₀ defaults i))) (open_names_are_those_told doc stack₀ defaults g.short (suc i))

      heard_onward : heard doc stack₀ column₀ (suc i) ≡ onward (length column₀) (heard doc stack₀ column₀ i) t
      heard_onward = heard_next doc stack₀ column₀ i goes ∙ ap (onward (length column₀) (heard doc stack₀ column₀ i)) (sym told_next)

      same_next : Same (heard doc stack₀ column₀ (suc i)) column₀ f column'
      same_next =
          let o = same_onward (heard doc stack₀ column₀ i) column₀ (sym g.same.outcome) g.same.fits t in
          rw (heard_onward, ef, ec, column_length, g.same.slots, g.same.times) o

      module _ (x : Bool) (ex : x ≡ is_refused f.outcome) where
        -- one more call
        pub going_on : (y : Bool) → y ≡ is_eof s.answer → y ≡ false → x ≡ false → Going doc stack₀ column₀ (i + 1) after' column' s.reader f.count
        going_on y ey not_eof not_refused =
            rw (add-one i)
            record {
              short = g.short;
              reader = next_reader;
              names = next_stack;
              asks = asked_onward;
              unended = unended_next doc stack₀ column₀ i g.unended (ap is_eof (sym next_said) ∙ sym ey ∙ not_eof);
              same = rw (whole_outcome f.outcome (sym ex ∙ not_refused)) at same_next;
            }

        -- at a refusal
        pub read_refused : (calls : ℕ) → calls ≡ length doc + 2 → i < calls → x ≡ true → ReadTo doc stack₀ column₀ f after' column'
        read_refused calls e l yes-refused =
            let k = length doc + 2 - suc i in
            let n : k + suc i ≡ length doc + 2 = omega arith in
            let refused : is_refused (heard doc stack₀ column₀ (suc i)).outcome ≡ true = ap is_refused (sym same_next.outcome) ∙ sym ex ∙ yes-refused in
            let over-now = over_refused doc stack₀ column₀ (suc i) refused in
            read_to doc stack₀ column₀ f after' column' (heard doc stack₀ column₀ (suc i)) (suc i)
            (sym (refused_stays doc stack₀ column₀ (suc i) refused k) ∙ ap (heard doc stack₀ column₀) n)
            (sym asked_onward ∙ sym (over_stays doc stack₀ column₀ (suc i) over-now k).1 ∙ ap (asked doc stack₀ column₀) n)
            next_stack
            same_next

pub ruleset reads = (rules, going_first, names_have_slots, read_whole, read_eof, going_on, read_refused)

-- ---- what was read stands in the column

module _ (doc stack column : List ℕ) (f : Filled) (stack' column' : List ℕ) (p : ReadTo doc stack column f stack' column') where
  read_filling : Filling (heard doc stack column (length doc + 2)).times f.count column'
  read_filling = filling (heard doc stack column (length doc + 2)).times column column' f.count p.count p.slots

  pub times_fit : f.count ≤ length column'
  times_fit = read_filling.fits

  pub times_count : f.count ≡ length (take f.count column')
  times_count = read_filling.counted

-- ---- a reader is made, or none

module _ (doc stack column : List ℕ) (m : Made) (c : Config) (given : c ≡ defaults) (e : m ≡ made (length doc) c) where
  pub made_fresh : (r : Reader) → m ≡ Made.Fresh r → made (length doc) defaults ≡ Made.Fresh r
  made_fresh r is = ap (made (length doc)) (sym given) ∙ sym e ∙ is

  pub columned_not : (x : Refusal) → m ≡ Made.Refused x
      → Columned doc stack column (record { count = 0; outcome = Outcome.ReaderRefused x; order = Order.Kept }) stack column
  unfolding read_in stack_left
  columned_not x is =
      let f : made (length doc) defaults ≡ Made.Refused x = ap (made (length doc)) (sym given) ∙ sym e ∙ is in
      record { count = rw f refl; refusal = rw f refl; order = rw f refl; slots = rw f refl; names = rw f refl }

  module _ (r : Reader) (is : m ≡ Made.Fresh r) (f : Filled) (stack' column' : List ℕ) (p : ReadTo doc stack column f stack' column') where
    pub columned : (o : Order) → o ≡ order_of (take f.count column') → Columned doc stack column (record { count = f.count; outcome = f.outcome; order = o }) stack' column'
    unfolding read_in stack_left
    columned o eo =
        let g = made_fresh r is in
        record {
          count = rw g p.count;
          refusal = rw g p.refusal;
          order = rw g (eo ∙ ap order_of (read_filling doc stack column f stack' column' p).first);
          slots = rw g p.slots;
          names = rw g p.names;
        }

pub ruleset columns = (rules, made_fresh, columned_not, columned, times_fit)
