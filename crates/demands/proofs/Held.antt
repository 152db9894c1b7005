-- What holds between the calls of a run: every state is sound, and the stack holds the names that the answers left open. Assumes nothing.
use Prim.Native.Nat.{ℕ, zero, suc, ◌+◌, ◌-◌, ◌*◌, ◌≤◌, ◌<◌}
use mathlib.Core.Path.{◌≡◌, refl, sym, ap, ◌∙◌, subst}
use mathlib.Core.List.{List, [], ◌∷◌}
use mathlib.Core.Bool.{true, false}
use native.Mathlib.Omega.{arith}
use native.Mathlib.Numerals.{add-one}
use lib.ListN.{length, set, length-set}
use lib.Seq.{get_or-set_same, get_or-set_other}
use lib.Dec.{eqb}
use borrow.Author.Tests.{eq-eqb, ne_eqb}
use Rattle.ground.proofs.Choices.{pick_cases}
use Rattle.state.specs.declared.place.Span.{Span}
use Rattle.state.specs.declared.config.Config.{Config}
use Rattle.state.specs.declared.answer.Kind.{Kind}
use Rattle.state.specs.declared.answer.Answer.{Answer}
use Rattle.state.specs.Limits.{longest, slots, capacity}
use Rattle.state.specs.Values.{kind_number, values_of}
use Rattle.state.specs.Make.{fresh}
use Rattle.state.proofs.Numbers.{no_kind}
use Rattle.state.proofs.Room.{capacity_slots}
use Rattle.reader.specs.Names.{latest, pushed, name_of, bytes, written}
use Rattle.reader.specs.Sound.{is_in_place, sound}
use Rattle.reader.specs.Step.{step}
use Rattle.reader.proofs.Outside.{Turned, Named, keeps, opens, closes, mismatches, closes_nothing, unmatches, Quiet, Tagged, name_within, step_turn}
use Rattle.reader.proofs.States.{true_sound}
use Rattle.demands.specs.Run.{World, said, call, run}
use Rattle.demands.specs.Open.{entries, opened, newest, rest, left_open}

-- ---- the names that a stack holds

-- a slot at or above a depth is none of the entries below it
entries_set : (stack : List ℕ) (d i v : ℕ) → d * slots ≤ i → entries (set stack i v) d ≡ entries stack d
unfolding entries
entries_set stack zero i v h = refl
entries_set stack (suc d) i v h =
    let a : d * 2 ≡ i → ⊥ = λ e. omega arith in
    let b : d * 2 + 1 ≡ i → ⊥ = λ e. omega arith in
    rw (get_or-set_other stack i (d * 2) v 0 a, get_or-set_other stack i (d * 2 + 1) v 0 b, entries_set stack d i v (omega arith))

-- a name that is written is the latest entry, and the others stay
entries_pushed : (stack : List ℕ) (d : ℕ) (name : Span) → d * slots + 1 < length stack → entries (pushed stack d name) (d + 1) ≡ name ∷ entries stack d
unfolding entries pushed
entries_pushed stack d name h =
    let i : d * 2 ≡ d * 2 + 1 → ⊥ = λ e. omega arith in
    rw (add-one d)
    (rw (
      get_or-set_other (set stack (d * 2) name.from) (d * 2 + 1) (d * 2) name.to 0 i,
      get_or-set_same stack (d * 2) name.from 0 (omega arith),
      get_or-set_same (set stack (d * 2) name.from) (d * 2 + 1) name.to 0 (rw length-set h),
      entries_set (set stack (d * 2) name.from) d (d * 2 + 1) name.to (omega arith),
      entries_set stack d (d * 2) name.from (omega arith),
    ))

-- the entries are the latest name and the others
entries_latest : (stack : List ℕ) (d : ℕ) → 0 < d → entries stack d ≡ latest stack d ∷ entries stack (d - 1)
unfolding entries latest
entries_latest stack zero h = absurd (omega arith)
entries_latest stack (suc d) h =
    let n : suc d ≡ 0 → ⊥ = λ e. omega arith in
    let e : suc d - 1 ≡ d = omega arith in
    rw (ne_eqb (suc d) 0 n, e)

pub entries_length : (stack : List ℕ) (d : ℕ) → length (entries stack d) ≡ d
unfolding entries
entries_length stack zero = refl
entries_length stack (suc d) = ap suc (entries_length stack d)

-- ---- what an answer writes, and what it leaves open

module _ (a : Answer) where
  module _ (stack : List ℕ) (d : ℕ) where
    start_writes : (values_of a).kind ≡ kind_number Kind.Start → written stack d a ≡ pushed stack d (name_of a)
    unfolding written
    start_writes k = rw (eq-eqb _ _ k)

    pub other_writes : ((values_of a).kind ≡ kind_number Kind.Start → ⊥) → written stack d a ≡ stack
    unfolding written
    other_writes n = rw (ne_eqb _ _ n)

    pub written_length : length (written stack d a) ≡ length stack
    unfolding written pushed
    written_length = pick_cases (λ (l : List ℕ). length l ≡ length stack) (eqb (values_of a).kind (kind_number Kind.Start)) _ _ (λ _. simp length-set) (λ _. refl)

  module _ (before : List Answer) where
    left_start : (values_of a).kind ≡ kind_number Kind.Start → left_open (a ∷ before) ≡ name_of a ∷ left_open before
    unfolding left_open
    left_start k = rw (eq-eqb _ _ k)

    left_end : (values_of a).kind ≡ kind_number Kind.End → left_open (a ∷ before) ≡ rest (left_open before)
    unfolding left_open
    left_end k =
        let n : (values_of a).kind ≡ kind_number Kind.Start → ⊥ = λ e. omega arith in
        rw (ne_eqb (values_of a).kind (kind_number Kind.Start) n, eq-eqb (values_of a).kind (kind_number Kind.End) k)

    left_mismatch : (values_of a).number ≡ 10 → left_open (a ∷ before) ≡ rest (left_open before)
    unfolding left_open
    left_mismatch m =
        let z = no_kind a (omega arith) in
        let n : (values_of a).kind ≡ kind_number Kind.Start → ⊥ = λ e. omega arith in
        let o : (values_of a).kind ≡ kind_number Kind.End → ⊥ = λ e. omega arith in
        rw (ne_eqb (values_of a).kind (kind_number Kind.Start) n, ne_eqb (values_of a).kind (kind_number Kind.End) o, eq-eqb (values_of a).number 10 m)

    left_other : ((values_of a).kind ≡ kind_number Kind.Start → ⊥) → ((values_of a).kind ≡ kind_number Kind.End → ⊥) → ((values_of a).number ≡ 10 → ⊥)
        → left_open (a ∷ before) ≡ left_open before
    unfolding left_open
    left_other n o m =
        rw (ne_eqb (values_of a).kind (kind_number Kind.Start) n, ne_eqb (values_of a).kind (kind_number Kind.End) o, ne_eqb (values_of a).number 10 m)

-- ---- one call, as the open names show it

pub data Does (doc : List ℕ) (w : World) : Type 0 where
  keeping : Quiet (said doc w) → opened (call doc w) ≡ opened w → Does doc w
  adding : (values_of (said doc w)).kind ≡ kind_number Kind.Start → opened (call doc w) ≡ name_of (said doc w) ∷ opened w
      → Tagged doc (step doc w.stack w.reader) → Does doc w
  closing : (values_of (said doc w)).kind ≡ kind_number Kind.End → opened w ≡ newest w ∷ opened (call doc w)
      → (w.reader.settings.check_end_names ≡ true → bytes doc (values_of (said doc w)).content ≡ bytes doc (newest w)) → Does doc w
  mismatching : (values_of (said doc w)).number ≡ 10 → opened w ≡ newest w ∷ opened (call doc w) → w.reader.settings.check_end_names ≡ true
      → (values_of (said doc w)).expected ≡ newest w → (bytes doc (values_of (said doc w)).found ≡ bytes doc (newest w) → ⊥) → Does doc w
  straying : (values_of (said doc w)).kind ≡ kind_number Kind.End → opened w ≡ [] → opened (call doc w) ≡ [] → w.reader.settings.allow_unmatched_ends ≡ true → Does doc w
  unmatching : (values_of (said doc w)).number ≡ 11 → opened w ≡ [] → opened (call doc w) ≡ [] → w.reader.settings.allow_unmatched_ends ≡ false → Does doc w

none_open : (stack : List ℕ) (d : ℕ) → d ≡ 0 → entries stack d ≡ []
unfolding entries
none_open stack d z = rw z

module _ (doc : List ℕ) (w : World) (deep : w.reader.depth.0 ≤ capacity (length w.stack)) where
  abbrev d : ℕ
  d = w.reader.depth.0

  does : Named doc (capacity (length w.stack)) (newest w) w.reader (step doc w.stack w.reader) → Does doc w
  unfolding call
  does (keeps q e) = keeping q (rw (other_writes (said doc w) w.stack d q.0, e) refl)
  does (opens k room e tag) =
      let h : d * slots + 1 < length w.stack = omega (arith, capacity_slots (length w.stack) (d + 1) (omega arith)) in
      adding k (rw (start_writes (said doc w) w.stack d k, e) (entries_pushed w.stack d (name_of (said doc w)) h)) tag
  does (closes k z e same) =
      let n : (values_of (said doc w)).kind ≡ kind_number Kind.Start → ⊥ = λ e. omega arith in
      closing k (rw (other_writes (said doc w) w.stack d n, e) (entries_latest w.stack d z)) same
  does (mismatches m z e on x y) =
      let n : (values_of (said doc w)).kind ≡ kind_number Kind.Start → ⊥ = λ e. let z = no_kind (said doc w) (omega arith) in omega arith in
      mismatching m (rw (other_writes (said doc w) w.stack d n, e) (entries_latest w.stack d z)) on x y
  does (closes_nothing k z e on) = straying k (none_open _ _ z) (none_open _ _ e) on
  does (unmatches m z e off) = unmatching m (none_open _ _ z) (none_open _ _ e) off

  stays_deep : Named doc (capacity (length w.stack)) (newest w) w.reader (step doc w.stack w.reader)
      → (step doc w.stack w.reader).reader.depth.0 ≤ capacity (length w.stack)
  stays_deep (keeps q e) = omega arith
  stays_deep (opens k room e tag) = omega arith
  stays_deep (closes k z e same) = omega arith
  stays_deep (mismatches m z e on x y) = omega arith
  stays_deep (closes_nothing k z e on) = omega arith
  stays_deep (unmatches m z e off) = omega arith

-- ---- what holds between two calls

-- each name is start ≤ end ≤ position
abbrev pub Behind : ℕ → List Span → Type 0
Behind p [] = Unit {0}
Behind p (n ∷ ns) = (n.from ≤ n.to) × (n.to ≤ p) × Behind p ns

further : (p q : ℕ) (ns : List Span) → p ≤ q → Behind p ns → Behind q ns
further p q [] h b = tt
further p q (n ∷ ns) h b = (b.0, omega (arith, b.1), further p q ns h b.2)

latest_behind : (stack : List ℕ) (d p : ℕ) → Behind p (entries stack d) → ((latest stack d).from ≤ (latest stack d).to) × ((latest stack d).to ≤ p)
unfolding latest entries
latest_behind stack zero p b = omega arith
latest_behind stack (suc d) p b =
    let n : suc d ≡ 0 → ⊥ = λ e. omega arith in
    let e : suc d - 1 ≡ d = omega arith in
    rw (ne_eqb (suc d) 0 n, e) (b.0, b.1)

pub record Held (doc : List ℕ) (c : Config) (w : World) : Type 0 where
  pub size : w.reader.length ≡ length doc
  pub settings : w.reader.settings ≡ c
  pub in_doc : w.reader.position.0 ≤ length doc
  pub deep : w.reader.depth.0 ≤ capacity (length w.stack)
  pub in_place : is_in_place doc w.reader ≡ true
  pub names : opened w ≡ left_open w.answers
  pub behind : Behind w.reader.position.0 (opened w)

module _ (doc : List ℕ) (c : Config) (short : length doc ≤ longest) where
  pub held_sound : (w : World) → Held doc c w → sound doc w.stack w.reader ≡ true
  held_sound w h =
      let b = latest_behind w.stack w.reader.depth.0 w.reader.position.0 h.behind in
      true_sound doc w.stack w.reader
      (record { size = h.size; short = short; in_doc = h.in_doc; deep = h.deep; ordered = b.0; behind = b.1; in_place = h.in_place })

  module _ (w : World) (h : Held doc c w) where
    pub held_turn : Turned doc (capacity (length w.stack)) (newest w) w.reader (step doc w.stack w.reader)
    held_turn = step_turn doc w.stack w.reader (held_sound w h)

    pub held_does : Does doc w
    held_does = does doc w h.deep held_turn.names

    call_names : Does doc w → opened (call doc w) ≡ left_open (said doc w ∷ w.answers)
    call_names (keeping q e) = e ∙ h.names ∙ sym (left_other (said doc w) w.answers q.0 q.1 q.2.0)
    call_names (adding k e tag) = e ∙ ap (λ (ns : List Span). name_of (said doc w) ∷ ns) h.names ∙ sym (left_start (said doc w) w.answers k)
    call_names (closing k e same) = ap rest (sym e ∙ h.names) ∙ sym (left_end (said doc w) w.answers k)
    call_names (mismatching m e on x y) = ap rest (sym e ∙ h.names) ∙ sym (left_mismatch (said doc w) w.answers m)
    call_names (straying k e f on) = f ∙ ap rest (sym e ∙ h.names) ∙ sym (left_end (said doc w) w.answers k)
    call_names (unmatching m e f off) =
        let z = no_kind (said doc w) (omega arith) in
        f ∙ sym e ∙ h.names ∙ sym (left_other (said doc w) w.answers (λ e. omega arith) (λ e. omega arith) (λ e. omega arith))

    taken_behind : w.reader.position.0 ≤ (call doc w).reader.position.0 → opened w ≡ newest w ∷ opened (call doc w)
        → Behind (call doc w).reader.position.0 (opened (call doc w))
    taken_behind up e =
        let b : Behind w.reader.position.0 (newest w ∷ opened (call doc w)) = subst (Behind w.reader.position.0) e h.behind in
        further _ _ (opened (call doc w)) up b.2

    name_reaches : Tagged doc (step doc w.stack w.reader) → (name_of (said doc w)).to ≤ (call doc w).reader.position.0
    unfolding call
    name_reaches tag = name_within doc (step doc w.stack w.reader) tag

    call_behind : w.reader.position.0 ≤ (call doc w).reader.position.0 → Does doc w → Behind (call doc w).reader.position.0 (opened (call doc w))
    call_behind up (keeping q e) = rw e (further _ _ (opened w) up h.behind)
    call_behind up (adding k e tag) = rw e (omega arith, name_reaches tag, further _ _ (opened w) up h.behind)
    call_behind up (closing k e same) = taken_behind up e
    call_behind up (mismatching m e on x y) = taken_behind up e
    call_behind up (straying k e f on) = rw f tt
    call_behind up (unmatching m e f off) = rw f tt

    call_held : Held doc c (call doc w)
    unfolding call
    call_held =
        let t = held_turn in
        let l = written_length (said doc w) w.stack w.reader.depth.0 in
        record {
          size = t.size ∙ h.size;
          settings = t.settings ∙ h.settings;
          in_doc = omega (arith, t.left, t.within);
          deep = rw l (stays_deep doc w h.deep t.names);
          in_place = t.in_place;
          names = call_names held_does;
          behind = call_behind (omega (arith, t.after, t.ordered, t.left)) held_does;
        }

  -- every state of a run
  pub run_held : (stack : List ℕ) (n : ℕ) → Held doc c (run doc stack c n)
  unfolding run fresh is_in_place entries left_open
  run_held stack zero =
      record { size = refl; settings = refl; in_doc = omega arith; deep = omega arith; in_place = refl; names = refl; behind = tt }
  run_held stack (suc n) = call_held (run doc stack c n) (run_held stack n)
