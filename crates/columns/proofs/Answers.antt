-- What an answer tells, a law for each way through the code. Assumes nothing.
use Prim.Native.Nat.{ℕ, suc, ◌+◌, ◌-◌, ◌*◌, ◌≤◌, ◌<◌}
use mathlib.Core.Path.{◌≡◌, refl, sym, ap, ◌∙◌}
use mathlib.Core.List.{List}
use mathlib.Core.Bool.{Bool, true, false}
use native.Mathlib.Omega.{arith}
use lib.ListN.{length, get_or, set}
use lib.Seq.{set_out}
use lib.Dec.{eqb}
use borrow.Author.Rules.{rules}
use borrow.Author.Tests.{eq-eqb, ne_eqb, lt-ltb, le-ltb}
use Rattle.ground.specs.Equal.{same}
use Rattle.ground.specs.Part.{part}
use Rattle.state.specs.declared.place.Span.{Span}
use Rattle.state.specs.declared.answer.Kind.{Kind}
use Rattle.state.specs.declared.answer.Event.{Event}
use Rattle.state.specs.declared.answer.Answer.{Answer}
use Rattle.state.specs.declared.answer.Refusal.{Refusal}
use Rattle.state.specs.declared.answer.Values.{Values}
use Rattle.state.specs.Values.{kind_number, values_of}
use Rattle.reader.specs.Names.{bytes}
use Rattle.demands.specs.Answers.{is_eof}
use Rattle.demands.specs.Open.{entries}
use Rattle.columns.specs.declared.text.Text.{Text}
use Rattle.columns.specs.declared.told.Told.{Told}
use Rattle.columns.specs.declared.outcome.Outcome.{Outcome}
use Rattle.columns.specs.Time.{read_time}
use Rattle.columns.specs.Told.{t_name, within, text_told_as, text_tells, event_tells, tells}
use Rattle.columns.specs.Inside.{filled_by, slots_by}

-- end of file
pub eof_is : (a : Answer) (v : Values) (n : ℕ) → v ≡ values_of a → n ≡ kind_number Kind.Eof → eqb v.kind n ≡ is_eof a
eof_is a v n e f = rw (e, f) refl

-- ---- the latest open name

module _ (doc stack : List ℕ) (d : ℕ) where
  pub within_none : d ≡ 0 → false ≡ within doc (entries stack d)
  unfolding entries
  within_none z = rw z refl

  pub within_latest : (name : List ℕ) (x : Bool) → (d ≡ 0 → ⊥) → name ≡ part doc (get_or stack ((d - 1) * 2) 0) (get_or stack ((d - 1) * 2 + 1) 0) → x ≡ same name t_name
      → x ≡ within doc (entries stack d)
  unfolding entries
  within_latest name x n e f =
      let k : d ≡ suc (d - 1) = omega arith in
      f ∙ ap (λ (bs : List ℕ). same bs t_name) e ∙ sym (ap (λ (i : ℕ). within doc (entries stack i)) k)

pub ruleset names = (rules, within_none, within_latest)

-- ---- events

pub text_tells_lem : (text : List ℕ) (piece : Span) (t k : Text) (r : Told) → t ≡ read_time text → t ≡ k → r ≡ text_told_as piece k → r ≡ text_tells text piece
unfolding text_tells
text_tells_lem text piece t k r e is f = f ∙ ap (text_told_as piece) (sym is ∙ e)

module _ (doc : List ℕ) (names : List Span) (e : Event) (n m : ℕ) (en : n ≡ kind_number e.kind) (em : m ≡ kind_number Kind.Text) where
  module _ (is : n ≡ m) (w : Bool) (ew : w ≡ within doc names) where
    is_text_lem : kind_number e.kind ≡ kind_number Kind.Text
    is_text_lem = sym en ∙ is ∙ em

    pub event_text : (bs : List ℕ) (r : Told) → w ≡ true → bs ≡ bytes doc e.content → r ≡ text_tells bs e.piece → r ≡ event_tells doc names e
    unfolding event_tells
    event_text bs r t f g = rw (eq-eqb _ _ is_text_lem, ← ew, t) (g ∙ ap (λ (b : List ℕ). text_tells b e.piece) f)

    pub event_text_elsewhere : w ≡ false → Told.Nothing ≡ event_tells doc names e
    unfolding event_tells
    event_text_elsewhere t = rw (eq-eqb _ _ is_text_lem, ← ew, t) refl

  module _ (no_text : n ≡ m → ⊥) (k : ℕ) (ek : k ≡ kind_number Kind.GeneralRef) where
    not_text : eqb (kind_number e.kind) (kind_number Kind.Text) ≡ false
    not_text = ne_eqb _ _ (λ z. no_text (en ∙ z ∙ sym em))

    pub event_other : (n ≡ k → ⊥) → Told.Nothing ≡ event_tells doc names e
    unfolding event_tells
    event_other no_ref = rw (not_text, ne_eqb (kind_number e.kind) (kind_number Kind.GeneralRef) (λ z. no_ref (en ∙ z ∙ sym ek))) refl

    module _ (is : n ≡ k) (w : Bool) (ew : w ≡ within doc names) where
      is_ref : eqb (kind_number e.kind) (kind_number Kind.GeneralRef) ≡ true
      is_ref = eq-eqb _ _ (sym en ∙ is ∙ ek)

      pub event_ref : w ≡ true → Told.Refused (Outcome.BadTime e.piece) ≡ event_tells doc names e
      unfolding event_tells
      event_ref t = rw (not_text, is_ref, ← ew, t) refl

      pub event_ref_elsewhere : w ≡ false → Told.Nothing ≡ event_tells doc names e
      unfolding event_tells
      event_ref_elsewhere t = rw (not_text, is_ref, ← ew, t) refl

module _ (doc : List ℕ) (names : List Span) (a : Answer) where
  pub tells_event : (e : Event) (r : Told) → a ≡ Answer.Event e → r ≡ event_tells doc names e → r ≡ tells doc names a
  tells_event e r is f = rw is f

  pub tells_refused : (x : Refusal) → a ≡ Answer.Refused x → Told.Refused (Outcome.ReaderRefused x) ≡ tells doc names a
  tells_refused x is = rw is refl

pub ruleset events = (rules, tells_event, tells_refused, event_text, event_text_elsewhere, event_ref, event_ref_elsewhere, event_other)

-- ---- what that does to the column

module _ (column : List ℕ) (count : ℕ) (told : Told) where
  module _ (is : told ≡ Told.Nothing) where
    pub fills_nothing : record { count = count; outcome = Outcome.Whole } ≡ filled_by (length column) count told
    fills_nothing = rw is refl

    pub writes_nothing : column ≡ slots_by column count told
    writes_nothing = rw is refl

  module _ (outcome : Outcome) (is : told ≡ Told.Refused outcome) where
    pub fills_refused : record { count = count; outcome = outcome } ≡ filled_by (length column) count told
    fills_refused = rw is refl

    pub writes_refused : column ≡ slots_by column count told
    writes_refused = rw is refl

  module _ (value : ℕ) (piece : Span) (is : told ≡ Told.Time value piece) where
    pub fills_time : count < length column → record { count = count + 1; outcome = Outcome.Whole } ≡ filled_by (length column) count told
    fills_time l = rw (is, lt-ltb count (length column) l) refl

    pub writes_time : set column count value ≡ slots_by column count told
    writes_time = rw is refl

    pub fills_full : length column ≤ count → record { count = count; outcome = Outcome.ColumnFull piece } ≡ filled_by (length column) count told
    fills_full l = rw (is, le-ltb count (length column) l) refl

    pub writes_full : length column ≤ count → column ≡ slots_by column count told
    writes_full l = rw is (sym (set_out column count value l))

pub ruleset fills = (rules, fills_nothing, writes_nothing, fills_refused, writes_refused, fills_time, writes_time, fills_full, writes_full)
