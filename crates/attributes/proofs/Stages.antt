-- The stages of an attribute, a law for each way through their code. Assumes nothing.
use Prim.Native.Nat.{ℕ, ◌+◌, ◌^◌, ◌≤◌, ◌<◌}
use mathlib.Core.Path.{◌≡◌, refl, sym, ap, ◌∙◌}
use mathlib.Core.List.{List}
use mathlib.Core.Bool.{Bool, true, false}
use native.Mathlib.Omega.{arith}
use lib.ListN.{length}
use lib.Dec.{eqb}
use mir.Val.{Fits}
use mir.Syntax.{w64}
use borrow.Author.Rules.{rules}
use borrow.Author.Tests.{eq-eqb, ne_eqb, le-leb, lt-leb}
use Rattle.ground.specs.Part.{part}
use Rattle.ground.specs.Bytes.{lt}
use Rattle.white.specs.White.{leading}
use Rattle.attributes.specs.declared.equals.Equals.{Equals}
use Rattle.attributes.specs.declared.item.Extent.{Extent}
use Rattle.attributes.specs.declared.item.Fault.{Fault}
use Rattle.attributes.specs.declared.item.Refusal.{Refusal}
use Rattle.attributes.specs.declared.item.Item.{Item}
use Rattle.attributes.specs.declared.name.Named.{Named}
use Rattle.attributes.specs.declared.value.Valued.{Valued}
use Rattle.attributes.specs.Answers.{refusal, extent}
use Rattle.attributes.specs.Grammar.{is_quote, equals_sign, byte, name_end, value_end, name_from, name_at, equals_at, quoted_from, value_at, attribute_of, named, shape_at}
use Rattle.attributes.specs.Words.{Quoted}
use Rattle.attributes.proofs.Bytes.{past_is}
use Rattle.attributes.proofs.Shapes.{passes_in, value_words}

-- the place behind a byte of the content is a number that fits
in_fits : (s : List ℕ) (i : ℕ) → i < length s → length s < 2 ^ 64 → Fits w64 (i + 1)
in_fits s i h l = record { fits = omega arith }

-- ---- the name

module _ (s : List ℕ) (at from : ℕ) (e : from ≡ at + leading (part s at (length s))) where
  pub name_nothing : length s ≤ from → Named.Nothing ≡ name_at s at
  unfolding name_at
  name_nothing l = rw (← past_is s at from e, le-leb (length s) from l) refl

  module _ (l : from < length s) where
    pub name_no_space : from ≡ at → Named.Refused (refusal Fault.NoSpace at) ≡ name_at s at
    unfolding name_at
    name_no_space h = rw (← past_is s at from e, lt-leb (length s) from l, eq-eqb from at h) refl

    module _ (n : from ≡ at → ⊥) (to : ℕ) (f : to ≡ name_end s from) where
      pub name_empty : to ≡ from → Named.Refused (refusal Fault.EmptyName from) ≡ name_at s at
      unfolding name_at name_from
      name_empty h = rw (← past_is s at from e, lt-leb (length s) from l, ne_eqb from at n, ← f, eq-eqb to from h) refl

      pub name_found : (to ≡ from → ⊥) → Named.Name (extent from to) ≡ name_at s at
      unfolding name_at name_from
      name_found h = rw (← past_is s at from e, lt-leb (length s) from l, ne_eqb from at n, ← f, ne_eqb to from h) refl

pub ruleset names = (rules, name_nothing, name_no_space, name_empty, name_found)

-- ---- the equals sign

module _ (s : List ℕ) (at sign b : ℕ) (e : sign ≡ at + leading (part s at (length s))) (f : b ≡ byte s sign) where
  module _ (h : b ≡ equals_sign) where
    pub equals_found : Equals.Before (sign + 1) ≡ equals_at s at
    unfolding equals_at
    equals_found = rw (← past_is s at sign e, ← f, eq-eqb b equals_sign h) refl

    pub equals_fits : length s < 2 ^ 64 → Fits w64 (sign + 1)
    equals_fits = in_fits s sign (passes_in (λ (k : ℕ). eqb k equals_sign) refl s sign (eq-eqb (byte s sign) equals_sign (sym f ∙ h)))

  pub equals_none : (b ≡ equals_sign → ⊥) → Equals.Refused (refusal Fault.NoEquals sign) ≡ equals_at s at
  unfolding equals_at
  equals_none h = rw (← past_is s at sign e, ← f, ne_eqb b equals_sign h) refl

pub ruleset signs = (rules, equals_found, equals_fits, equals_none)

-- ---- the value

module _ (s : List ℕ) (quote from to : ℕ) (e : to ≡ value_end s quote from) where
  pub quoted_open : length s ≤ to → Valued.Refused (refusal (Fault.NoClosingQuote quote) (length s)) ≡ quoted_from s quote from
  unfolding quoted_from
  quoted_open l = rw (← e, le-leb (length s) to l) refl

  module _ (l : to < length s) where
    pub quoted_less : byte s to ≡ lt → Valued.Refused (refusal Fault.LessThan to) ≡ quoted_from s quote from
    unfolding quoted_from
    quoted_less h = rw (← e, lt-leb (length s) to l, eq-eqb (byte s to) lt h) refl

    pub quoted_closed : (byte s to ≡ lt → ⊥) → Valued.Value (extent from to) ≡ quoted_from s quote from
    unfolding quoted_from
    quoted_closed h = rw (← e, lt-leb (length s) to l, ne_eqb (byte s to) lt h) refl

module _ (s : List ℕ) (at opening quote : ℕ) (x : Bool) (e : opening ≡ at + leading (part s at (length s))) (f : quote ≡ byte s opening) (g : x ≡ is_quote quote) where
  is_quote_lem : is_quote (byte s opening) ≡ x
  is_quote_lem = sym (g ∙ ap is_quote f)

  module _ (h : x ≡ true) where
    pub value_quoted : (r : Valued) → r ≡ quoted_from s quote (opening + 1) → r ≡ value_at s at
    unfolding value_at
    value_quoted r k = rw (← past_is s at opening e, is_quote_lem, h, ← f) k

    pub value_fits : length s < 2 ^ 64 → Fits w64 (opening + 1)
    value_fits = in_fits s opening (passes_in is_quote refl s opening (is_quote_lem ∙ h))

  pub value_none : x ≡ false → Valued.Refused (refusal Fault.NoOpeningQuote opening) ≡ value_at s at
  unfolding value_at
  value_none h = rw (← past_is s at opening e, is_quote_lem, h) refl

pub ruleset values = (rules, quoted_open, quoted_less, quoted_closed, value_quoted, value_fits, value_none)

-- ---- an attribute

module _ (s : List ℕ) (name : Extent) (q : Equals) (e : q ≡ equals_at s name.to) where
  pub named_no_equals : (x : Refusal) → q ≡ Equals.Refused x → Item.Refused x ≡ named s name
  unfolding named
  named_no_equals x is = rw (← e, is) refl

  module _ (at : ℕ) (is : q ≡ Equals.Before at) (v : Valued) (f : v ≡ value_at s at) where
    pub named_no_value : (x : Refusal) → v ≡ Valued.Refused x → Item.Refused x ≡ named s name
    unfolding named
    named_no_value x got = rw (← e, is, ← f, got) refl

    module _ (value : Extent) (got : v ≡ Valued.Value value) where
      pub named_whole : Item.Attribute (attribute_of name value) ≡ named s name
      unfolding named
      named_whole = rw (← e, is, ← f, got) refl

pub named_fits : (s : List ℕ) (at : ℕ) (v : Valued) (value : Extent) → v ≡ value_at s at → v ≡ Valued.Value value → length s < 2 ^ 64 → Fits w64 (value.to + 1)
named_fits s at v value f got l =
    let w : Quoted s at value = rw (← f, got) at (value_words s at) in
    in_fits s value.to w.within l

module _ (s : List ℕ) (at : ℕ) (q : Named) (e : q ≡ name_at s at) where
  pub shape_nothing : q ≡ Named.Nothing → Item.Nothing ≡ shape_at s at
  unfolding shape_at
  shape_nothing is = rw (← e, is) refl

  pub shape_refused : (x : Refusal) → q ≡ Named.Refused x → Item.Refused x ≡ shape_at s at
  unfolding shape_at
  shape_refused x is = rw (← e, is) refl

  pub shape_named : (name : Extent) (r : Item) → q ≡ Named.Name name → r ≡ named s name → r ≡ shape_at s at
  unfolding shape_at
  shape_named name r is f = rw (← e, is) f

pub ruleset shapes = (rules, named_no_equals, named_no_value, named_whole, named_fits, shape_nothing, shape_refused, shape_named)
