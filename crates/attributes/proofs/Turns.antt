-- The loops over the attributes of a tag, a law for each turn and each end. Assumes nothing.
use Prim.Native.Nat.{ℕ, suc, ◌-◌, ◌≤◌, ◌<◌}
use mathlib.Core.Path.{◌≡◌, refl, sym, ap, ◌∙◌}
use mathlib.Core.List.{List}
use mathlib.Core.Bool.{Bool, true, false}
use native.Mathlib.Omega.{arith}
use lib.ListN.{length, get_or}
use borrow.Author.Rules.{rules}
use Rattle.ground.specs.Choose.{pick}
use Rattle.ground.specs.Equal.{same}
use Rattle.ground.specs.Part.{part}
use Rattle.attributes.specs.declared.item.Attribute.{Attribute}
use Rattle.attributes.specs.declared.item.Extent.{Extent}
use Rattle.attributes.specs.declared.item.Fault.{Fault}
use Rattle.attributes.specs.declared.item.Refusal.{Refusal}
use Rattle.attributes.specs.declared.item.Item.{Item}
use Rattle.attributes.specs.declared.name.Named.{Named}
use Rattle.attributes.specs.declared.used.Use.{Use}
use Rattle.attributes.specs.Answers.{refused}
use Rattle.attributes.specs.Grammar.{name_at, named, with_name, shape_at}
use Rattle.attributes.specs.Tag.{bytes, or_else, use_in, unless_used, with_use, item_at, read_by, place, said}
use Rattle.attributes.specs.Inside.{mark_of, Marked, Comes, UseTold, ItemTold}
use Rattle.attributes.proofs.Shapes.{an_attribute's_shape, shape_rises}
use Rattle.attributes.proofs.Tags.{Moves, place_first, place_on, read_on_lem, read_said, read_at, place_order, moves, use_on, use_none, use_stays}

-- a loop that goes on behind an attribute comes nearer to a bound that it has not reached
pub nearer : (s : List ℕ) (at i : ℕ) (q : Item) (a : Attribute) → i < at → q ≡ shape_at s i → q ≡ Item.Attribute a → at - a.next < at - i
nearer s at i q a l e is = omega (arith, shape_rises s i a (an_attribute's_shape s i a (sym e ∙ is)))

-- ---- names before a place

-- a loop over the attributes before `at` stands at i, and has not met the name
pub record NotMet (s own : List ℕ) (at i : ℕ) : Type 0 where
  pub calls : ℕ
  pub here : place s calls ≡ i
  pub within : i ≤ at
  pub new : use_in s (read_by s calls) own ≡ Use.New

pub record Passing (s : List ℕ) (name at : ℕ) (own : List ℕ) (i : ℕ) : Type 0 where
  pub passed : (calls : ℕ) → Comes s name at calls → NotMet s own at i

module _ (s : List ℕ) (name at : ℕ) (own : List ℕ) where
  pub pass_start : Passing s name at own name
  pass_start =
      record {
        passed = λ k c.
            record {
              calls = 0;
              here = place_first s ∙ c.length;
              within = omega (arith, place_order s k 0 (omega arith), place_first s, c.length, c.place);
              new = use_none s own;
            };
      }

  module _ (i : ℕ) (v : Passing s name at own i) where
    pub pass_end : at ≤ i → UseTold s name at own Use.New
    pass_end l =
        record {
          told = λ k c.
              let p = v.passed k c in
              let e : place s p.calls ≡ place s k = omega (arith, p.here, p.within, c.place) in
              sym (ap (λ (b : List Attribute). use_in s b own) (sym (read_at s p.calls k e)) ∙ p.new);
        }

    module _ (l : i < at) (q : Item) (e : q ≡ shape_at s i) where
      -- what is read there is what stands there
      met : (k : ℕ) (c : Comes s name at k) → (m : Moves s (v.passed k c).calls k) → q ≡ Item.Attribute m.attribute
      met k c m =
          let p = v.passed k c in
          e ∙ ap (shape_at s) (sym p.here) ∙ (read_said s p.calls m.attribute m.is).shape

      moved : (k : ℕ) (c : Comes s name at k) → Moves s (v.passed k c).calls k
      moved k c = let p = v.passed k c in moves s p.calls k (omega (arith, p.here, c.place))

      pass_none : ((a : Attribute) → q ≡ Item.Attribute a → ⊥) → UseTold s name at own Use.New
      pass_none n = record { told = λ k c. let m = moved k c in absurd (n m.attribute (met k c m)) }

      pub pass_nothing : q ≡ Item.Nothing → UseTold s name at own Use.New
      pass_nothing is = pass_none (λ a f. let z : ◌≡◌ {A = ℕ} 0 1 = cc in omega arith)

      pub pass_refused : (x : Refusal) → q ≡ Item.Refused x → UseTold s name at own Use.New
      pass_refused x is = pass_none (λ a f. let z : ◌≡◌ {A = ℕ} 0 1 = cc in omega arith)

      module _ (a : Attribute) (is : q ≡ Item.Attribute a) (w o : List ℕ) (x : Bool) (ew : w ≡ part s a.name.from a.name.to) (eo : o ≡ own) (ex : x ≡ same w o) where
        told_same : same (bytes s a.name) own ≡ x
        told_same = rw (← ew, ← eo) (sym ex)

        -- one more is read
        use_next : (k : ℕ) (c : Comes s name at k) → use_in s (read_by s (suc (v.passed k c).calls)) own ≡ pick x (Use.At a.name.from) Use.New
        use_next k c =
            let p = v.passed k c in
            let m = moved k c in
            let z : m.attribute ≡ a = let f = sym (met k c m) ∙ is in cc in
            ap (λ (b : List Attribute). use_in s b own) (read_on_lem s p.calls m.attribute m.is)
            ∙ use_on s own m.attribute (read_by s p.calls)
            ∙ ap (λ (b : Attribute). or_else (use_in s (read_by s p.calls) own) (pick (same (bytes s b.name) own) (Use.At b.name.from) Use.New)) z
            ∙ rw (p.new, told_same) refl

        pub pass_found : x ≡ true → UseTold s name at own (Use.At a.name.from)
        pass_found t =
            record {
              told = λ k c.
                  let m = moved k c in
                  sym (use_stays s own a.name.from k (suc (v.passed k c).calls) m.upto (use_next k c ∙ rw t refl));
            }

        pub pass_turn : x ≡ false → Passing s name at own a.next
        pass_turn t =
            record {
              passed = λ k c.
                  let p = v.passed k c in
                  let m = moved k c in
                  let z : m.attribute ≡ a = let f = sym (met k c m) ∙ is in cc in
                  let n : place s (suc p.calls) ≡ a.next = place_on s p.calls m.attribute m.is ∙ ap (λ (b : Attribute). b.next) z in
                  record {
                    calls = suc p.calls;
                    here = n;
                    within = omega (arith, place_order s k (suc p.calls) m.upto, n, c.place);
                    new = use_next k c ∙ rw t refl;
                  };
            }

pub ruleset uses = (rules, nearer, pass_start, pass_end, pass_nothing, pass_refused, pass_found, pass_turn)

-- ---- what is answered at a place

module _ (s : List ℕ) (name at : ℕ) (seen : List ℕ) (q : Named) (e : q ≡ name_at s at) where
  said_as : (k : ℕ) → Comes s name at k → said s k ≡ with_use s (read_by s k) q
  unfolding item_at
  said_as k c = rw e (ap (λ (p : ℕ). with_use s (read_by s k) (name_at s p)) c.place)

  shape_as : shape_at s at ≡ with_name s q
  unfolding shape_at
  shape_as = ap (with_name s) (sym e)

  pub item_nothing : q ≡ Named.Nothing → ItemTold s name at seen Item.Nothing
  item_nothing is =
      record {
        told = λ k c m. sym (said_as k c ∙ rw is refl);
        shaped = λ a f. let z : ◌≡◌ {A = ℕ} 0 1 = cc in absurd (omega arith);
      }

  pub item_refused : (x : Refusal) → q ≡ Named.Refused x → ItemTold s name at seen (Item.Refused x)
  item_refused x is =
      record {
        told = λ k c m. sym (said_as k c ∙ rw is refl);
        shaped = λ a f. let z : ◌≡◌ {A = ℕ} 0 1 = cc in absurd (omega arith);
      }

  module _ (own : Extent) (is : q ≡ Named.Name own) where
    said_by : (k : ℕ) → Comes s name at k → (u : Use) → use_in s (read_by s k) (bytes s own) ≡ u → said s k ≡ unless_used s own u
    said_by k c u f = said_as k c ∙ rw (is, f) refl

    item_named : (r : Item) → r ≡ named s own → ((k : ℕ) → Comes s name at k → Marked s (read_by s k) seen → use_in s (read_by s k) (bytes s own) ≡ Use.New) → ItemTold s name at seen r
    item_named r g new =
        record {
          told = λ k c m. g ∙ sym (said_by k c Use.New (new k c m));
          shaped = λ a f. shape_as ∙ rw is (sym g ∙ f);
        }

    pub item_unmarked : (r : Item) (mark : ℕ) → mark ≡ mark_of (length seen) (bytes s own) → get_or seen mark 0 ≡ 0 → r ≡ named s own → ItemTold s name at seen r
    item_unmarked r mark f z g = item_named r g (λ k c m. m (bytes s own) (ap (λ (i : ℕ). get_or seen i 0) (sym f) ∙ z))

    module _ (u : Use) (w : UseTold s name at (bytes s own) u) where
      pub item_new : (r : Item) → u ≡ Use.New → r ≡ named s own → ItemTold s name at seen r
      item_new r n g = item_named r g (λ k c m. sym (w.told k c) ∙ n)

      pub item_used : (first : ℕ) (r : Item) → u ≡ Use.At first → r ≡ refused (Fault.NameUsed first) own.from → ItemTold s name at seen r
      item_used first r n g =
          record {
            told = λ k c m. g ∙ sym (said_by k c (Use.At first) (sym (w.told k c) ∙ n));
            shaped = λ a f. let z : ◌≡◌ {A = ℕ} 0 1 = cc in absurd (omega arith);
          }

pub ruleset items = (rules, item_nothing, item_refused, item_unmarked, item_new, item_used)
