-- What is known of a piece is so: each tracker has its own law, and a byte more keeps them all. Assumes nothing.
use Prim.Native.Nat.{ℕ, ◌+◌, ◌-◌, ◌≤◌, ◌<◌}
use mathlib.Core.Path.{◌≡◌, sym, ◌∙◌}
use mathlib.Core.List.{List}
use mathlib.Core.Bool.{Bool, true, false, not, ◌&&◌}
use native.Mathlib.Omega.{arith}
use lib.ListN.{length, get_or}
use lib.Dec.{eqb, ltb}
use borrow.Author.Tests.{eq-eqb, eqb-true, lt-ltb, ltb-true}
use Rattle.ground.specs.Bytes.{hyphen}
use Rattle.ground.proofs.Choices.{clash, not_true, not_false}
use Rattle.white.specs.White.{is_white}
use Rattle.parser.specs.Hyphens.{PairEnd}
use Rattle.state.specs.declared.place.Span.{Span}
use Rattle.plain.specs.declared.known.Known.{Known}
use Rattle.plain.specs.Known.{fresh, more, size_of, same_of, two_hyphens}
use Rattle.plain.proofs.Bytes.{byte_same}
use Rattle.plain.proofs.First.{First, White, first_start, first_more}
use Rattle.plain.proofs.Flags.{and_left, and_right}
use Rattle.plain.proofs.Kept.{Kept, kept_start, kept_more}
use Rattle.plain.proofs.Letters.{Spelt, spelt_start, spelt_more}
use Rattle.plain.proofs.Names.{Differs, same_true, same_false}

pub record Tracks (doc : List ℕ) (open_name : Span) (k : Known) : Type 0 where
  pub low : k.from ≤ k.at
  pub high : k.at ≤ length doc
  pub letters : Spelt doc k.from k.at k.letters
  pub kept : Kept doc k.from k.at k.kept
  pub name : First (White doc) k.from k.at k.name
  pub last : k.from < k.at → k.last ≡ get_or doc (k.at - 1) 0
  pub before : k.from + 1 < k.at → k.before ≡ get_or doc (k.at - 2) 0
  pub pair : First (PairEnd doc (k.from + 4)) k.from k.at k.pair
  pub differs : First (Differs doc open_name k.from) k.from k.at k.differs

-- no byte was read
pub tracks_fresh : (doc : List ℕ) (open_name : Span) (at : ℕ) (mark : Bool) → at ≤ length doc → Tracks doc open_name (fresh at mark)
unfolding fresh
tracks_fresh doc open_name at mark h =
    record {
      low = omega arith;
      high = h;
      letters = spelt_start doc at;
      kept = kept_start doc at;
      name = first_start (White doc) at;
      last = λ l. absurd (omega arith);
      before = λ l. absurd (omega arith);
      pair = first_start (PairEnd doc (at + 4)) at;
      differs = first_start (Differs doc open_name at) at;
    }

-- a byte more
module _ (doc : List ℕ) (open_name : Span) (k : Known) (l : k.at < length doc) (t : Tracks doc open_name k) where
  abbrev b : ℕ
  b = get_or doc k.at 0

  -- two hyphens in a row end here exactly where the test says so
  two_true : two_hyphens k b ≡ true → PairEnd doc (k.from + 4) k.at
  two_true e =
      let f = and_left (eqb b hyphen && eqb k.last hyphen) (ltb 4 (size_of k)) e in
      let s = ltb-true 4 (size_of k) (and_right (eqb b hyphen && eqb k.last hyphen) (ltb 4 (size_of k)) e) in
      record {
        after = omega (arith, s);
        within = l;
        second = eqb-true b hyphen (and_left (eqb b hyphen) (eqb k.last hyphen) f);
        first = sym (t.last (omega (arith, s))) ∙ eqb-true k.last hyphen (and_right (eqb b hyphen) (eqb k.last hyphen) f);
      }

  two_false : two_hyphens k b ≡ false → PairEnd doc (k.from + 4) k.at → ⊥
  two_false e p =
      clash (two_hyphens k b)
      (rw (
        eq-eqb b hyphen p.second,
        eq-eqb k.last hyphen (t.last (omega (arith, p.after)) ∙ p.first),
        lt-ltb 4 (size_of k) (omega (arith, p.after)),
      ))
      e

  pub tracks_more : (same : Bool) → same ≡ same_of doc k open_name b → Tracks doc open_name (more k b same)
  unfolding more
  tracks_more same q =
      record {
        low = omega (arith, t.low);
        high = omega arith;
        letters = spelt_more doc k.from k.at k.letters l t.letters;
        kept = kept_more doc k.from k.at k.kept t.kept;
        name = first_more (White doc) k.from k.at k.name (is_white b) t.name (λ e. e) (λ e h. clash (is_white b) h e);
        last = λ h. byte_same doc k.at (k.at + 1 - 1) (omega arith);
        before = λ h. t.last (omega arith) ∙ byte_same doc (k.at - 1) (k.at + 1 - 2) (omega arith);
        pair = first_more (PairEnd doc (k.from + 4)) k.from k.at k.pair (two_hyphens k b) t.pair two_true two_false;
        differs =
            first_more (Differs doc open_name k.from) k.from k.at k.differs (not same) t.differs
            (λ e. same_false doc k open_name t.low (sym q ∙ not_true same e))
            (λ e. same_true doc k open_name t.low (sym q ∙ not_false same e));
      }
