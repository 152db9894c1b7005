-- What is known with one byte more, put together of its parts. Assumes nothing.
use Prim.Native.Nat.{ℕ, ◌+◌}
use mathlib.Core.Path.{◌≡◌}
use mathlib.Core.Bool.{Bool, false, not, ◌&&◌, ◌||◌}
use lib.ListN.{get_or}
use lib.Dec.{eqb, ltb}
use Rattle.ground.specs.Choose.{pick}
use Rattle.ground.specs.Bytes.{hyphen}
use Rattle.ground.proofs.Choices.{by_false}
use Rattle.white.specs.White.{is_white}
use Rattle.reader.specs.Step.{bom}
use Rattle.plain.specs.declared.known.Part.{Part}
use Rattle.plain.specs.declared.known.Letters.{Letters}
use Rattle.plain.specs.declared.known.Known.{Known}
use Rattle.plain.specs.Letters.{letter}
use Rattle.plain.specs.Known.{next_part, opens, next_quote, reach, size_of, more, begins, tick_of}

module _ (k : Known) (b x size : ℕ) (trim same white opened : Bool) (p : Part) (l : Letters) (kept name quote pair differs : ℕ) where
  abbrev made : Known
  made =
      record {
        part = p;
        from = k.from;
        at = k.at + 1;
        mark = k.mark && eqb x b;
        letters = l;
        kept = kept;
        name = name;
        quote = quote;
        last = b;
        before = k.last;
        right = k.right && opened;
        pair = pair;
        differs = differs;
      }

  pub tick_made : x ≡ get_or bom k.at 0
      → size ≡ size_of k
      → white ≡ is_white b
      → p ≡ next_part k.part b
      → l ≡ letter k.letters k.at b
      → kept ≡ pick white k.kept (k.at + 1)
      → name ≡ reach k.name k.at white
      → quote ≡ next_quote k.quote b
      → opened ≡ opens k.part size b
      → pair ≡ reach k.pair k.at ((eqb b hyphen && eqb k.last hyphen) && ltb 4 size)
      → differs ≡ reach k.differs k.at (not same)
      → (((k.mark && eqb x b) && eqb k.at 2) || ((eqb size 0 && trim) && white)) ≡ false
      → made ≡ tick_of k b trim same
  unfolding tick_of more
  tick_made ex es ew ep el ek en eq eo ea ed e =
      by_false _ _ _ (begins k b trim) (rw (← ex, ← es, ← ew) e) (rw (ep, el, ek, en, eq, eo, ea, ed, ex, es, ew))
