-- Calls of the two engines, one after the other, and which of them makes a call is free.
use Rattle.std.specs.Prelude.{ℕ, zero, suc, List, ◌⊎◌}
use Rattle.state.specs.declared.answer.Answer.{Answer}
use Rattle.state.specs.declared.run.Reader.{Reader}
use Rattle.demands.specs.Calls.{Promise, Advanced, onward}
use Rattle.demands.specs.Run.{World}

-- what `advance` of `reader` promises, and what `advance` of this crate promises
abbrev pub ByReader : Promise
ByReader = Advanced

abbrev pub ByPlain : Promise
ByPlain = Advanced

-- a call of one of them
abbrev pub ByEither : Promise
ByEither doc stack before answer after left = ByReader doc stack before answer after left ⊎ ByPlain doc stack before answer after left

-- n calls, the first on any reader and any stack, and what stands after them
pub data CallsFrom (Kept : Promise) (doc : List ℕ) (start : World) : ℕ → World → Type 0 where
  none : CallsFrom Kept doc start zero start
  more : {n : ℕ} {w : World} {answer : Answer} {reader : Reader} {left : List ℕ} → CallsFrom Kept doc start n w → Kept doc w.stack w.reader answer reader left
      → CallsFrom Kept doc start (suc n) (onward w answer reader left)
