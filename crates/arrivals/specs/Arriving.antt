-- Calls of the code on a document that arrives in chunks: each on all bytes that have come so far.
use Rattle.std.specs.Prelude.{ℕ, zero, suc, ◌≡◌, ◌⊎◌, List, [], ◌++◌, length}
use Rattle.state.specs.declared.config.Config.{Config}
use Rattle.state.specs.declared.answer.Answer.{Answer}
use Rattle.state.specs.declared.run.Reader.{Reader}
use Rattle.state.specs.declared.run.Made.{Made}
use Rattle.state.specs.Make.{made}
use Rattle.demands.specs.Run.{World}
use Rattle.demands.specs.Calls.{Promise, onward}
use Rattle.demands.specs.Growing.{lending, Enough}
use Rattle.arrivals.specs.Whole.{Whole, lengthened}

-- the same, over a document of n bytes
abbrev pub over : ℕ → World → World
over n w = record { reader = lengthened n w.reader; stack = w.stack; answers = w.answers }

-- the piece that the next call reads is whole in the bytes that have come, or none is yet to come
abbrev pub Ready : List ℕ → List ℕ → Reader → Type 0
Ready come yet r = Whole come r ⊎ (yet ≡ [])

-- n calls on the bytes that have come, where `yet` are yet to come, and of the stack the slots `back` are kept back. Before a call the first of the bytes yet to
-- come may come, and the reader has its length from then on; or the first of the slots kept back may be lent. Each call is ready, and is lent enough
pub data Arriving (Kept : Promise) (doc stack : List ℕ) (c : Config) : List ℕ → List ℕ → List ℕ → ℕ → World → Type 0 where
  none : (come yet lent back : List ℕ) (r : Reader) → come ++ yet ≡ doc → lent ++ back ≡ stack → made (length come) c ≡ Made.Fresh r
      → Arriving Kept doc stack c come yet back zero (record { reader = r; stack = lent; answers = [] })
  arrive : {come back : List ℕ} {n : ℕ} {w : World} (chunk yet : List ℕ) → Arriving Kept doc stack c come (chunk ++ yet) back n w
      → Arriving Kept doc stack c (come ++ chunk) yet back n (over (length (come ++ chunk)) w)
  lend : {come yet : List ℕ} {n : ℕ} {w : World} (slots back : List ℕ) → Arriving Kept doc stack c come yet (slots ++ back) n w
      → Arriving Kept doc stack c come yet back n (lending w slots)
  more : {come yet back : List ℕ} {n : ℕ} {w : World} {answer : Answer} {reader : Reader} {left : List ℕ} → Arriving Kept doc stack c come yet back n w
      → Ready come yet w.reader → Enough w.stack w.reader.depth.0 back → Kept come w.stack w.reader answer reader left
      → Arriving Kept doc stack c come yet back (suc n) (onward w answer reader left)
