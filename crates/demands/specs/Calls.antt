-- Calls of the code, one after the other: each on the reader and the stack that the call before left, over one document.
use Rattle.std.specs.Prelude.{ℕ, zero, suc, ◌≡◌, List, [], ◌∷◌, length}
use Rattle.state.specs.declared.config.Config.{Config}
use Rattle.state.specs.declared.answer.Answer.{Answer}
use Rattle.state.specs.declared.run.Reader.{Reader}
use Rattle.state.specs.declared.run.Made.{Made}
use Rattle.state.specs.Make.{made}
use Rattle.reader.specs.Step.{Stepped}
use Rattle.demands.specs.Run.{World}

-- what a function promises of a call: of the document, the stack and the reader that it is given, and the answer, the reader and the stack that it leaves
abbrev pub Promise : Type 1
Promise = (doc stack : List ℕ) (before : Reader) (answer : Answer) (after : Reader) (left : List ℕ) → Type 0

-- that of `advance`
abbrev pub Advanced : Promise
Advanced doc stack before answer after left = Stepped doc stack before (record { reader = after; answer = answer }) left

-- what stands after a call that answered so, and left this reader and this stack
abbrev pub onward : World → Answer → Reader → List ℕ → World
onward w answer reader stack = record { reader = reader; stack = stack; answers = answer ∷ w.answers }

-- n calls of a function that keeps its promise, the first on what `Reader::new` gives and any stack, and what stands after them
pub data Calls (Kept : Promise) (doc stack : List ℕ) (c : Config) : ℕ → World → Type 0 where
  none : (r : Reader) → made (length doc) c ≡ Made.Fresh r → Calls Kept doc stack c zero (record { reader = r; stack = stack; answers = [] })
  more : {n : ℕ} {w : World} {answer : Answer} {reader : Reader} {left : List ℕ} → Calls Kept doc stack c n w → Kept doc w.stack w.reader answer reader left
      → Calls Kept doc stack c (suc n) (onward w answer reader left)

-- a function whose calls keep the promise of `advance` too
abbrev pub Advances : Promise → Type 0
Advances Kept =
    (doc stack : List ℕ) (before : Reader) (answer : Answer) (after : Reader) (left : List ℕ)
    → Kept doc stack before answer after left → Advanced doc stack before answer after left
