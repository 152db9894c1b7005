-- Calls of the code over a stack that grows: its last slots are kept back at first, and lent later.
use Rattle.std.specs.Prelude.{ℕ, zero, suc, ◌<◌, ◌≡◌, ◌⊎◌, List, [], ◌++◌, length}
use Rattle.state.specs.declared.config.Config.{Config}
use Rattle.state.specs.declared.answer.Answer.{Answer}
use Rattle.state.specs.declared.run.Reader.{Reader}
use Rattle.state.specs.declared.run.Made.{Made}
use Rattle.state.specs.Limits.{capacity}
use Rattle.state.specs.Make.{made}
use Rattle.demands.specs.Run.{World}
use Rattle.demands.specs.Calls.{Promise, onward}

-- the same, with these slots behind the stack's
abbrev pub lending : World → List ℕ → World
lending w slots = record { reader = w.reader; stack = w.stack ++ slots; answers = w.answers }

-- the stack that is lent has room for one more name than are open, or nothing is kept back
abbrev pub Enough : List ℕ → ℕ → List ℕ → Type 0
Enough lent depth back = (depth < capacity (length lent)) ⊎ (back ≡ [])

-- n calls as in `Calls`, but of the stack the slots `back` are kept back. Before a call the first of these may be lent, behind what the call before left; each
-- call is lent enough
pub data Growing (Kept : Promise) (doc stack : List ℕ) (c : Config) : List ℕ → ℕ → World → Type 0 where
  none : (lent back : List ℕ) (r : Reader) → lent ++ back ≡ stack → made (length doc) c ≡ Made.Fresh r
      → Growing Kept doc stack c back zero (record { reader = r; stack = lent; answers = [] })
  lend : {n : ℕ} {w : World} (slots back : List ℕ) → Growing Kept doc stack c (slots ++ back) n w → Growing Kept doc stack c back n (lending w slots)
  more : {back : List ℕ} {n : ℕ} {w : World} {answer : Answer} {reader : Reader} {left : List ℕ} → Growing Kept doc stack c back n w
      → Enough w.stack w.reader.depth.0 back → Kept doc w.stack w.reader answer reader left
      → Growing Kept doc stack c back (suc n) (onward w answer reader left)
