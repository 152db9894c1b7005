-- Any number of calls from a fresh reader, over bytes and a stack that no one else touches.
use Rattle.std.specs.Prelude.{ℕ, zero, suc, List, [], ◌∷◌, ◌≡◌, true, length}
use Rattle.state.specs.declared.config.Config.{Config}
use Rattle.state.specs.declared.answer.Answer.{Answer}
use Rattle.state.specs.declared.run.Reader.{Reader}
use Rattle.state.specs.Make.{fresh}
use Rattle.reader.specs.Names.{written}
use Rattle.reader.specs.Step.{step}
use Rattle.demands.specs.Answers.{is_eof}

-- what stands between two calls: the reader, the stack, and the answers so far, the latest first
pub record World : Type 0 where
  pub reader : Reader
  pub stack : List ℕ
  pub answers : List Answer

-- what the next call answers
abbrev pub said : List ℕ → World → Answer
said doc w = (step doc w.stack w.reader).answer

-- one call
unfoldable pub call : List ℕ → World → World
call doc w =
    record {
      reader = (step doc w.stack w.reader).reader;
      stack = written w.stack w.reader.depth.0 (said doc w);
      answers = said doc w ∷ w.answers;
    }

-- n calls
unfoldable pub run : List ℕ → List ℕ → Config → ℕ → World
run doc stack c zero = record { reader = fresh (length doc) c; stack = stack; answers = [] }
run doc stack c (suc n) = call doc (run doc stack c n)

-- a later state: Eof is what is said, and reader and stack are as they were
pub record AtRest (doc : List ℕ) (w later : World) : Type 0 where
  pub says : is_eof (said doc later) ≡ true
  pub reader : later.reader ≡ w.reader
  pub stack : later.stack ≡ w.stack
