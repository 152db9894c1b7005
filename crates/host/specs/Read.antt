-- One call on a reader that is lent: what is answered, and what stands behind the references afterwards.
use Rattle.std.specs.Prelude.{ℕ, ◌≡◌, List}
use Rattle.state.specs.declared.answer.Answer.{Answer}
use Rattle.state.specs.declared.run.Reader.{Reader}
use Rattle.reader.specs.Step.{step}
use Rattle.reader.specs.Names.{written}

-- THE PROMISE of a call: the answer, the reader behind the reference and every slot of the stack are the definition's
pub record Read (doc stack : List ℕ) (before : Reader) (answer : Answer) (after : Reader) (left : List ℕ) : Type 0 where
  pub said : answer ≡ (step doc stack before).answer
  pub moved : after ≡ (step doc stack before).reader
  pub slots : left ≡ written stack before.depth.0 (step doc stack before).answer
