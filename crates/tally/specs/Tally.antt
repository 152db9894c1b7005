-- What a whole document opens and closes, told from the calls of `demands`, specs/Run.
use Rattle.std.specs.Prelude.{ℕ, ◌+◌, ◌≡◌, List, length}
use Rattle.state.specs.declared.config.Config.{Config}
use Rattle.state.specs.declared.run.Made.{Made}
use Rattle.state.specs.Make.{made}
use Rattle.demands.specs.Run.{World, run}
use Rattle.demands.specs.Answers.{is_start, is_end, is_mismatch, count}
use Rattle.tally.specs.declared.Counts.{Counts}
use Rattle.tally.specs.declared.Tallied.{Tallied}

-- how many calls are made: as many as there are bytes, and two more
abbrev pub budget : List ℕ → ℕ
budget doc = length doc + 2

-- what the answers so far count, and the names that are open
abbrev pub counts : World → Counts
counts w =
    record {
      openings = count is_start w.answers;
      closings = count is_end w.answers;
      mismatches = count is_mismatch w.answers;
      depth = w.reader.depth;
    }

module _ (doc stack : List ℕ) (c : Config) where
  -- what all calls leave
  abbrev pub after_all : World
  after_all = run doc stack c (budget doc)

  -- where a reader is made, and where none is
  abbrev pub tallied_as : Made → Tallied
  tallied_as (Made.Fresh r) = Tallied.Counted (counts after_all)
  tallied_as (Made.Refused x) = Tallied.Refused x

  abbrev pub left_as : Made → List ℕ
  left_as (Made.Fresh r) = after_all.stack
  left_as (Made.Refused x) = stack

  -- the counts; 16 for a document that is too long
  unfoldable pub tallied : Tallied
  tallied = tallied_as (made (length doc) c)

  -- the stack at exit; as it was where no call is made
  unfoldable pub left_stack : List ℕ
  left_stack = left_as (made (length doc) c)

-- THE PROMISE: the answer, and every slot of the stack
pub record Summed (doc stack : List ℕ) (c : Config) (t : Tallied) (after : List ℕ) : Type 0 where
  pub outcome : t ≡ tallied doc stack c
  pub slots : after ≡ left_stack doc stack c
