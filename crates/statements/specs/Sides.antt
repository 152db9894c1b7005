-- The clauses of the demands at a call, each as two sides that must be the same. Where a clause says nothing of the call, both are empty.
use Rattle.std.specs.Prelude.{ℕ, zero, suc, ◌+◌, Bool, true, false, not, List, [], ◌∷◌, length, take, replicate, eqb, leb}
use Rattle.ground.specs.Choose.{pick}
use Rattle.white.specs.White.{name_len}
use Rattle.state.specs.declared.place.Span.{Span}
use Rattle.state.specs.declared.answer.Answer.{Answer}
use Rattle.state.specs.declared.run.Phase.{Phase}
use Rattle.state.specs.Values.{values_of, turns_on}
use Rattle.reader.specs.Names.{name_of, bytes}
use Rattle.demands.specs.Run.{World, said, call, run}
use Rattle.demands.specs.Answers.{is_start, is_end, is_eof, is_mismatch, is_unmatched, is_unclosed, is_ending, is_bad_state, count, one_is}
use Rattle.demands.specs.Open.{opened, newest, left_open}
use Rattle.demands.specs.Openings.{Example}
use Rattle.emit.specs.Start.{slashed}
use Rattle.reader.specs.Sound.{sound}

-- one side of the clauses, at a call; where a clause says nothing of it, nothing
pub record Side : Type 0 where
  pub told : List Span
  pub adds : List Span
  pub own : List ℕ
  pub takes : List Span
  pub keeps : List Span
  pub carries : List ℕ
  pub unmatched : List Span
  pub whole : List Span
  pub latest : ℕ
  pub counts : ℕ
  pub tests : List Bool

module _ (x : Example) (w : World) where
  abbrev doc : List ℕ
  doc = x.doc

  abbrev answer : Answer
  answer = said doc w

  abbrev after : World
  after = call doc w

  abbrev takes_one : Bool
  takes_one = pick x.settings.allow_unmatched_ends false (pick (is_end answer) true (is_mismatch answer))

  abbrev keeps_all : Bool
  keeps_all = pick (is_start answer) false (pick (is_end answer) false (pick (is_mismatch answer) false true))

  abbrev carries_one : Bool
  carries_one = pick x.settings.allow_unmatched_ends false (pick x.settings.check_end_names (is_end answer) false)

  -- open names are checked, and Eof is answered after neither 18 nor a refusal that ended the run
  abbrev ends_whole : Bool
  ends_whole =
      pick x.settings.check_open_names (pick (is_eof answer) (pick (one_is is_unclosed w.answers) false (not (one_is is_ending w.answers))) false) false

  abbrev pub left : Side
  left =
      record {
        told = opened w;
        adds = pick (is_start answer) (opened after) [];
        own = pick (is_start answer) (bytes doc (name_of answer)) [];
        takes = pick takes_one (opened w) [];
        keeps = pick keeps_all (opened after) [];
        carries = pick carries_one (bytes doc (values_of answer).content) [];
        unmatched = pick (is_unmatched answer) (opened w) [];
        whole = pick ends_whole (opened w) [];
        latest = pick (is_unclosed answer) (values_of answer).place 0;
        counts = pick x.settings.allow_unmatched_ends 0 (count is_start w.answers);
        tests =
            sound doc w.stack w.reader
            ∷ is_bad_state answer
            ∷ leb w.reader.position.0 after.reader.position.0
            ∷ pick (is_mismatch answer) (is_end answer) false
            ∷ pick (is_start answer) (pick (slashed doc (values_of answer).piece) (is_end (said doc after)) true) true
            ∷ pick (is_eof answer) (is_eof (said doc after)) true
            ∷ pick (is_unclosed answer) (is_eof (said doc after)) true
            ∷ pick (is_unclosed answer) (one_is turns_on w.answers) false
            ∷ pick (is_unclosed answer) (eqb (length (opened w)) 0) false
            ∷ pick (is_unclosed answer) x.settings.check_open_names true
            ∷ w.reader.mark
            ∷ [];
      }

  abbrev pub right : Side
  right =
      record {
        told = left_open w.answers;
        adds = pick (is_start answer) (name_of answer ∷ opened w) [];
        own = pick (is_start answer) (take (name_len (bytes doc (values_of answer).content)) (bytes doc (values_of answer).content)) [];
        takes = pick takes_one (newest w ∷ opened after) [];
        keeps = pick keeps_all (opened w) [];
        carries = pick carries_one (bytes doc (newest w)) [];
        unmatched = [];
        whole = [];
        latest = pick (is_unclosed answer) (newest w).from 0;
        counts = pick x.settings.allow_unmatched_ends 0 (count is_end w.answers + count is_mismatch w.answers + length (opened w));
        tests = true ∷ false ∷ true ∷ false ∷ true ∷ true ∷ true ∷ false ∷ false ∷ true ∷ one_is turns_on w.answers ∷ [];
      }

module _ (side : Example → World → Side) (x : Example) where
  unfoldable pub sides_from : World → ℕ → List Side
  sides_from w zero = []
  sides_from w (suc n) = side x w ∷ sides_from (call x.doc w) n

  unfoldable pub sides : List Side
  sides = sides_from (run x.doc (replicate x.slots 0) x.settings 0) (length x.turns)

-- "end of file comes by call number length + 2": what that call answers, and the phase before it
pub record End : Type 0 where
  pub says : Bool
  pub phase : Phase

unfoldable pub ends : Example → End
ends x =
    record {
      says = is_eof (said x.doc (run x.doc (replicate x.slots 0) x.settings (length x.doc + 1)));
      phase = (run x.doc (replicate x.slots 0) x.settings (length x.doc + 1)).reader.phase;
    }

unfoldable pub wanted : Example → End
wanted x = record { says = true; phase = Phase.Done }
