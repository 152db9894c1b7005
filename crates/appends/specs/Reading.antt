-- A document read under default settings, "up to Eof or the first refusal" (document 02, "A writer").
use Rattle.std.specs.Prelude.{ℕ, zero, suc, ◌+◌, List, [], ◌∷◌, Bool, true, false, length, eqb}
use Rattle.ground.specs.Choose.{pick, all_of}
use Rattle.ground.specs.Equal.{same}
use Rattle.state.specs.declared.answer.Answer.{Answer}
use Rattle.state.specs.Settings.{defaults}
use Rattle.state.specs.Values.{values_of}
use Rattle.reader.specs.Names.{bytes}
use Rattle.demands.specs.Answers.{is_eof, latest_is}
use Rattle.demands.specs.Run.{World, said, call, run}

-- Eof or a refusal
abbrev pub is_last : Answer → Bool
is_last a = pick (is_eof a) true (eqb (values_of a).kind 0)

-- calls up to the first that answers so, n at the most
unfoldable pub read_on : List ℕ → ℕ → World → World
read_on doc zero w = w
read_on doc (suc n) w = pick (is_last (said doc w)) (call doc w) (read_on doc n (call doc w))

-- from a fresh reader on; "end of file comes by call number length + 2". A document that is too long for a reader is refused at once, with the stack as it was
unfoldable pub reading : List ℕ → List ℕ → World
reading doc stack = read_on doc (length doc + 2) (run doc stack defaults 0)

-- ---- events, "by kind, content bytes and name length"; a refusal has kind 0

pub record Seen : Type 0 where
  pub kind : ℕ
  pub content : List ℕ
  pub name : ℕ

abbrev pub seen : List ℕ → Answer → Seen
seen doc a = record { kind = (values_of a).kind; content = bytes doc (values_of a).content; name = (values_of a).name }

unfoldable pub seen_all : List ℕ → List Answer → List Seen
seen_all doc [] = []
seen_all doc (a ∷ before) = seen doc a ∷ seen_all doc before

abbrev pub same_seen : Seen → Seen → Bool
same_seen a b = all_of (eqb a.kind b.kind ∷ same a.content b.content ∷ eqb a.name b.name ∷ [])

unfoldable pub same_all : List Seen → List Seen → Bool
same_all [] [] = true
same_all [] (b ∷ bs) = false
same_all (a ∷ as') [] = false
same_all (a ∷ as') (b ∷ bs) = pick (same_seen a b) (same_all as' bs) false

-- without the latest, which stands first
abbrev pub sooner : {A : Type 0} → List A → List A
sooner [] = []
sooner (a ∷ before) = before

-- ---- what a document reads as

-- all that is answered, the latest first: Eof or a refusal, and the events before it
abbrev pub heard : List ℕ → List ℕ → List Seen
heard doc stack = seen_all doc (reading doc stack).answers

-- "the events so far", of which Eof is none
abbrev pub events : List ℕ → List ℕ → List Seen
events doc stack = sooner (heard doc stack)

-- it reads without a refusal
abbrev pub readable : List ℕ → List ℕ → Bool
readable doc stack = latest_is is_eof (reading doc stack).answers
