-- The lent stack of open names (document 01, "Steps" and "When a call is refused").
use Rattle.std.specs.Prelude.{ℕ, ◌+◌, ◌-◌, ◌*◌, List, get_or, set, eqb}
use Rattle.ground.specs.Choose.{pick}
use Rattle.ground.specs.Part.{part}
use Rattle.state.specs.declared.place.Span.{Span}
use Rattle.state.specs.declared.answer.Kind.{Kind}
use Rattle.state.specs.declared.answer.Answer.{Answer}
use Rattle.state.specs.Limits.{slots}
use Rattle.state.specs.Place.{span}
use Rattle.state.specs.Values.{kind_number, values_of}

-- "two numbers to a name, start and end": the name with d names below it
abbrev pub entry : List ℕ → ℕ → Span
entry stack d = span (get_or stack (d * slots) 0) (get_or stack (d * slots + 1) 0)

-- the latest of d open names; 0..0 where none is open
unfoldable pub latest : List ℕ → ℕ → Span
latest stack d = pick (eqb d 0) (span 0 0) (entry stack (d - 1))

-- "opening writes the one pair at the old depth"
unfoldable pub pushed : List ℕ → ℕ → Span → List ℕ
pushed stack d name = set (set stack (d * slots) name.from) (d * slots + 1) name.to

-- the name of a tag: the first bytes of its content
abbrev pub name_of : Answer → Span
name_of a = span (values_of a).content.from ((values_of a).content.from + (values_of a).name)

-- the bytes of a span of the document
abbrev pub bytes : List ℕ → Span → List ℕ
bytes doc s = part doc s.from s.to

-- "Closing writes no stack slot; opening writes the one pair at the old depth; refusals write none": a Start writes its name, nothing else writes
unfoldable pub written : List ℕ → ℕ → Answer → List ℕ
written stack d a = pick (eqb (values_of a).kind (kind_number Kind.Start)) (pushed stack d (name_of a)) stack
