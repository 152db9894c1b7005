-- Places, depths and spans.
use Rattle.std.specs.Prelude.{ℕ, ◌+◌, ◌-◌, leb}
use Rattle.ground.specs.Choose.{pick}
use Rattle.state.specs.declared.place.Position.{Position}
use Rattle.state.specs.declared.place.Depth.{Depth}
use Rattle.state.specs.declared.place.Span.{Span}

abbrev pub at : ℕ → Position
at n = record { 0 = n }

abbrev pub depth_of : ℕ → Depth
depth_of n = record { 0 = n }

-- from a up to b
abbrev pub span : ℕ → ℕ → Span
span a b = record { from = a; to = b }

-- how many bytes
abbrev pub size : Span → ℕ
size s = s.to - s.from

-- one name fewer, where there is one
abbrev pub fewer : Depth → Depth
fewer d = depth_of (d.0 - 1)

-- one name more
abbrev pub further : Depth → Depth
further d = depth_of (d.0 + 1)

-- what lies between the first `front` bytes of a span and its last `back` ones; the empty span at its start where it has fewer bytes than that
unfoldable pub inner : Span → ℕ → ℕ → Span
inner s front back = pick (leb (s.from + front + back) s.to) (span (s.from + front) (s.to - back)) (span s.from s.from)
