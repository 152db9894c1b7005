-- What a routine inside this crate asks of those that call it. No promise of another crate names what stands here.
use Rattle.std.specs.Prelude.{ℕ, ◌+◌, ◌<◌, ◌^◌}
use Rattle.attributes.specs.declared.item.Values.{Values}

-- the numbers do not run over
pub record Movable (by : ℕ) (v : Values) : Type 0 where
  pub name : (by + v.name.from < 2 ^ 64) × (by + v.name.to < 2 ^ 64)
  pub value : (by + v.value.from < 2 ^ 64) × (by + v.value.to < 2 ^ 64)
  pub next : by + v.next < 2 ^ 64
  pub place : by + v.place < 2 ^ 64
  pub first : by + v.first < 2 ^ 64
