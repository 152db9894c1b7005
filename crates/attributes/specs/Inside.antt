-- What routines inside this crate promise those that call them. No promise of another crate names what stands here.
use Rattle.std.specs.Prelude.{ℕ, ◌+◌, ◌*◌, ◌/◌, ◌%◌, ◌≤◌, ◌<◌, ◌≡◌, List, [], ◌∷◌, length, get_or}
use Rattle.white.specs.White.{name_len}
use Rattle.attributes.specs.declared.item.Attribute.{Attribute}
use Rattle.attributes.specs.declared.item.Item.{Item}
use Rattle.attributes.specs.declared.used.Use.{Use}
use Rattle.attributes.specs.Grammar.{shape_at}
use Rattle.attributes.specs.Tag.{place, said, read_by, use_in}

-- ---- marks: the same names have the same mark

-- how many marks there may be
pub record Marks (marks : ℕ) : Type 0 where
  pub some : 0 < marks
  pub most : marks ≤ 65536

unfoldable pub mixed : ℕ → List ℕ → ℕ
mixed mark [] = mark
mixed mark (b ∷ bs) = mixed ((mark + b) * 0x93D765DD % 0x100000000) bs

unfoldable pub mark_of : ℕ → List ℕ → ℕ
mark_of marks name = mixed 0 name * marks / 0x100000000

-- a name without a mark is none of those before it
abbrev pub Marked : List ℕ → List Attribute → List ℕ → Type 0
Marked s before seen = (name : List ℕ) → get_or seen (mark_of (length seen) name) 0 ≡ 0 → use_in s before name ≡ Use.New

-- ---- places

-- reading comes to a place by so many calls
pub record Comes (s : List ℕ) (name at calls : ℕ) : Type 0 where
  pub length : name_len s ≡ name
  pub place : place s calls ≡ at

-- where a name was used first among the attributes before a place, if reading comes to it
pub record UseTold (s : List ℕ) (name at : ℕ) (own : List ℕ) (u : Use) : Type 0 where
  pub told : (calls : ℕ) → Comes s name at calls → u ≡ use_in s (read_by s calls) own

-- what is answered at a place, if reading comes to it and the names before it are marked; and an attribute has its shape in any case
pub record ItemTold (s : List ℕ) (name at : ℕ) (seen : List ℕ) (item : Item) : Type 0 where
  pub told : (calls : ℕ) → Comes s name at calls → Marked s (read_by s calls) seen → item ≡ said s calls
  pub shaped : (a : Attribute) → item ≡ Item.Attribute a → shape_at s at ≡ Item.Attribute a
