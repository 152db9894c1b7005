-- The attributes of a tag, one after the other (document 02): names already used, the places that reading from the name reaches, and what a call answers.
use Rattle.std.specs.Prelude.{ℕ, zero, suc, ◌+◌, Bool, true, List, [], ◌∷◌, length, eqb}
use Rattle.ground.specs.Choose.{pick}
use Rattle.ground.specs.Part.{part}
use Rattle.ground.specs.Equal.{same}
use Rattle.white.specs.White.{name_len}
use Rattle.attributes.specs.declared.item.Extent.{Extent}
use Rattle.attributes.specs.declared.item.Attribute.{Attribute}
use Rattle.attributes.specs.declared.item.Fault.{Fault}
use Rattle.attributes.specs.declared.item.Item.{Item}
use Rattle.attributes.specs.declared.name.Named.{Named}
use Rattle.attributes.specs.declared.used.Use.{Use}
use Rattle.attributes.specs.Answers.{refused, bad_state}
use Rattle.attributes.specs.Grammar.{name_at, named}

-- the bytes of an extent
abbrev pub bytes : List ℕ → Extent → List ℕ
bytes s x = part s x.from x.to

-- ---- a name already used

abbrev pub or_else : Use → Use → Use
or_else (Use.At first) u = Use.At first
or_else Use.New u = u

-- where a name was used first among attributes, of which the latest stands first
unfoldable pub use_in : List ℕ → List Attribute → List ℕ → Use
use_in s [] name = Use.New
use_in s (a ∷ before) name = or_else (use_in s before name) (pick (same (bytes s a.name) name) (Use.At a.name.from) Use.New)

-- "24 name already used in this tag", "the start of the second name": further left than what 21 to 23 are about
abbrev pub unless_used : List ℕ → Extent → Use → Item
unless_used s name (Use.At first) = refused (Fault.NameUsed first) name.from
unless_used s name Use.New = named s name

abbrev pub with_use : List ℕ → List Attribute → Named → Item
with_use s before Named.Nothing = Item.Nothing
with_use s before (Named.Refused x) = Item.Refused x
with_use s before (Named.Name name) = unless_used s name (use_in s before (bytes s name))

-- the attribute at a place, where these came before it
unfoldable pub item_at : List ℕ → List Attribute → ℕ → Item
item_at s before at = with_use s before (name_at s at)

-- ---- reading from the name

-- where reading goes on: at the name's end, and then where the latest attribute says
abbrev pub on_at : List ℕ → List Attribute → ℕ
on_at s [] = name_len s
on_at s (a ∷ before) = a.next

-- an attribute is added to those before it; after none or a refusal nothing more is read
abbrev pub added : List Attribute → Item → List Attribute
added before (Item.Attribute a) = a ∷ before
added before Item.Nothing = before
added before (Item.Refused x) = before

-- what so many calls from the name read, the latest first
unfoldable pub read_by : List ℕ → ℕ → List Attribute
read_by s zero = []
read_by s (suc calls) = added (read_by s calls) (item_at s (read_by s calls) (on_at s (read_by s calls)))

-- the place that so many calls reach, and what the next one answers there
abbrev pub place : List ℕ → ℕ → ℕ
place s calls = on_at s (read_by s calls)

abbrev pub said : List ℕ → ℕ → Item
said s calls = item_at s (read_by s calls) (place s calls)

-- ---- one call

-- the least count of calls, from i on and not more than `left` later, that passes a test; i + left where there is none
unfoldable pub first_from : (ℕ → Bool) → ℕ → ℕ → ℕ
first_from test i zero = i
first_from test i (suc left) = pick (test i) i (first_from test (i + 1) left)

-- the first from 0 on; as many calls as the content has bytes are enough
abbrev pub first_call : List ℕ → (ℕ → Bool) → ℕ
first_call s test = first_from test 0 (length s)

-- so many calls reach this place
abbrev pub is_at : List ℕ → ℕ → ℕ → Bool
is_at s at calls = eqb (place s calls) at

abbrev pub calls_to : List ℕ → ℕ → ℕ
calls_to s at = first_call s (is_at s at)

-- what a call answers: 17 "if the name length isn't the one document 01 gives this content or the place to go on isn't one that reading from the name reaches"
unfoldable pub attribute_at : List ℕ → ℕ → ℕ → Item
attribute_at s name at = pick (eqb (name_len s) name) (pick (is_at s at (calls_to s at)) (said s (calls_to s at)) bad_state) bad_state

-- ---- looking one up

-- an answer ends the search: an attribute of this name, none, or a refusal
abbrev pub is_end : List ℕ → List ℕ → Item → Bool
is_end s wanted (Item.Attribute a) = same (bytes s a.name) wanted
is_end s wanted Item.Nothing = true
is_end s wanted (Item.Refused x) = true

abbrev pub ends_at : List ℕ → List ℕ → ℕ → Bool
ends_at s wanted calls = is_end s wanted (said s calls)

-- the first answer that ends it
unfoldable pub find_of : List ℕ → ℕ → List ℕ → Item
find_of s name wanted = pick (eqb (name_len s) name) (said s (first_call s (ends_at s wanted))) bad_state
