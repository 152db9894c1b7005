-- An attribute by the grammar (XML 1.0, productions 10, 25, 40 and 41, as document 02 reads them): "white space, attribute name, optional white space, `=`,
-- optional white space, quoted value". Of what breaks a rule "the place is the byte where the rule breaks, or the content's end".
use Rattle.std.specs.Prelude.{ℕ, ◌+◌, Bool, true, List, length, get_or, drop, eqb, leb}
use Rattle.ground.specs.Choose.{pick}
use Rattle.ground.specs.Bytes.{quot, apos, lt}
use Rattle.white.specs.White.{is_white, until, leading}
use Rattle.attributes.specs.declared.equals.Equals.{Equals}
use Rattle.attributes.specs.declared.item.Extent.{Extent}
use Rattle.attributes.specs.declared.item.Attribute.{Attribute}
use Rattle.attributes.specs.declared.item.Fault.{Fault}
use Rattle.attributes.specs.declared.item.Item.{Item}
use Rattle.attributes.specs.declared.name.Named.{Named}
use Rattle.attributes.specs.declared.value.Valued.{Valued}
use Rattle.attributes.specs.Answers.{refusal, extent}

-- ---- bytes

-- `=`
abbrev pub equals_sign : ℕ
equals_sign = 0x3D

abbrev pub is_quote : ℕ → Bool
is_quote b = pick (eqb b quot) true (eqb b apos)

-- "bytes other than white space, `=` and quotes" are those of a name
abbrev pub ends_name : ℕ → Bool
ends_name b = pick (is_white b) true (pick (eqb b equals_sign) true (is_quote b))

-- a value that stands in this quote holds neither it nor `<` (production 10)
abbrev pub ends_value : ℕ → ℕ → Bool
ends_value quote b = pick (eqb b quote) true (eqb b lt)

-- the byte at a place, and 0 past the content's end
abbrev pub byte : List ℕ → ℕ → ℕ
byte s at = get_or s at 0

-- ---- runs of bytes

-- behind white space
unfoldable pub past : List ℕ → ℕ → ℕ
past s at = at + leading (drop at s)

-- behind a name
unfoldable pub name_end : List ℕ → ℕ → ℕ
name_end s from = from + until ends_name (drop from s)

-- behind the bytes of a value
unfoldable pub value_end : List ℕ → ℕ → ℕ → ℕ
value_end s quote from = from + until (ends_value quote) (drop from s)

-- ---- the parts of an attribute, and what breaks their rules

-- an attribute name, from its first byte on: 20 for an empty one
unfoldable pub name_from : List ℕ → ℕ → Named
name_from s from = pick (eqb (name_end s from) from) (Named.Refused (refusal Fault.EmptyName from)) (Named.Name (extent from (name_end s from)))

-- "white space, attribute name" (production 40): none when only white space is left, 19 with no white space
unfoldable pub name_at : List ℕ → ℕ → Named
name_at s at =
    pick (leb (length s) (past s at))
    Named.Nothing
    (pick (eqb (past s at) at) (Named.Refused (refusal Fault.NoSpace at)) (name_from s (past s at)))

-- "optional white space, `=`" (production 25): 21
unfoldable pub equals_at : List ℕ → ℕ → Equals
equals_at s at = pick (eqb (byte s (past s at)) equals_sign) (Equals.Before (past s at + 1)) (Equals.Refused (refusal Fault.NoEquals (past s at)))

-- a value that stands in this quote, from its first byte on (production 10): 22 where no byte closes it, 23 where `<` comes before that
unfoldable pub quoted_from : List ℕ → ℕ → ℕ → Valued
quoted_from s quote from =
    pick (leb (length s) (value_end s quote from))
    (Valued.Refused (refusal (Fault.NoClosingQuote quote) (length s)))
    (pick (eqb (byte s (value_end s quote from)) lt)
    (Valued.Refused (refusal Fault.LessThan (value_end s quote from)))
    (Valued.Value (extent from (value_end s quote from))))

-- "optional white space, quoted value": 22 where no quote opens it
unfoldable pub value_at : List ℕ → ℕ → Valued
value_at s at =
    pick (is_quote (byte s (past s at)))
    (quoted_from s (byte s (past s at)) (past s at + 1))
    (Valued.Refused (refusal Fault.NoOpeningQuote (past s at)))

-- ---- an attribute

-- "where to go on" is just after the closing quote
abbrev pub attribute_of : Extent → Extent → Attribute
attribute_of name value = record { name = name; value = value; next = value.to + 1 }

abbrev pub with_value : Extent → Valued → Item
with_value name (Valued.Refused x) = Item.Refused x
with_value name (Valued.Value value) = Item.Attribute (attribute_of name value)

abbrev pub with_equals : List ℕ → Extent → Equals → Item
with_equals s name (Equals.Refused x) = Item.Refused x
with_equals s name (Equals.Before at) = with_value name (value_at s at)

-- what follows a name (production 41)
unfoldable pub named : List ℕ → Extent → Item
named s name = with_equals s name (equals_at s name.to)

abbrev pub with_name : List ℕ → Named → Item
with_name s Named.Nothing = Item.Nothing
with_name s (Named.Refused x) = Item.Refused x
with_name s (Named.Name name) = named s name

-- the attribute at a place, whatever names came before it
unfoldable pub shape_at : List ℕ → ℕ → Item
shape_at s at = with_name s (name_at s at)
