-- The refusals of attributes, and the paper's number and values for every answer (document 02).
use Rattle.std.specs.Prelude.{ℕ}
use Rattle.attributes.specs.declared.item.Fault.{Fault}
use Rattle.attributes.specs.declared.item.Refusal.{Refusal}
use Rattle.attributes.specs.declared.item.Item.{Item}
use Rattle.attributes.specs.declared.item.Extent.{Extent}
use Rattle.attributes.specs.declared.item.Attribute.{Attribute}
use Rattle.attributes.specs.declared.item.Values.{Values}

-- "19 something after a value with no white space between, 20 empty name, 21 no `=`, 22 no opening or closing quote, 23 `<` in a value, 24 name already
-- used in this tag"
abbrev pub fault_number : Fault → ℕ
fault_number Fault.BadState = 17
fault_number Fault.NoSpace = 19
fault_number Fault.EmptyName = 20
fault_number Fault.NoEquals = 21
fault_number Fault.NoOpeningQuote = 22
fault_number (Fault.NoClosingQuote quote) = 22
fault_number Fault.LessThan = 23
fault_number (Fault.NameUsed first) = 24

-- a refusal at a place
abbrev pub refusal : Fault → ℕ → Refusal
refusal fault place = record { fault = fault; place = place }

abbrev pub refused : Fault → ℕ → Item
refused fault place = Item.Refused (refusal fault place)

-- "17 first, at 0"
abbrev pub bad_state : Item
bad_state = refused Fault.BadState 0

-- ---- answers as numbers

abbrev pub extent : ℕ → ℕ → Extent
extent from to = record { from = from; to = to }

-- of 22: the quote that is not closed, and 0 where none opens
abbrev pub fault_quote : Fault → ℕ
fault_quote Fault.BadState = 0
fault_quote Fault.NoSpace = 0
fault_quote Fault.EmptyName = 0
fault_quote Fault.NoEquals = 0
fault_quote Fault.NoOpeningQuote = 0
fault_quote (Fault.NoClosingQuote quote) = quote
fault_quote Fault.LessThan = 0
fault_quote (Fault.NameUsed first) = 0

-- of 24: where the name was used first
abbrev pub fault_first : Fault → ℕ
fault_first Fault.BadState = 0
fault_first Fault.NoSpace = 0
fault_first Fault.EmptyName = 0
fault_first Fault.NoEquals = 0
fault_first Fault.NoOpeningQuote = 0
fault_first (Fault.NoClosingQuote quote) = 0
fault_first Fault.LessThan = 0
fault_first (Fault.NameUsed first) = first

-- "Each answer gives the name and value spans and where to go on"
abbrev pub attribute_values : Attribute → Values
attribute_values a = record { found = 1; name = a.name; value = a.value; next = a.next; number = 0; place = 0; quote = 0; first = 0 }

-- a refusal has its number and its place
abbrev pub refusal_values : Refusal → Values
refusal_values x =
    record {
      found = 0;
      name = extent 0 0;
      value = extent 0 0;
      next = 0;
      number = fault_number x.fault;
      place = x.place;
      quote = fault_quote x.fault;
      first = fault_first x.fault;
    }

abbrev pub values_of : Item → Values
values_of (Item.Attribute a) = attribute_values a
values_of Item.Nothing = record { found = 0; name = extent 0 0; value = extent 0 0; next = 0; number = 0; place = 0; quote = 0; first = 0 }
values_of (Item.Refused x) = refusal_values x
