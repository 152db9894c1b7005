-- What the theorems on attributes say, in words.
use Rattle.std.specs.Prelude.{ℕ, ◌+◌, ◌≤◌, ◌<◌, ◌≡◌, Bool, true, false, List, length}
use Rattle.white.specs.White.{is_white}
use Rattle.attributes.specs.declared.item.Extent.{Extent}
use Rattle.attributes.specs.declared.item.Attribute.{Attribute}
use Rattle.attributes.specs.declared.item.Values.{Values}
use Rattle.attributes.specs.declared.item.Item.{Item}
use Rattle.attributes.specs.Tag.{bytes, said}
use Rattle.attributes.specs.Grammar.{equals_sign, is_quote, ends_name, ends_value, byte}

-- every byte from one place up to another passes a test, or fails it
abbrev pub Each : (ℕ → Bool) → Bool → List ℕ → ℕ → ℕ → Type 0
Each test outcome s from to = (k : ℕ) → from ≤ k → k < to → test (byte s k) ≡ outcome

-- white space (production 3) from one place up to another, which may be none
pub record Space (s : List ℕ) (from to : ℕ) : Type 0 where
  pub order : from ≤ to
  pub white : Each is_white true s from to

-- "white space, attribute name", where the name is "a non-empty run of bytes other than white space, `=` and quotes"
pub record SpaceName (s : List ℕ) (at : ℕ) (name : Extent) : Type 0 where
  pub space : Space s at name.from
  pub apart : at < name.from
  pub some : name.from < name.to
  pub plain : Each ends_name false s name.from name.to
  pub within : name.to ≤ length s

-- "optional white space, `=`" (production 25), up to a place
pub record Sign (s : List ℕ) (at behind : ℕ) : Type 0 where
  pub sign : ℕ
  pub space : Space s at sign
  pub is : byte s sign ≡ equals_sign
  pub next : behind ≡ sign + 1
  pub within : behind ≤ length s

-- "optional white space, quoted value" (production 10): between a quote and the next such quote, with no `<`
pub record Quoted (s : List ℕ) (at : ℕ) (value : Extent) : Type 0 where
  pub opening : ℕ
  pub space : Space s at opening
  pub quote : is_quote (byte s opening) ≡ true
  pub first : value.from ≡ opening + 1
  pub order : value.from ≤ value.to
  pub plain : Each (ends_value (byte s opening)) false s value.from value.to
  pub closed : byte s value.to ≡ byte s opening
  pub within : value.to < length s

-- an attribute behind white space (productions 40 and 41)
pub record Shaped (s : List ℕ) (at : ℕ) (a : Attribute) : Type 0 where
  pub name : SpaceName s at a.name
  pub behind : ℕ
  pub equals : Sign s a.name.to behind
  pub value : Quoted s behind a.value
  pub next : a.next ≡ a.value.to + 1

-- every place that an answer tells lies in so many bytes
pub record PlacesIn (n : ℕ) (v : Values) : Type 0 where
  pub name : (v.name.from ≤ n) × (v.name.to ≤ n)
  pub value : (v.value.from ≤ n) × (v.value.to ≤ n)
  pub next : v.next ≤ n
  pub place : v.place ≤ n
  pub first : v.first ≤ n

-- a call that gives an attribute of another name
pub record Passed (s wanted : List ℕ) (k : ℕ) : Type 0 where
  pub attribute : Attribute
  pub is : said s k ≡ Item.Attribute attribute
  pub other : bytes s attribute.name ≡ wanted → ⊥

-- a search from the name: the answer of the first call that ends it; the calls before it give attributes of other names
pub record Searched (s wanted : List ℕ) (item : Item) : Type 0 where
  pub calls : ℕ
  pub is : item ≡ said s calls
  pub ends : (a : Attribute) → item ≡ Item.Attribute a → bytes s a.name ≡ wanted
  pub before : (k : ℕ) → k < calls → Passed s wanted k
