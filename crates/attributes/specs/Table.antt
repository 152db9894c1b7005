-- Worked examples of attributes: a content, a name length, a place, and what is answered there.
use Rattle.std.specs.Prelude.{ℕ, List, [], ◌∷◌}
use Rattle.ground.specs.Bytes.{apos}
use Rattle.attributes.specs.declared.item.Fault.{Fault}
use Rattle.attributes.specs.declared.item.Item.{Item}
use Rattle.attributes.specs.Answers.{extent, refused}
use Rattle.attributes.specs.Tag.{attribute_at}

pub record Row : Type 0 where
  pub content : List ℕ
  pub name : ℕ
  pub at : ℕ
  pub answer : Item

abbrev pub row : List ℕ → ℕ → ℕ → Item → Row
row content name at answer = record { content = content; name = name; at = at; answer = answer }

-- by the definition, and by the table
abbrev pub given : Row → Item
given x = attribute_at x.content x.name x.at

abbrev pub wanted : Row → Item
wanted x = x.answer

unfoldable pub table : List Row
table =
    -- `r n="1"`
    (row (114 ∷ 32 ∷ 110 ∷ 61 ∷ 34 ∷ 49 ∷ 34 ∷ []) 1 1 (Item.Attribute (record { name = extent 2 3; value = extent 5 6; next = 7 })))
    -- `r a='1' `
    ∷ (row (114 ∷ 32 ∷ 97 ∷ 61 ∷ 39 ∷ 49 ∷ 39 ∷ 32 ∷ []) 1 1 (Item.Attribute (record { name = extent 2 3; value = extent 5 6; next = 7 })))
    -- `r a='1' `
    ∷ (row (114 ∷ 32 ∷ 97 ∷ 61 ∷ 39 ∷ 49 ∷ 39 ∷ 32 ∷ []) 1 7 Item.Nothing)
    -- `r a='1' `
    ∷ (row (114 ∷ 32 ∷ 97 ∷ 61 ∷ 39 ∷ 49 ∷ 39 ∷ 32 ∷ []) 1 8 (refused Fault.BadState 0))
    -- `r`
    ∷ (row (114 ∷ []) 1 1 Item.Nothing)
    -- `\09\0Aa =\0D''`
    ∷ (row (9 ∷ 10 ∷ 97 ∷ 32 ∷ 61 ∷ 13 ∷ 39 ∷ 39 ∷ []) 0 0 (Item.Attribute (record { name = extent 2 3; value = extent 7 7; next = 8 })))
    -- `r r=''`
    ∷ (row (114 ∷ 32 ∷ 114 ∷ 61 ∷ 39 ∷ 39 ∷ []) 1 1 (Item.Attribute (record { name = extent 2 3; value = extent 5 5; next = 6 })))
    -- `r a=''`
    ∷ (row (114 ∷ 32 ∷ 97 ∷ 61 ∷ 39 ∷ 39 ∷ []) 2 2 (refused Fault.BadState 0))
    -- `r a='1'b='2'`
    ∷ (row (114 ∷ 32 ∷ 97 ∷ 61 ∷ 39 ∷ 49 ∷ 39 ∷ 98 ∷ 61 ∷ 39 ∷ 50 ∷ 39 ∷ []) 1 7 (refused Fault.NoSpace 7))
    -- `r a='1'b='2'`
    ∷ (row (114 ∷ 32 ∷ 97 ∷ 61 ∷ 39 ∷ 49 ∷ 39 ∷ 98 ∷ 61 ∷ 39 ∷ 50 ∷ 39 ∷ []) 1 12 (refused Fault.BadState 0))
    -- `r a='1'b`
    ∷ (row (114 ∷ 32 ∷ 97 ∷ 61 ∷ 39 ∷ 49 ∷ 39 ∷ 98 ∷ []) 1 7 (refused Fault.NoSpace 7))
    -- `r a='1'a='2'`
    ∷ (row (114 ∷ 32 ∷ 97 ∷ 61 ∷ 39 ∷ 49 ∷ 39 ∷ 97 ∷ 61 ∷ 39 ∷ 50 ∷ 39 ∷ []) 1 7 (refused Fault.NoSpace 7))
    -- `r '1'`
    ∷ (row (114 ∷ 32 ∷ 39 ∷ 49 ∷ 39 ∷ []) 1 1 (refused Fault.EmptyName 2))
    -- `r ='1'`
    ∷ (row (114 ∷ 32 ∷ 61 ∷ 39 ∷ 49 ∷ 39 ∷ []) 1 1 (refused Fault.EmptyName 2))
    -- `r a'1'`
    ∷ (row (114 ∷ 32 ∷ 97 ∷ 39 ∷ 49 ∷ 39 ∷ []) 1 1 (refused Fault.NoEquals 3))
    -- `r a b=''`
    ∷ (row (114 ∷ 32 ∷ 97 ∷ 32 ∷ 98 ∷ 61 ∷ 39 ∷ 39 ∷ []) 1 1 (refused Fault.NoEquals 4))
    -- `r a`
    ∷ (row (114 ∷ 32 ∷ 97 ∷ []) 1 1 (refused Fault.NoEquals 3))
    -- `r a= b`
    ∷ (row (114 ∷ 32 ∷ 97 ∷ 61 ∷ 32 ∷ 98 ∷ []) 1 1 (refused Fault.NoOpeningQuote 5))
    -- `r a=`
    ∷ (row (114 ∷ 32 ∷ 97 ∷ 61 ∷ []) 1 1 (refused Fault.NoOpeningQuote 4))
    -- `r a='b"`
    ∷ (row (114 ∷ 32 ∷ 97 ∷ 61 ∷ 39 ∷ 98 ∷ 34 ∷ []) 1 1 (refused (Fault.NoClosingQuote apos) 7))
    -- `r a='<`
    ∷ (row (114 ∷ 32 ∷ 97 ∷ 61 ∷ 39 ∷ 60 ∷ []) 1 1 (refused Fault.LessThan 5))
    -- `r a='<'`
    ∷ (row (114 ∷ 32 ∷ 97 ∷ 61 ∷ 39 ∷ 60 ∷ 39 ∷ []) 1 1 (refused Fault.LessThan 5))
    -- `r a='1' a`
    ∷ (row (114 ∷ 32 ∷ 97 ∷ 61 ∷ 39 ∷ 49 ∷ 39 ∷ 32 ∷ 97 ∷ []) 1 7 (refused (Fault.NameUsed 2) 8))
    -- `r a='' b='' a=''`
    ∷ (row (114 ∷ 32 ∷ 97 ∷ 61 ∷ 39 ∷ 39 ∷ 32 ∷ 98 ∷ 61 ∷ 39 ∷ 39 ∷ 32 ∷ 97 ∷ 61 ∷ 39 ∷ 39 ∷ []) 1 11 (refused (Fault.NameUsed 2) 12))
    -- `r a='1'b`
    ∷ (row (114 ∷ 32 ∷ 97 ∷ 61 ∷ 39 ∷ 49 ∷ 39 ∷ 98 ∷ []) 1 1 (Item.Attribute (record { name = extent 2 3; value = extent 5 6; next = 7 })))
    -- `r </&=''`
    ∷ (row (114 ∷ 32 ∷ 60 ∷ 47 ∷ 38 ∷ 61 ∷ 39 ∷ 39 ∷ []) 1 1 (Item.Attribute (record { name = extent 2 5; value = extent 7 7; next = 8 })))
    -- `r a='1'`
    ∷ (row (114 ∷ 32 ∷ 97 ∷ 61 ∷ 39 ∷ 49 ∷ 39 ∷ []) 1 5 (refused Fault.BadState 0))
    -- `r`
    ∷ (row (114 ∷ []) 1 2 (refused Fault.BadState 0))
    -- `r`
    ∷ (row (114 ∷ []) 1 0 (refused Fault.BadState 0))
    -- `r a='' a=''`
    ∷ (row (114 ∷ 32 ∷ 97 ∷ 61 ∷ 39 ∷ 39 ∷ 32 ∷ 97 ∷ 61 ∷ 39 ∷ 39 ∷ []) 1 11 (refused Fault.BadState 0))
    ∷ []
