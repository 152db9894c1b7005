-- Worked examples of references: a content, how many bytes a buffer has, a place in it, and what comes of it there.
use Rattle.std.specs.Prelude.{ℕ, List, [], ◌∷◌, replicate}
use Rattle.escape.specs.declared.answer.Fault.{Fault}
use Rattle.escape.specs.Text.{Text, not_written, one_text, whole_text}

pub record Row : Type 0 where
  pub content : List ℕ
  pub size : ℕ
  pub at : ℕ
  pub text : Text

abbrev pub row : List ℕ → ℕ → ℕ → Text → Row
row content size at text = record { content = content; size = size; at = at; text = text }

-- by the definitions, and by the table
abbrev pub given_one : Row → Text
given_one x = one_text x.content x.size x.at

abbrev pub given_whole : Row → Text
given_whole x = whole_text x.content x.size x.at

abbrev pub wanted : Row → Text
wanted x = x.text

-- ---- one reference

unfoldable pub references : List Row
references =
    -- `lt`
    (row (108 ∷ 116 ∷ []) 4 0 (Text.Whole (60 ∷ [])))
    -- `gt`
    ∷ (row (103 ∷ 116 ∷ []) 4 0 (Text.Whole (62 ∷ [])))
    -- `amp`
    ∷ (row (97 ∷ 109 ∷ 112 ∷ []) 4 0 (Text.Whole (38 ∷ [])))
    -- `apos`
    ∷ (row (97 ∷ 112 ∷ 111 ∷ 115 ∷ []) 4 0 (Text.Whole (39 ∷ [])))
    -- `quot`
    ∷ (row (113 ∷ 117 ∷ 111 ∷ 116 ∷ []) 4 0 (Text.Whole (34 ∷ [])))
    -- `#65`
    ∷ (row (35 ∷ 54 ∷ 53 ∷ []) 4 0 (Text.Whole (65 ∷ [])))
    -- `#x41`
    ∷ (row (35 ∷ 120 ∷ 52 ∷ 49 ∷ []) 4 0 (Text.Whole (65 ∷ [])))
    -- `#x7f`
    ∷ (row (35 ∷ 120 ∷ 55 ∷ 102 ∷ []) 4 0 (Text.Whole (127 ∷ [])))
    -- `#x80`
    ∷ (row (35 ∷ 120 ∷ 56 ∷ 48 ∷ []) 4 0 (Text.Whole (194 ∷ 128 ∷ [])))
    -- `#x7FF`
    ∷ (row (35 ∷ 120 ∷ 55 ∷ 70 ∷ 70 ∷ []) 4 0 (Text.Whole (223 ∷ 191 ∷ [])))
    -- `#x800`
    ∷ (row (35 ∷ 120 ∷ 56 ∷ 48 ∷ 48 ∷ []) 4 0 (Text.Whole (224 ∷ 160 ∷ 128 ∷ [])))
    -- `#x20AC`
    ∷ (row (35 ∷ 120 ∷ 50 ∷ 48 ∷ 65 ∷ 67 ∷ []) 4 0 (Text.Whole (226 ∷ 130 ∷ 172 ∷ [])))
    -- `#xD7FF`
    ∷ (row (35 ∷ 120 ∷ 68 ∷ 55 ∷ 70 ∷ 70 ∷ []) 4 0 (Text.Whole (237 ∷ 159 ∷ 191 ∷ [])))
    -- `#xE000`
    ∷ (row (35 ∷ 120 ∷ 69 ∷ 48 ∷ 48 ∷ 48 ∷ []) 4 0 (Text.Whole (238 ∷ 128 ∷ 128 ∷ [])))
    -- `#xFFFD`
    ∷ (row (35 ∷ 120 ∷ 70 ∷ 70 ∷ 70 ∷ 68 ∷ []) 4 0 (Text.Whole (239 ∷ 191 ∷ 189 ∷ [])))
    -- `#x10000`
    ∷ (row (35 ∷ 120 ∷ 49 ∷ 48 ∷ 48 ∷ 48 ∷ 48 ∷ []) 4 0 (Text.Whole (240 ∷ 144 ∷ 128 ∷ 128 ∷ [])))
    -- `#x1f686`
    ∷ (row (35 ∷ 120 ∷ 49 ∷ 102 ∷ 54 ∷ 56 ∷ 54 ∷ []) 4 0 (Text.Whole (240 ∷ 159 ∷ 154 ∷ 134 ∷ [])))
    -- `#1114111`
    ∷ (row (35 ∷ 49 ∷ 49 ∷ 49 ∷ 52 ∷ 49 ∷ 49 ∷ 49 ∷ []) 4 0 (Text.Whole (244 ∷ 143 ∷ 191 ∷ 191 ∷ [])))
    -- `#0009`
    ∷ (row (35 ∷ 48 ∷ 48 ∷ 48 ∷ 57 ∷ []) 4 0 (Text.Whole (9 ∷ [])))
    -- nothing
    ∷ (row ([]) 4 0 (not_written Fault.NotOfForm 0))
    -- `LT`
    ∷ (row (76 ∷ 84 ∷ []) 4 0 (not_written Fault.NotOfForm 0))
    -- `nbsp`
    ∷ (row (110 ∷ 98 ∷ 115 ∷ 112 ∷ []) 4 0 (not_written Fault.NotOfForm 0))
    -- `#`
    ∷ (row (35 ∷ []) 4 0 (not_written Fault.NotOfForm 0))
    -- `#x`
    ∷ (row (35 ∷ 120 ∷ []) 4 0 (not_written Fault.NotOfForm 0))
    -- `#X41`
    ∷ (row (35 ∷ 88 ∷ 52 ∷ 49 ∷ []) 4 0 (not_written Fault.NotOfForm 0))
    -- `#+1`
    ∷ (row (35 ∷ 43 ∷ 49 ∷ []) 4 0 (not_written Fault.NotOfForm 0))
    -- `# 1`
    ∷ (row (35 ∷ 32 ∷ 49 ∷ []) 4 0 (not_written Fault.NotOfForm 0))
    -- `#x-1`
    ∷ (row (35 ∷ 120 ∷ 45 ∷ 49 ∷ []) 4 0 (not_written Fault.NotOfForm 0))
    -- `#a`
    ∷ (row (35 ∷ 97 ∷ []) 4 0 (not_written Fault.NotOfForm 0))
    -- `#xg`
    ∷ (row (35 ∷ 120 ∷ 103 ∷ []) 4 0 (not_written Fault.NotOfForm 0))
    -- `#0x41`
    ∷ (row (35 ∷ 48 ∷ 120 ∷ 52 ∷ 49 ∷ []) 4 0 (not_written Fault.NotOfForm 0))
    -- `#0`
    ∷ (row (35 ∷ 48 ∷ []) 4 0 (not_written Fault.NoCharacter 0))
    -- `#8`
    ∷ (row (35 ∷ 56 ∷ []) 4 0 (not_written Fault.NoCharacter 0))
    -- `#11`
    ∷ (row (35 ∷ 49 ∷ 49 ∷ []) 4 0 (not_written Fault.NoCharacter 0))
    -- `#x1F`
    ∷ (row (35 ∷ 120 ∷ 49 ∷ 70 ∷ []) 4 0 (not_written Fault.NoCharacter 0))
    -- `#xD800`
    ∷ (row (35 ∷ 120 ∷ 68 ∷ 56 ∷ 48 ∷ 48 ∷ []) 4 0 (not_written Fault.NoCharacter 0))
    -- `#xDFFF`
    ∷ (row (35 ∷ 120 ∷ 68 ∷ 70 ∷ 70 ∷ 70 ∷ []) 4 0 (not_written Fault.NoCharacter 0))
    -- `#xFFFE`
    ∷ (row (35 ∷ 120 ∷ 70 ∷ 70 ∷ 70 ∷ 69 ∷ []) 4 0 (not_written Fault.NoCharacter 0))
    -- `#xFFFF`
    ∷ (row (35 ∷ 120 ∷ 70 ∷ 70 ∷ 70 ∷ 70 ∷ []) 4 0 (not_written Fault.NoCharacter 0))
    -- `#1114112`
    ∷ (row (35 ∷ 49 ∷ 49 ∷ 49 ∷ 52 ∷ 49 ∷ 49 ∷ 50 ∷ []) 4 0 (not_written Fault.NoCharacter 0))
    -- `#4294967361`
    ∷ (row (35 ∷ 52 ∷ 50 ∷ 57 ∷ 52 ∷ 57 ∷ 54 ∷ 55 ∷ 51 ∷ 54 ∷ 49 ∷ []) 4 0 (not_written Fault.NoCharacter 0))
    -- `#` and a hundred times `9`
    ∷ (row (35 ∷ replicate 100 57) 4 0 (not_written Fault.NoCharacter 0))
    -- `#x1F686`
    ∷ (row (35 ∷ 120 ∷ 49 ∷ 70 ∷ 54 ∷ 56 ∷ 54 ∷ []) 3 0 (not_written Fault.NoRoom 0))
    -- `lt`
    ∷ (row (108 ∷ 116 ∷ []) 4 4 (not_written Fault.NoRoom 0))
    -- `zz`
    ∷ (row (122 ∷ 122 ∷ []) 0 9 (not_written Fault.NotOfForm 0))
    -- `#0`
    ∷ (row (35 ∷ 48 ∷ []) 0 9 (not_written Fault.NoCharacter 0))
    -- `lt`
    ∷ (row (108 ∷ 116 ∷ []) 0 9 (not_written Fault.NoRoom 0))
    ∷ []

-- ---- a whole text

unfoldable pub texts : List Row
texts =
    -- nothing
    (row ([]) 0 0 (Text.Whole []))
    -- nothing
    ∷ (row ([]) 3 3 (Text.Whole []))
    -- nothing
    ∷ (row ([]) 3 4 (not_written Fault.NoRoom 0))
    -- `06:15`
    ∷ (row (48 ∷ 54 ∷ 58 ∷ 49 ∷ 53 ∷ []) 5 0 (Text.Whole (48 ∷ 54 ∷ 58 ∷ 49 ∷ 53 ∷ [])))
    -- `Bar &amp; Grill`
    ∷ (row (66 ∷ 97 ∷ 114 ∷ 32 ∷ 38 ∷ 97 ∷ 109 ∷ 112 ∷ 59 ∷ 32 ∷ 71 ∷ 114 ∷ 105 ∷ 108 ∷ 108 ∷ []) 20 3 (Text.Whole (66 ∷ 97 ∷ 114 ∷ 32 ∷ 38 ∷ 32 ∷ 71 ∷ 114 ∷ 105 ∷ 108 ∷ 108 ∷ [])))
    -- `&lt;&#62;`
    ∷ (row (38 ∷ 108 ∷ 116 ∷ 59 ∷ 38 ∷ 35 ∷ 54 ∷ 50 ∷ 59 ∷ []) 2 0 (Text.Whole (60 ∷ 62 ∷ [])))
    -- `a&lt;b;`
    ∷ (row (97 ∷ 38 ∷ 108 ∷ 116 ∷ 59 ∷ 98 ∷ 59 ∷ []) 9 0 (Text.Whole (97 ∷ 60 ∷ 98 ∷ 59 ∷ [])))
    -- `&#x2192;`
    ∷ (row (38 ∷ 35 ∷ 120 ∷ 50 ∷ 49 ∷ 57 ∷ 50 ∷ 59 ∷ []) 9 0 (Text.Whole (226 ∷ 134 ∷ 146 ∷ [])))
    -- `&lt;&zz;`
    ∷ (row (38 ∷ 108 ∷ 116 ∷ 59 ∷ 38 ∷ 122 ∷ 122 ∷ 59 ∷ []) 9 0 (not_written Fault.NotOfForm 4))
    -- `&a&lt;`
    ∷ (row (38 ∷ 97 ∷ 38 ∷ 108 ∷ 116 ∷ 59 ∷ []) 9 0 (not_written Fault.NotOfForm 0))
    -- `&a<b;`
    ∷ (row (38 ∷ 97 ∷ 60 ∷ 98 ∷ 59 ∷ []) 9 0 (not_written Fault.NotOfForm 0))
    -- `a&lt`
    ∷ (row (97 ∷ 38 ∷ 108 ∷ 116 ∷ []) 9 0 (not_written Fault.NotOfForm 1))
    -- `&;`
    ∷ (row (38 ∷ 59 ∷ []) 9 0 (not_written Fault.NotOfForm 0))
    -- `ab&#0;`
    ∷ (row (97 ∷ 98 ∷ 38 ∷ 35 ∷ 48 ∷ 59 ∷ []) 9 0 (not_written Fault.NoCharacter 2))
    -- `ab&zz;`
    ∷ (row (97 ∷ 98 ∷ 38 ∷ 122 ∷ 122 ∷ 59 ∷ []) 1 0 (not_written Fault.NoRoom 1))
    -- `&zz;`
    ∷ (row (38 ∷ 122 ∷ 122 ∷ 59 ∷ []) 0 0 (not_written Fault.NotOfForm 0))
    -- `&lt;&zz;`
    ∷ (row (38 ∷ 108 ∷ 116 ∷ 59 ∷ 38 ∷ 122 ∷ 122 ∷ 59 ∷ []) 0 0 (not_written Fault.NoRoom 0))
    -- `a&#x80;`
    ∷ (row (97 ∷ 38 ∷ 35 ∷ 120 ∷ 56 ∷ 48 ∷ 59 ∷ []) 2 0 (not_written Fault.NoRoom 1))
    -- `a`
    ∷ (row (97 ∷ []) 3 4 (not_written Fault.NoRoom 0))
    -- `&#0;`
    ∷ (row (38 ∷ 35 ∷ 48 ∷ 59 ∷ []) 3 9 (not_written Fault.NoCharacter 0))
    ∷ []
