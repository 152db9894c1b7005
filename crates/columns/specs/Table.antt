-- Worked examples of the text of a time.
use Rattle.std.specs.Prelude.{ℕ, List, [], ◌∷◌}
use Rattle.columns.specs.declared.text.Text.{Text}
use Rattle.columns.specs.Time.{read_time}

-- a text, and what it tells
pub record Row : Type 0 where
  pub text : List ℕ
  pub tells : Text

abbrev pub row : List ℕ → Text → Row
row text tells = record { text = text; tells = tells }

-- by the definition, and by the table
abbrev pub given : Row → Text
given x = read_time x.text

abbrev pub wanted : Row → Text
wanted x = x.tells

unfoldable pub table : List Row
table =
    -- `23:50`
    (row (50 ∷ 51 ∷ 58 ∷ 53 ∷ 48 ∷ []) (Text.Time 1430))
    -- `24:10`
    ∷ (row (50 ∷ 52 ∷ 58 ∷ 49 ∷ 48 ∷ []) (Text.Time 1450))
    -- `47:59`
    ∷ (row (52 ∷ 55 ∷ 58 ∷ 53 ∷ 57 ∷ []) (Text.Time 2879))
    -- `00:00`
    ∷ (row (48 ∷ 48 ∷ 58 ∷ 48 ∷ 48 ∷ []) (Text.Time 0))
    -- `06:15` with white space of each kind around it
    ∷ (row (32 ∷ 9 ∷ 48 ∷ 54 ∷ 58 ∷ 49 ∷ 53 ∷ 13 ∷ 10 ∷ []) (Text.Time 375))
    -- no bytes
    ∷ (row ([]) Text.Empty)
    -- white space alone
    ∷ (row (32 ∷ 10 ∷ []) Text.Empty)
    -- `48:00`
    ∷ (row (52 ∷ 56 ∷ 58 ∷ 48 ∷ 48 ∷ []) Text.Other)
    -- `23:60`
    ∷ (row (50 ∷ 51 ∷ 58 ∷ 54 ∷ 48 ∷ []) Text.Other)
    -- `6:15`
    ∷ (row (54 ∷ 58 ∷ 49 ∷ 53 ∷ []) Text.Other)
    -- `006:15`
    ∷ (row (48 ∷ 48 ∷ 54 ∷ 58 ∷ 49 ∷ 53 ∷ []) Text.Other)
    -- `06.15`
    ∷ (row (48 ∷ 54 ∷ 46 ∷ 49 ∷ 53 ∷ []) Text.Other)
    -- `06:1a`
    ∷ (row (48 ∷ 54 ∷ 58 ∷ 49 ∷ 97 ∷ []) Text.Other)
    -- `06: 15`
    ∷ (row (48 ∷ 54 ∷ 58 ∷ 32 ∷ 49 ∷ 53 ∷ []) Text.Other)
    ∷ []
