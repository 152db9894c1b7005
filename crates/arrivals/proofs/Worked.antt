-- Worked examples: what is whole, and what is not. Assumes nothing.
use Prim.Native.Nat.{ℕ}
use mathlib.Core.Path.{refl}
use mathlib.Core.List.{List, [], ◌∷◌}
use mathlib.Core.Bool.{true}
use lib.ListN.{length}
use Rattle.ground.specs.Equal.{begins}
use Rattle.white.specs.White.{until}
use Rattle.parser.specs.Machine.{feed}
use Rattle.state.specs.declared.config.Config.{Config}
use Rattle.state.specs.Settings.{defaults, trim_text}
use Rattle.state.specs.Make.{fresh}
use Rattle.pieces.specs.Fed.{fed, fed_on}
use Rattle.reader.specs.Step.{begin, skipped}
use Rattle.pieces.proofs.Theorems.{found_open}
use Rattle.arrivals.specs.Whole.{Whole}

-- what the first call reads, with these settings
abbrev First : Config → List ℕ → Type 0
First c doc = Whole doc (fresh (length doc) c)

-- a byte order mark and `<t>`
pub a_tag : First defaults (0xEF ∷ 0xBB ∷ 0xBF ∷ 60 ∷ 116 ∷ 62 ∷ [])
unfolding fresh begin begins skipped until fed fed_on feed
a_tag = record { place = 2; tells = refl }

-- `<t` behind it
pub no_tag_yet : First defaults (0xEF ∷ 0xBB ∷ 0xBF ∷ 60 ∷ 116 ∷ []) → ⊥
unfolding fresh begin begins skipped until fed fed_on feed
no_tag_yet w = found_open w.place w.tells

-- two bytes of the mark
pub no_mark_yet : First defaults (0xEF ∷ 0xBB ∷ []) → ⊥
unfolding fresh begin begins skipped until fed fed_on feed
no_mark_yet w = found_open w.place w.tells

-- `06:15`, which may go on
pub no_text_yet : First defaults (48 ∷ 54 ∷ 58 ∷ 49 ∷ 53 ∷ []) → ⊥
unfolding fresh begin begins skipped until fed fed_on feed
no_text_yet w = found_open w.place w.tells

-- `06:15<`
pub a_text : First defaults (48 ∷ 54 ∷ 58 ∷ 49 ∷ 53 ∷ 60 ∷ [])
unfolding fresh begin begins skipped until fed fed_on feed
a_text = record { place = 5; tells = refl }

-- a space and `<`: a text, or white space that is passed over and a tag to come
pub a_space : First defaults (32 ∷ 60 ∷ [])
unfolding fresh begin begins skipped until fed fed_on feed
a_space = record { place = 1; tells = refl }

pub no_space_trimmed : First (trim_text defaults true) (32 ∷ 60 ∷ []) → ⊥
unfolding fresh begin begins skipped until fed fed_on feed
no_space_trimmed w = found_open w.place w.tells
