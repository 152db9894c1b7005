-- What the routines inside this crate promise those that call them. No promise of another crate names what stands here.
use Rattle.std.specs.Prelude.{ℕ, ◌+◌, ◌≡◌, List, length, drop, leb}
use Rattle.ground.specs.Choose.{pick}
use Rattle.ground.specs.Part.{part}
use Rattle.escape.specs.declared.answer.Fault.{Fault}
use Rattle.escape.specs.declared.reference.Reference.{Reference}
use Rattle.escape.specs.declared.text.Found.{Found}
use Rattle.escape.specs.Reference.{reference_of}
use Rattle.escape.specs.Text.{Text, content_len}

-- no number from here on is a character's
abbrev pub past : ℕ
past = 0x110000

-- what a reference names, and where the content goes on behind it
abbrev pub found_by : ℕ → Reference → Found
found_by next Reference.NotOfForm = Found.Refused Fault.NotOfForm
found_by next Reference.NoCharacter = Found.Refused Fault.NoCharacter
found_by next (Reference.Character v) = Found.Character v next

-- the `;` of a reference whose content begins at a place, or the end
abbrev pub close_at : List ℕ → ℕ → ℕ
close_at s from = from + content_len (drop from s)

-- the reference whose content begins at a place
unfoldable pub found_at : List ℕ → ℕ → Found
found_at s from =
    pick (leb (length s) (close_at s from)) (Found.Refused Fault.NotOfForm) (found_by (close_at s from + 1) (reference_of (part s from (close_at s from))))

-- a text with no refusal
pub record IsWhole (text : Text) : Type 0 where
  pub bytes : List ℕ
  pub whole : text ≡ Text.Whole bytes
