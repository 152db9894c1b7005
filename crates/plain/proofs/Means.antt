-- What it means that a piece is such a part: its first bytes, what the definition cuts off there, and that it has not ended so far. Assumes nothing.
use Prim.Native.Nat.{ℕ, ◌+◌, ◌-◌, ◌≤◌, ◌<◌}
use mathlib.Core.Path.{◌≡◌}
use mathlib.Core.List.{List}
use mathlib.Core.Bool.{Bool, true, false}
use mathlib.Core.Logic.{◌⊎◌}
use lib.ListN.{get_or}
use lib.Dec.{eqb}
use Rattle.ground.specs.Choose.{pick}
use Rattle.ground.specs.Bytes.{bang, hyphen, lt, open_bracket, question, slash}
use Rattle.parser.specs.Machine.{scan_at}
use Rattle.parser.specs.Element.{element_step, element_answer, element_found, quote_of, IsQuote}
use Rattle.parser.specs.First.{first_step, first_answer, one_of, text_ends, text_found, reference_ends, reference_found}
use Rattle.parser.specs.Marks.{PiEnd, CommentEnd, CDataEnd}
use Rattle.parser.specs.declared.element.ElementState.{ElementState}
use Rattle.reader.specs.Cut.{cut_next, cut_text, cut_ref}
use Rattle.plain.specs.declared.known.Part.{Part}
use Rattle.plain.specs.declared.known.Known.{Known}
use Rattle.plain.specs.Known.{opens}

-- all bytes so far may stand where they stand in the opener, or one may not
pub record Right (doc : List ℕ) (p : Part) (from at : ℕ) (right : Bool) : Type 0 where
  pub all : right ≡ true → (j : ℕ) → from ≤ j → j < at → opens p (j - from) (get_or doc j 0) ≡ true
  pub some : right ≡ false → (j : ℕ) × (from ≤ j) × (j < at) × (opens p (j - from) (get_or doc j 0) ≡ false)

-- the scan's state within the quote that is open
abbrev pub quoted : ℕ → ElementState
quoted q = pick (eqb q 0) ElementState.Outside (quote_of q)

module _ (doc : List ℕ) (k : Known) where
  -- markup by its first bytes
  pub record AtFirst : Type 0 where
    pub size : k.at ≡ k.from + 1
    pub first : get_or doc k.from 0 ≡ lt
    pub right : k.right ≡ true
    pub quote : k.quote ≡ 0

  pub record AtSecond : Type 0 where
    pub size : k.at ≡ k.from + 2
    pub first : get_or doc k.from 0 ≡ lt
    pub second : get_or doc (k.from + 1) 0 ≡ bang
    pub right : k.right ≡ true

  -- a comment or CDATA, which has not ended
  pub record Banged (p : Part) (byte : ℕ) (End : ℕ → Type 0) : Type 0 where
    pub size : k.from + 3 ≤ k.at
    pub first : get_or doc k.from 0 ≡ lt
    pub second : get_or doc (k.from + 1) 0 ≡ bang
    pub third : get_or doc (k.from + 2) 0 ≡ byte
    pub opener : Right doc p k.from k.at k.right
    pub none : (j : ℕ) → j < k.at → End j → ⊥

  pub record Instructed : Type 0 where
    pub size : k.from + 2 ≤ k.at
    pub first : get_or doc k.from 0 ≡ lt
    pub second : get_or doc (k.from + 1) 0 ≡ question
    pub opener : Right doc Part.Instruction k.from k.at k.right
    pub none : (j : ℕ) → j < k.at → PiEnd doc k.from j → ⊥

  -- a tag, which has not ended
  pub record Tagged : Type 0 where
    pub size : k.from + 2 ≤ k.at
    pub first : get_or doc k.from 0 ≡ lt
    pub scan : element_found doc k.from ≡ element_answer (scan_at element_step (quoted k.quote) doc k.at)
    pub quote : (k.quote ≡ 0) ⊎ IsQuote k.quote

  abbrev pub Means : Part → Type 0
  Means Part.Nothing = (k.from ≡ k.at) × (k.right ≡ true) × (k.quote ≡ 0)
  Means Part.Text =
      (k.from < k.at) × (cut_next doc k.from ≡ cut_text doc k.from)
      × (text_found doc k.from ≡ first_answer (scan_at (first_step (one_of text_ends)) tt doc k.at))
  Means Part.Reference =
      (k.from < k.at) × (cut_next doc k.from ≡ cut_ref doc k.from)
      × (reference_found doc k.from ≡ first_answer (scan_at (first_step (one_of reference_ends)) tt doc k.at))
  Means Part.Opened = AtFirst
  Means Part.Bang = AtSecond
  Means Part.Comment = Banged Part.Comment hyphen (CommentEnd doc k.from)
  Means Part.CData = Banged Part.CData open_bracket (CDataEnd doc k.from)
  Means Part.Instruction = Instructed
  Means Part.Closing = Tagged × (get_or doc (k.from + 1) 0 ≡ slash)
  Means Part.Opening =
      Tagged × (get_or doc (k.from + 1) 0 ≡ bang → ⊥) × (get_or doc (k.from + 1) 0 ≡ question → ⊥) × (get_or doc (k.from + 1) 0 ≡ slash → ⊥)
