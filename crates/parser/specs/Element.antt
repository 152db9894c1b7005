-- The scan of a tag: the first `>` outside quotes (document 01, "Markup").
use Rattle.std.specs.Prelude.{ℕ, ◌≤◌, ◌<◌, ◌≡◌, List, [], ◌∷◌, ◌++◌, ◌⊎◌, length, get_or, eqb}
use Rattle.ground.specs.Choose.{pick}
use Rattle.ground.specs.Bytes.{quot, apos, gt}
use Rattle.ground.specs.Part.{part}
use Rattle.parser.specs.Machine.{Next, go, halt, Scan, found, going, scan_at}
use Rattle.parser.specs.declared.element.ElementState.{ElementState}
use Rattle.parser.specs.declared.element.ElementState.TheVariants.{Outside, SingleQ, DoubleQ}
use Rattle.parser.specs.declared.element.Found.{Found}
use Rattle.parser.specs.declared.element.Found.TheVariants.{At, Open}

-- outside quotes `>` stops the scan and a quote opens; within a quote only the same quote counts, and closes it
abbrev pub element_step : ElementState → ℕ → Next ElementState
element_step Outside b = pick (eqb b gt) halt (pick (eqb b apos) (go SingleQ) (pick (eqb b quot) (go DoubleQ) (go Outside)))
element_step SingleQ b = pick (eqb b apos) (go Outside) (go SingleQ)
element_step DoubleQ b = pick (eqb b quot) (go Outside) (go DoubleQ)

-- the scan as the answer that it gives
abbrev pub element_answer : Scan ElementState → Found
element_answer (found p) = At p
element_answer (going q) = Open q

-- from `from` on, outside quotes at first
abbrev pub element_found : List ℕ → ℕ → Found
element_found s from = element_answer (scan_at element_step Outside s from)

-- by cases on the answer
module _ {A : Type 0} where
  abbrev pub by_tag : Found → (ℕ → A) → A → A
  by_tag (At p) f a = f p
  by_tag (Open q) f a = a

-- the state within a quote that b opened
abbrev pub quote_of : ℕ → ElementState
quote_of b = pick (eqb b apos) SingleQ DoubleQ

-- ---- the same in words

-- `'` or `"`
abbrev pub IsQuote : ℕ → Type 0
IsQuote b = (b ≡ quot) ⊎ (b ≡ apos)

-- no byte of the list is q
abbrev pub Without : ℕ → List ℕ → Type 0
Without q [] = Unit {0}
Without q (b ∷ bs) = (b ≡ q → ⊥) × Without q bs

-- bytes that leave one outside quotes: none; or such bytes and a byte that is no quote; or such bytes, a quote, bytes without that quote, and that quote
pub data OutsideQuotes : List ℕ → Type 0 where
  at_first : OutsideQuotes []
  unquoted : {bs : List ℕ} {b : ℕ} → OutsideQuotes bs → (IsQuote b → ⊥) → OutsideQuotes (bs ++ (b ∷ []))
  quoted : {bs : List ℕ} {q : ℕ} (xs : List ℕ) → OutsideQuotes bs → IsQuote q → Without q xs → OutsideQuotes (bs ++ (q ∷ (xs ++ (q ∷ []))))

-- bytes that leave one within a quote q: bytes that leave one outside, q, and bytes without q
pub data WithinQuote (q : ℕ) : List ℕ → Type 0 where
  after_quote : {bs : List ℕ} (xs : List ℕ) → OutsideQuotes bs → Without q xs → WithinQuote q (bs ++ (q ∷ xs))

-- where bytes leave one, for each state
abbrev pub LeavesIn : ElementState → List ℕ → Type 0
LeavesIn Outside bs = OutsideQuotes bs
LeavesIn SingleQ bs = WithinQuote apos bs
LeavesIn DoubleQ bs = WithinQuote quot bs

-- at p stands a `>` outside quotes, which are counted from `from` on
pub record TagEnd (s : List ℕ) (from p : ℕ) : Type 0 where
  pub after : from ≤ p
  pub within : p < length s
  pub closes : get_or s p 0 ≡ gt
  pub outside : OutsideQuotes (part s from p)
