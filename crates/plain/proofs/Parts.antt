-- The last arm of a match, which has all cases that no other has: what the definition says of each of them. Assumes nothing.
use Prim.Native.Nat.{ℕ}
use mathlib.Core.Path.{◌≡◌, refl}
use mathlib.Core.Bool.{true, false}
use Rattle.state.specs.declared.place.Depth.{Depth}
use Rattle.state.specs.declared.place.Span.{Span}
use Rattle.state.specs.declared.run.Phase.{Phase}
use Rattle.state.specs.declared.run.Reader.{Reader}
use Rattle.plain.specs.declared.known.Part.{Part}
use Rattle.plain.specs.declared.known.Known.{Known}
use Rattle.plain.specs.Known.{next_part, opens}
use Rattle.plain.specs.Told.{is_done, is_text, becomes, opening_of, in_tag, closer, no_closer, stop, read, unclosed_in, whole_of, closed_piece, behind, closed_in}

-- ---- phases

pub not_text : (p : Phase) → (p ≡ Phase.InsideText → ⊥) → is_text p ≡ false
not_text Phase.Init w = refl
not_text Phase.InsideText w = absurd (w refl)
not_text Phase.InsideMarkup w = refl
not_text Phase.InsideRef w = refl
not_text Phase.InsideEmpty w = refl
not_text Phase.Done w = refl

pub not_done : (p : Phase) → (p ≡ Phase.Done → ⊥) → is_done p ≡ false
not_done Phase.Init w = refl
not_done Phase.InsideText w = refl
not_done Phase.InsideMarkup w = refl
not_done Phase.InsideRef w = refl
not_done Phase.InsideEmpty w = refl
not_done Phase.Done w = absurd (w refl)

-- ---- parts

pub stays : (p : Part) (b : ℕ) → (p ≡ Part.Nothing → ⊥) → (p ≡ Part.Opened → ⊥) → (p ≡ Part.Bang → ⊥) → p ≡ next_part p b
stays Part.Nothing b n _ _ = absurd (n refl)
stays Part.Text b _ _ _ = refl
stays Part.Reference b _ _ _ = refl
stays Part.Opened b _ n _ = absurd (n refl)
stays Part.Bang b _ _ n = absurd (n refl)
stays Part.Comment b _ _ _ = refl
stays Part.CData b _ _ _ = refl
stays Part.Instruction b _ _ _ = refl
stays Part.Closing b _ _ _ = refl
stays Part.Opening b _ _ _ = refl

pub no_opener : (p : Part) (k b : ℕ) → (p ≡ Part.Comment → ⊥) → (p ≡ Part.CData → ⊥) → (p ≡ Part.Instruction → ⊥) → true ≡ opens p k b
no_opener Part.Nothing k b _ _ _ = refl
no_opener Part.Text k b _ _ _ = refl
no_opener Part.Reference k b _ _ _ = refl
no_opener Part.Opened k b _ _ _ = refl
no_opener Part.Bang k b _ _ _ = refl
no_opener Part.Comment k b n _ _ = absurd (n refl)
no_opener Part.CData k b _ n _ = absurd (n refl)
no_opener Part.Instruction k b _ _ n = absurd (n refl)
no_opener Part.Closing k b _ _ _ = refl
no_opener Part.Opening k b _ _ _ = refl

pub in_tag_lem : (k : Known) (p : Part) → (p ≡ Part.Comment → ⊥) → (p ≡ Part.CData → ⊥) → (p ≡ Part.Instruction → ⊥) → closer k p ≡ in_tag k.quote
in_tag_lem k Part.Nothing m d i = refl
in_tag_lem k Part.Text m d i = refl
in_tag_lem k Part.Reference m d i = refl
in_tag_lem k Part.Opened m d i = refl
in_tag_lem k Part.Bang m d i = refl
in_tag_lem k Part.Comment m d i = absurd (m refl)
in_tag_lem k Part.CData m d i = absurd (d refl)
in_tag_lem k Part.Instruction m d i = absurd (i refl)
in_tag_lem k Part.Closing m d i = refl
in_tag_lem k Part.Opening m d i = refl

module _ (r : Reader) (k : Known) (last : Span) (room : Depth) where
  pub becomes_tag : (piece : Span) (next : Phase) (p : Part) → (p ≡ Part.Nothing → ⊥) → (p ≡ Part.Text → ⊥) → (p ≡ Part.Reference → ⊥) → (p ≡ Part.Comment → ⊥) → (p ≡ Part.CData → ⊥) → (p ≡ Part.Instruction → ⊥) → (p ≡ Part.Closing → ⊥) → becomes r k piece next last room p ≡ opening_of r k piece room
  becomes_tag piece next Part.Nothing n _ _ _ _ _ _ = absurd (n refl)
  becomes_tag piece next Part.Text _ n _ _ _ _ _ = absurd (n refl)
  becomes_tag piece next Part.Reference _ _ n _ _ _ _ = absurd (n refl)
  becomes_tag piece next Part.Opened _ _ _ _ _ _ _ = refl
  becomes_tag piece next Part.Bang _ _ _ _ _ _ _ = refl
  becomes_tag piece next Part.Comment _ _ _ n _ _ _ = absurd (n refl)
  becomes_tag piece next Part.CData _ _ _ _ n _ _ = absurd (n refl)
  becomes_tag piece next Part.Instruction _ _ _ _ _ n _ = absurd (n refl)
  becomes_tag piece next Part.Closing _ _ _ _ _ _ n = absurd (n refl)
  becomes_tag piece next Part.Opening _ _ _ _ _ _ _ = refl

  pub no_end : (p : Part) → (p ≡ Part.Nothing → ⊥) → (p ≡ Part.Text → ⊥) → (p ≡ Part.Reference → ⊥) → (p ≡ Part.Opened → ⊥) → (p ≡ Part.Bang → ⊥) → unclosed_in r k last room p ≡ stop r (no_closer k) (read r k last room)
  no_end Part.Nothing n _ _ _ _ = absurd (n refl)
  no_end Part.Text _ n _ _ _ = absurd (n refl)
  no_end Part.Reference _ _ n _ _ = absurd (n refl)
  no_end Part.Opened _ _ _ n _ = absurd (n refl)
  no_end Part.Bang _ _ _ _ n = absurd (n refl)
  no_end Part.Comment _ _ _ _ _ = refl
  no_end Part.CData _ _ _ _ _ = refl
  no_end Part.Instruction _ _ _ _ _ = refl
  no_end Part.Closing _ _ _ _ _ = refl
  no_end Part.Opening _ _ _ _ _ = refl

  pub ended : (b : ℕ) (p : Part) → (p ≡ Part.Bang → ⊥) → closed_in r k last room b p ≡ whole_of r k (closed_piece r k last room b) (behind b) last room
  ended b Part.Nothing _ = refl
  ended b Part.Text _ = refl
  ended b Part.Reference _ = refl
  ended b Part.Opened _ = refl
  ended b Part.Bang n = absurd (n refl)
  ended b Part.Comment _ = refl
  ended b Part.CData _ = refl
  ended b Part.Instruction _ = refl
  ended b Part.Closing _ = refl
  ended b Part.Opening _ = refl
