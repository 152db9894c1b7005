-- The same in words: what a reader of XML 1.0 and of RFC 3629 expects of the definitions.
use Rattle.std.specs.Prelude.{ℕ, ◌+◌, ◌-◌, ◌*◌, ◌≤◌, ◌<◌, ◌≡◌, ◌⊎◌, List, [], ◌∷◌, ◌++◌, length, get_or, take, drop}
use Rattle.ground.specs.Bytes.{quot, amp, apos, lt, gt, semicolon}
use Rattle.escape.specs.declared.answer.Fault.{Fault}
use Rattle.escape.specs.declared.reference.Reference.{Reference}
use Rattle.escape.specs.Scalar.{octets}
use Rattle.escape.specs.Reference.{lt_name, gt_name, amp_name, apos_name, quot_name, hash, lower_x, digit, reference_of}

-- ---- the value of a character's bytes, four at most: the x of the RFC's rows, joined (RFC 3629, section 3)

abbrev pub value_of : List ℕ → ℕ
value_of [] = 0
value_of (a ∷ []) = a
value_of (a ∷ b ∷ []) = (a - 0xC0) * 0x40 + (b - 0x80)
value_of (a ∷ b ∷ c ∷ []) = (a - 0xE0) * 0x1000 + (b - 0x80) * 0x40 + (c - 0x80)
value_of (a ∷ b ∷ c ∷ d ∷ bs) = (a - 0xF0) * 0x40000 + (b - 0x80) * 0x1000 + (c - 0x80) * 0x40 + (d - 0x80)

-- ---- a reference, as the grammar has it

-- one digit of a base or more, and the number that they are
pub data Number (base : ℕ) : List ℕ → ℕ → Type 0 where
  one : (d : ℕ) → digit d < base → Number base (d ∷ []) (digit d)
  more : {ds : List ℕ} {v : ℕ} (d : ℕ) → Number base ds v → digit d < base → Number base (ds ++ (d ∷ [])) (v * base + digit d)

-- the five names of section 4.6, and production 66
pub data Names : List ℕ → ℕ → Type 0 where
  less : Names lt_name lt
  greater : Names gt_name gt
  ampersand : Names amp_name amp
  apostrophe : Names apos_name apos
  quote : Names quot_name quot
  decimal : {ds : List ℕ} {v : ℕ} → Number 10 ds v → Names (hash ∷ ds) v
  hexadecimal : {ds : List ℕ} {v : ℕ} → Number 16 ds v → Names (hash ∷ lower_x ∷ ds) v

-- ---- a text

-- no byte of the list is this one
pub data Without (k : ℕ) : List ℕ → Type 0 where
  none : Without k []
  also : {b : ℕ} {bs : List ℕ} → (b ≡ k → ⊥) → Without k bs → Without k (b ∷ bs)

-- a text, and the same with every reference replaced by its character and nothing else
pub data Replaced : List ℕ → List ℕ → Type 0 where
  nothing : Replaced [] []
  plain : {bs out : List ℕ} (b : ℕ) → (b ≡ amp → ⊥) → Replaced bs out → Replaced (b ∷ bs) (b ∷ out)
  reference : {bs out : List ℕ} (c : List ℕ) (v : ℕ) → Without semicolon c → reference_of c ≡ Reference.Character v → Replaced bs out
      → Replaced (amp ∷ (c ++ (semicolon ∷ bs))) (octets v ++ out)

-- each byte has its place in a buffer of so many bytes, from a place on; where there are none nothing is asked, be the place past the end
abbrev pub Placed : ℕ → ℕ → List ℕ → Type 0
Placed size at out = (k : ℕ) → k < length out → at + k < size

-- what refuses the first item of a text, which would go to the place p
pub data Fails (size p : ℕ) : Fault → List ℕ → Type 0 where
  unclosed : {bs : List ℕ} → Without semicolon bs → Fails size p Fault.NotOfForm (amp ∷ bs)
  formless : (c bs : List ℕ) → Without semicolon c → reference_of c ≡ Reference.NotOfForm → Fails size p Fault.NotOfForm (amp ∷ (c ++ (semicolon ∷ bs)))
  valueless : (c bs : List ℕ) → Without semicolon c → reference_of c ≡ Reference.NoCharacter → Fails size p Fault.NoCharacter (amp ∷ (c ++ (semicolon ∷ bs)))
  character : (c bs : List ℕ) (v : ℕ) → Without semicolon c → reference_of c ≡ Reference.Character v → size < p + length (octets v)
      → Fails size p Fault.NoRoom (amp ∷ (c ++ (semicolon ∷ bs)))
  byte : {bs : List ℕ} (b : ℕ) → (b ≡ amp → ⊥) → size < p + 1 → Fails size p Fault.NoRoom (b ∷ bs)
  end : size < p → Fails size p Fault.NoRoom []

-- the first refusal from the left: all before it is replaced and has its place, and it stands there
pub record FirstRefusal (content : List ℕ) (size at : ℕ) (fault : Fault) (place : ℕ) : Type 0 where
  pub before : List ℕ
  pub rest : List ℕ
  pub out : List ℕ
  pub cut : content ≡ before ++ rest
  pub here : place ≡ length before
  pub replaced : Replaced before out
  pub placed : Placed size at out
  pub fails : Fails size (at + length out) fault rest

-- what a call has written: the text with its references replaced, n bytes from a place on; the buffer is as long as before, and each byte outside the run is the one that stood there
pub record Wrote (content buffer : List ℕ) (at n : ℕ) (buffer' : List ℕ) : Type 0 where
  pub out : List ℕ
  pub replaced : Replaced content out
  pub count : length out ≡ n
  pub run : take n (drop at buffer') ≡ out
  pub long : length buffer' ≡ length buffer
  pub outside : (k : ℕ) → (k < at) ⊎ (at + n ≤ k) → get_or buffer' k 0 ≡ get_or buffer k 0
