-- References as text: what is written of one reference and of a whole text, and THE PROMISES of both (document 02).
use Rattle.std.specs.Prelude.{ℕ, zero, suc, ◌+◌, ◌≡◌, Bool, List, [], ◌∷◌, ◌++◌, length, take, drop, leb, eqb}
use Rattle.ground.specs.Choose.{pick}
use Rattle.ground.specs.Bytes.{amp, semicolon}
use Rattle.white.specs.White.{until}
use Rattle.escape.specs.declared.answer.Fault.{Fault}
use Rattle.escape.specs.declared.answer.Refusal.{Refusal}
use Rattle.escape.specs.declared.answer.Written.{Written}
use Rattle.escape.specs.declared.reference.Reference.{Reference}
use Rattle.escape.specs.Answers.{refusal}
use Rattle.escape.specs.Scalar.{octets}
use Rattle.escape.specs.Reference.{reference_of}

-- bytes to be written, or a refusal
pub data Text : Type 0 where
  Whole : List ℕ → Text
  Refused : Refusal → Text

abbrev pub not_written : Fault → ℕ → Text
not_written fault place = Text.Refused (refusal fault place)

-- ---- one item, at the place p of a buffer of so many bytes

-- "27 the bytes don't fit, or the place is past the buffer's end"
abbrev pub fitting : ℕ → ℕ → List ℕ → ℕ → Text
fitting size p bs place = pick (leb (p + length bs) size) (Text.Whole bs) (not_written Fault.NoRoom place)

-- a reference whose place in the content is given: "Refusals, in this order"
abbrev pub character_of : ℕ → ℕ → ℕ → Reference → Text
character_of size p place Reference.NotOfForm = not_written Fault.NotOfForm place
character_of size p place Reference.NoCharacter = not_written Fault.NoCharacter place
character_of size p place (Reference.Character v) = fitting size p (octets v) place

-- ---- one reference: the place of its refusals is 0

abbrev pub one_text : List ℕ → ℕ → ℕ → Text
one_text content size at = character_of size at 0 (reference_of content)

-- ---- a whole text: "content with references between (each from `&` to the next `;`; none is 25), to one run of bytes, or the first refusal from the left"

abbrev pub is_byte : ℕ → ℕ → Bool
is_byte k b = eqb b k

-- how many bytes stand before the next `;`
abbrev pub content_len : List ℕ → ℕ
content_len bs = until (is_byte semicolon) bs

-- what comes behind an item: nothing behind a refusal
abbrev pub behind : List ℕ → Text → Text
behind bs (Text.Whole cs) = Text.Whole (bs ++ cs)
behind bs (Text.Refused x) = Text.Refused x

abbrev pub onward : Text → (ℕ → Text) → Text
onward (Text.Whole bs) rest = behind bs (rest (length bs))
onward (Text.Refused x) rest = Text.Refused x

-- content from its place i on, of which the first k bytes belong to a reference that was taken already, to the place p of a buffer of so many bytes
unfoldable pub text_from : ℕ → ℕ → ℕ → ℕ → List ℕ → Text
text_from size k p i [] = fitting size p [] i
text_from size (suc k) p i (b ∷ bs) = text_from size k p (i + 1) bs
text_from size zero p i (b ∷ bs) =
    pick (eqb b amp)
    (pick (leb (length bs) (content_len bs))
    (not_written Fault.NotOfForm i)
    (onward (character_of size p i (reference_of (take (content_len bs) bs))) (λ n. text_from size (content_len bs + 1) (p + n) (i + 1) bs)))
    (onward (fitting size p (b ∷ []) i) (λ n. text_from size zero (p + n) (i + 1) bs))

abbrev pub whole_text : List ℕ → ℕ → ℕ → Text
whole_text content size at = text_from size 0 at 0 content

-- ---- what is answered, and what is left in the buffer

abbrev pub written_of : Text → Written
written_of (Text.Whole bs) = Written.Bytes (length bs)
written_of (Text.Refused x) = Written.Refused x

-- "every other byte of the buffer stays"
abbrev pub over : List ℕ → ℕ → List ℕ → List ℕ
over buffer at bs = take at buffer ++ bs ++ drop (at + length bs) buffer

-- "buffer unchanged"
abbrev pub left_of : List ℕ → ℕ → Text → List ℕ
left_of buffer at (Text.Whole bs) = over buffer at bs
left_of buffer at (Text.Refused x) = buffer

-- THE PROMISE: the answer, and every byte of the buffer
pub record Put (text : Text) (buffer : List ℕ) (at : ℕ) (answer : Written) (buffer' : List ℕ) : Type 0 where
  pub told : answer ≡ written_of text
  pub bytes : buffer' ≡ left_of buffer at text
