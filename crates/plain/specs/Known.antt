-- What a byte does to what is known of a piece. No promise of `advance` names what stands here.
use Rattle.std.specs.Prelude.{ℕ, ◌+◌, ◌-◌, List, ◌∷◌, Bool, true, false, not, ◌&&◌, ◌||◌, length, get_or, eqb, leb, ltb}
use Rattle.ground.specs.Choose.{pick}
use Rattle.ground.specs.Bytes.{amp, apos, bang, close_bracket, gt, hyphen, lt, open_bracket, question, quot, semicolon, slash}
use Rattle.white.specs.White.{is_white}
use Rattle.state.specs.declared.place.Span.{Span}
use Rattle.emit.specs.Bang.{comment_opener, cdata_opener}
use Rattle.emit.specs.Question.{xml}
use Rattle.reader.specs.Step.{bom}
use Rattle.plain.specs.declared.known.Part.{Part}
use Rattle.plain.specs.declared.known.Known.{Known}
use Rattle.plain.specs.Letters.{owing, letter}

-- ---- what the piece is, and its opener

abbrev pub next_part : Part → ℕ → Part
next_part Part.Nothing b = pick (eqb b lt) Part.Opened (pick (eqb b amp) Part.Reference Part.Text)
next_part Part.Opened b =
    pick (eqb b bang) Part.Bang (pick (eqb b question) Part.Instruction (pick (eqb b slash) Part.Closing Part.Opening))
next_part Part.Bang b = pick (eqb b open_bracket) Part.CData Part.Comment
next_part Part.Text b = Part.Text
next_part Part.Reference b = Part.Reference
next_part Part.Comment b = Part.Comment
next_part Part.CData b = Part.CData
next_part Part.Instruction b = Part.Instruction
next_part Part.Closing b = Part.Closing
next_part Part.Opening b = Part.Opening

-- `<?xml`
abbrev pub decl_opener : List ℕ
decl_opener = lt ∷ question ∷ xml

-- the byte at k of bytes that begin with the word
unfoldable pub goes : List ℕ → ℕ → ℕ → Bool
goes word k b = leb (length word) k || eqb (get_or word k 0) b

abbrev pub opens : Part → ℕ → ℕ → Bool
opens Part.Comment k b = goes comment_opener k b
opens Part.CData k b = goes cdata_opener k b
opens Part.Instruction k b = goes decl_opener k b && ((not (eqb k 5) || is_white b) || eqb b question)
opens Part.Nothing k b = true
opens Part.Text k b = true
opens Part.Reference k b = true
opens Part.Opened k b = true
opens Part.Bang k b = true
opens Part.Closing k b = true
opens Part.Opening k b = true

-- ---- other things known

-- the quote that is open, or 0
unfoldable pub next_quote : ℕ → ℕ → ℕ
next_quote q b = pick (eqb q 0) (pick (eqb b apos || eqb b quot) b 0) (pick (eqb b q) 0 q)

-- the first place where something is so, or how far was read
unfoldable pub reach : ℕ → ℕ → Bool → ℕ
reach first at so = pick (eqb first at && not so) (at + 1) first

unfoldable pub fresh : ℕ → Bool → Known
fresh at mark =
    record {
      part = Part.Nothing;
      from = at;
      at = at;
      mark = mark;
      letters = owing at 0 0x80 0xBF;
      kept = at;
      name = at;
      quote = 0;
      last = 0;
      before = 0;
      right = true;
      pair = at;
      differs = at;
    }

abbrev pub size_of : Known → ℕ
size_of k = k.at - k.from

abbrev pub name_len : Known → Span → ℕ
name_len k content = pick (ltb k.name content.to) k.name content.to - content.from

-- ---- where the piece ends

module _ (k : Known) (b : ℕ) where
  abbrev pub ends_in : Part → Bool
  ends_in Part.Nothing = false
  ends_in Part.Text = eqb b lt || eqb b amp
  ends_in Part.Reference = (eqb b semicolon || eqb b amp) || eqb b lt
  ends_in Part.Opened = eqb b gt
  ends_in Part.Bang = not (eqb b open_bracket) && not (eqb b hyphen)
  ends_in Part.Comment = ((eqb b gt && eqb k.last hyphen) && eqb k.before hyphen) && leb 6 (size_of k)
  ends_in Part.CData = (eqb b gt && eqb k.last close_bracket) && eqb k.before close_bracket
  ends_in Part.Instruction = eqb b gt && eqb k.last question
  ends_in Part.Closing = eqb b gt && eqb k.quote 0
  ends_in Part.Opening = eqb b gt && eqb k.quote 0

unfoldable pub ends_of : Known → ℕ → Bool
ends_of k b = ends_in k b k.part

-- ---- a byte more, where it does not end

module _ (k : Known) (b : ℕ) where
  -- EF BB BF
  abbrev pub marks : Bool
  marks = k.mark && eqb (get_or bom k.at 0) b

  -- a second hyphen, the four bytes of `<!--` left out
  abbrev pub two_hyphens : Bool
  two_hyphens = (eqb b hyphen && eqb k.last hyphen) && ltb 4 (size_of k)

  unfoldable pub more : Bool → Known
  more same =
      record {
        part = next_part k.part b;
        from = k.from;
        at = k.at + 1;
        mark = marks;
        letters = letter k.letters k.at b;
        kept = pick (is_white b) k.kept (k.at + 1);
        name = reach k.name k.at (is_white b);
        quote = next_quote k.quote b;
        last = b;
        before = k.last;
        right = k.right && opens k.part (size_of k) b;
        pair = reach k.pair k.at two_hyphens;
        differs = reach k.differs k.at (not same);
      }

  -- behind a byte order mark, and behind white space that is skipped, a piece may begin
  abbrev pub begins : Bool → Bool
  begins trim = (marks && eqb k.at 2) || ((eqb (size_of k) 0 && trim) && is_white b)

  unfoldable pub tick_of : Bool → Bool → Known
  tick_of trim same = pick (begins trim) (fresh (k.at + 1) false) (more same)

-- the byte of the open name that stands against one behind `</`
unfoldable pub same_of : List ℕ → Known → Span → ℕ → Bool
same_of doc k last b =
    pick (ltb (size_of k) 2) true
    (ltb (last.from + (size_of k - 2)) last.to && eqb (get_or doc (last.from + (size_of k - 2)) 0) b)
