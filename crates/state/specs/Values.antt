-- The paper's number and values for every answer. Kinds of event have numbers of our own: the paper numbers refusals only.
use Rattle.std.specs.Prelude.{ℕ, Bool, true, false, eqb, leb}
use Rattle.ground.specs.Choose.{pick}
use Rattle.state.specs.declared.answer.Kind.{Kind}
use Rattle.state.specs.declared.answer.Event.{Event}
use Rattle.state.specs.declared.answer.Error.{Error}
use Rattle.state.specs.declared.answer.Refusal.{Refusal}
use Rattle.state.specs.declared.answer.Answer.{Answer}
use Rattle.state.specs.declared.answer.Numbered.{Numbered}
use Rattle.state.specs.declared.answer.Values.{Values}
use Rattle.state.specs.Place.{span}

-- the kinds of event, from 1 on
abbrev pub kind_number : Kind → ℕ
kind_number Kind.Start = 1
kind_number Kind.End = 2
kind_number Kind.Empty = 3
kind_number Kind.Text = 4
kind_number Kind.GeneralRef = 5
kind_number Kind.Comment = 6
kind_number Kind.CData = 7
kind_number Kind.Decl = 8
kind_number Kind.PI = 9
kind_number Kind.Eof = 10

-- a refusal without spans of its own
abbrev pub spanless : ℕ → Numbered
spanless n = record { number = n; expected = span 0 0; found = span 0 0 }

-- the refusals (document 01, "When a call is refused"; 18 by document 02): "MismatchedEndTag (with expected and found spans), UnmatchedEndTag (with found
-- span)"
abbrev pub numbered_of : Error → Numbered
numbered_of Error.UnclosedTag = spanless 1
numbered_of Error.UnclosedSingleQuotedAttributeValue = spanless 2
numbered_of Error.UnclosedDoubleQuotedAttributeValue = spanless 3
numbered_of Error.UnclosedComment = spanless 4
numbered_of Error.UnclosedCData = spanless 5
numbered_of Error.UnclosedPI = spanless 6
numbered_of Error.UnclosedXmlDecl = spanless 7
numbered_of Error.InvalidBangMarkup = spanless 8
numbered_of Error.DoubleHyphenInComment = spanless 9
numbered_of (Error.MismatchedEndTag expected found) = record { number = 10; expected = expected; found = found }
numbered_of (Error.UnmatchedEndTag found) = record { number = 11; expected = span 0 0; found = found }
numbered_of Error.UnclosedReference = spanless 12
numbered_of Error.Encoding = spanless 13
numbered_of Error.DocType = spanless 14
numbered_of Error.NameStackFull = spanless 15
numbered_of Error.SliceTooLong = spanless 16
numbered_of Error.BadState = spanless 17
numbered_of Error.UnclosedElements = spanless 18

-- "Each answer has a kind, the piece (start, end), the content (start, end) and a name length"; the rest is 0
abbrev pub event_values : Event → Values
event_values e =
    record {
      kind = kind_number e.kind;
      number = 0;
      place = 0;
      piece = e.piece;
      content = e.content;
      name = e.name;
      expected = span 0 0;
      found = span 0 0;
    }

-- "A refusal has its number, its place, and a piece from the piece's start to the position left"; the rest is 0
abbrev pub refusal_values : Refusal → Values
refusal_values x =
    record {
      kind = 0;
      number = (numbered_of x.error).number;
      place = x.place.0;
      piece = x.piece;
      content = span 0 0;
      name = 0;
      expected = (numbered_of x.error).expected;
      found = (numbered_of x.error).found;
    }

abbrev pub values_of : Answer → Values
values_of (Answer.Event e) = event_values e
values_of (Answer.Refused x) = refusal_values x

-- "a refusal that ended the run (1 to 8, 13 to 15)"
abbrev pub ends_run : ℕ → Bool
ends_run n = pick (leb n 8) (leb 1 n) (pick (leb 13 n) (leb n 15) false)

-- the mark is "turned on by Eof (setting on or off), by 18 and by those refusals, kept by every other answer"
abbrev pub turns_on : Answer → Bool
turns_on a = pick (eqb (values_of a).kind (kind_number Kind.Eof)) true (pick (eqb (values_of a).number 18) true (ends_run (values_of a).number))
