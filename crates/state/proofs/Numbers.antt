-- Every answer is an event of one of the ten kinds, end of file among them, or a refusal with one of the paper's numbers. Assumes nothing.
use Prim.Native.Nat.{◌≤◌, ◌<◌}
use mathlib.Core.Path.{◌≡◌, refl}
use mathlib.Core.Logic.{◌⊎◌, inl, inr}
use native.Mathlib.Omega.{arith}
use Rattle.state.specs.declared.answer.Kind.{Kind}
use Rattle.state.specs.declared.answer.Error.{Error}
use Rattle.state.specs.declared.answer.Answer.{Answer}
use Rattle.state.specs.Values.{kind_number, numbered_of, values_of}

kind_range : (k : Kind) → (1 ≤ kind_number k) × (kind_number k ≤ 10)
kind_range Kind.Start = omega arith
kind_range Kind.End = omega arith
kind_range Kind.Empty = omega arith
kind_range Kind.Text = omega arith
kind_range Kind.GeneralRef = omega arith
kind_range Kind.Comment = omega arith
kind_range Kind.CData = omega arith
kind_range Kind.Decl = omega arith
kind_range Kind.PI = omega arith
kind_range Kind.Eof = omega arith

error_range : (e : Error) → (1 ≤ (numbered_of e).number) × ((numbered_of e).number ≤ 18)
error_range Error.UnclosedTag = omega arith
error_range Error.UnclosedSingleQuotedAttributeValue = omega arith
error_range Error.UnclosedDoubleQuotedAttributeValue = omega arith
error_range Error.UnclosedComment = omega arith
error_range Error.UnclosedCData = omega arith
error_range Error.UnclosedPI = omega arith
error_range Error.UnclosedXmlDecl = omega arith
error_range Error.InvalidBangMarkup = omega arith
error_range Error.DoubleHyphenInComment = omega arith
error_range (Error.MismatchedEndTag expected found) = omega arith
error_range (Error.UnmatchedEndTag found) = omega arith
error_range Error.UnclosedReference = omega arith
error_range Error.Encoding = omega arith
error_range Error.DocType = omega arith
error_range Error.NameStackFull = omega arith
error_range Error.SliceTooLong = omega arith
error_range Error.BadState = omega arith
error_range Error.UnclosedElements = omega arith

pub answer_range : (a : Answer)
    → ((1 ≤ (values_of a).kind) × ((values_of a).kind ≤ 10) × ((values_of a).number ≡ 0))
    ⊎ (((values_of a).kind ≡ 0) × (1 ≤ (values_of a).number) × ((values_of a).number ≤ 18))
answer_range (Answer.Event e) = let k = kind_range e.kind in inl (k.0, k.1, refl)
answer_range (Answer.Refused x) = let n = error_range x.error in inr (refl, n.0, n.1)

-- so none is both
pub no_number : (a : Answer) → 0 < (values_of a).kind → (values_of a).number ≡ 0
no_number (Answer.Event e) h = refl
no_number (Answer.Refused x) h = absurd (omega arith)

pub no_kind : (a : Answer) → 0 < (values_of a).number → (values_of a).kind ≡ 0
no_kind (Answer.Event e) h = absurd (omega arith)
no_kind (Answer.Refused x) h = refl
