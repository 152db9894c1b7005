-- What routines inside this crate promise: how far a scan comes in the bytes that it is fed, with places counted there.
use Rattle.parser.specs.Machine.{Scan as Course, found, going}
use Rattle.parser.specs.declared.element.Found.{Found as TagFound}
use Rattle.parser.specs.declared.first.Found.{Found as FirstFound}
use Rattle.parser.specs.declared.marks.Found.{Found as MarksFound}
use Rattle.pieces.specs.declared.scan.Kind.{Kind}
use Rattle.pieces.specs.declared.scan.State.{State}
use Rattle.pieces.specs.declared.ahead.Ahead.{Ahead}
use Rattle.pieces.specs.Kinds.{tag_course, marked_course, first_course}

-- the machine's course as the answer
abbrev pub ahead_of : Course State → Ahead
ahead_of (found place) = Ahead.At place
ahead_of (going state) = Ahead.Open state

-- what the scans of `parser` answer, so
abbrev pub tag_ahead : TagFound → Ahead
tag_ahead f = ahead_of (tag_course f)

abbrev pub marked_ahead : Kind → MarksFound → Ahead
marked_ahead kind f = ahead_of (marked_course kind f)

abbrev pub first_ahead : State → FirstFound → Ahead
first_ahead state f = ahead_of (first_course state f)
