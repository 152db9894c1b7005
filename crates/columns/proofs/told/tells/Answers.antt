-- `tells` meets its contract. Assumes nothing.
use Rattle.columns.proofs.Answers.{events}
use Rattle.columns.proofs.told.tells.Goals as goal

pub enum_known-answer : goal.enum_known-answer
enum_known-answer c = search events

pub enum_known-answer-in-Event-1 : goal.enum_known-answer-in-Event-1
enum_known-answer-in-Event-1 c = search events

pub number-number-requires : goal.number-number-requires
number-number-requires c = search events

pub number-requires : goal.number-requires
number-requires c = search events

pub within-requires : goal.within-requires
within-requires c = search events

pub content-requires : goal.content-requires
content-requires c = search events

pub text_tells-requires : goal.text_tells-requires
text_tells-requires c = search events

pub returns-then-within : goal.returns-then-within
returns-then-within c = search events

pub returns-then-number : goal.returns-then-number
returns-then-number c = search events

pub number-requires-in-Event : goal.number-requires-in-Event
number-requires-in-Event c = search events

pub within-requires-then-number-2 : goal.within-requires-then-number-2
within-requires-then-number-2 c = search events

pub returns-then-within-2 : goal.returns-then-within-2
returns-then-within-2 c = search events

pub returns-in-Refused : goal.returns-in-Refused
returns-in-Refused c = search events

pub returns-else-within-2 : goal.returns-else-within-2
returns-else-within-2 c = search events

pub returns-else-number-2 : goal.returns-else-number-2
returns-else-number-2 c = search events
