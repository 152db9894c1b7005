-- `read_time` meets its contract. Assumes nothing.
use Rattle.columns.proofs.Texts.{texts}
use Rattle.columns.proofs.text.read_time.Goals as goal

pub cleared-time-requires : goal.cleared-time-requires
cleared-time-requires c = search texts

pub returns-then-time-eq0 : goal.returns-then-time-eq0
returns-then-time-eq0 c = search texts

pub is_clock-requires : goal.is_clock-requires
is_clock-requires c = search texts

pub returns-then-not-is_clock : goal.returns-then-not-is_clock
returns-then-not-is_clock c = search texts

pub bounds-time-0 : goal.bounds-time-0
bounds-time-0 c = search texts

pub bounds-time-1 : goal.bounds-time-1
bounds-time-1 c = search texts

pub two_digits-hours-requires : goal.two_digits-hours-requires
two_digits-hours-requires c = search texts

pub bounds-time-3 : goal.bounds-time-3
bounds-time-3 c = search texts

pub bounds-time-4 : goal.bounds-time-4
bounds-time-4 c = search texts

pub two_digits-minutes-requires : goal.two_digits-minutes-requires
two_digits-minutes-requires c = search texts

pub returns-then-hours-gt-LAST_HOUR : goal.returns-then-hours-gt-LAST_HOUR
returns-then-hours-gt-LAST_HOUR c = search texts

pub returns-then-minutes-gt-LAST_MINUTE : goal.returns-then-minutes-gt-LAST_MINUTE
returns-then-minutes-gt-LAST_MINUTE c = search texts

pub overflow_mul-result : goal.overflow_mul-result
overflow_mul-result c = search texts

pub overflow_add-result : goal.overflow_add-result
overflow_add-result c = search texts

pub returns : goal.returns
returns c = search texts
