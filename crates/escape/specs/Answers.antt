-- The refusals of references, and the paper's number and values for every answer (document 02).
use Rattle.std.specs.Prelude.{ℕ}
use Rattle.escape.specs.declared.answer.Fault.{Fault}
use Rattle.escape.specs.declared.answer.Refusal.{Refusal}
use Rattle.escape.specs.declared.answer.Written.{Written}
use Rattle.escape.specs.declared.answer.Values.{Values}

-- "25 not of that form and not one of the five names, 26 the value is no XML character, 27 the bytes don't fit, or the place is past the buffer's end"
abbrev pub fault_number : Fault → ℕ
fault_number Fault.NotOfForm = 25
fault_number Fault.NoCharacter = 26
fault_number Fault.NoRoom = 27

-- a refusal at a place of the content
abbrev pub refusal : Fault → ℕ → Refusal
refusal fault place = record { fault = fault; place = place }

abbrev pub refused : Fault → ℕ → Written
refused fault place = Written.Refused (refusal fault place)

-- ---- answers as numbers

abbrev pub refusal_values : Refusal → Values
refusal_values x = record { count = 0; number = fault_number x.fault; place = x.place }

abbrev pub values_of : Written → Values
values_of (Written.Bytes count) = record { count = count; number = 0; place = 0 }
values_of (Written.Refused x) = refusal_values x
