-- The numbers of a job's refusals, and the replies of its calls as a run of calls has them.
use Rattle.std.specs.Prelude.{ℕ, Ok, Err, Result}
use Rattle.runs.specs.Jobs.{JobAnswer, accepted, first_unknown}
use Rattle.jobs.specs.declared.fault.EnterFault.{EnterFault}
use Rattle.jobs.specs.declared.fault.EnterFault.TheVariants.{Sealed, NoSuchLine, BadStretch, NotReading, NotInside, TooManyPieces}
use Rattle.jobs.specs.declared.fault.NoSuchLine.{NoSuchLine as NoLine}

abbrev pub missing_line_number : NoLine → ℕ
missing_line_number e = 2

abbrev pub enter_fault_number : EnterFault → ℕ
enter_fault_number Sealed = 1
enter_fault_number NoSuchLine = missing_line_number (record {})
enter_fault_number BadStretch = 3
enter_fault_number NotReading = 4
enter_fault_number NotInside = 5
enter_fault_number TooManyPieces = 6

abbrev pub enter_reply : Result (Unit {0}) EnterFault → Result JobAnswer ℕ
enter_reply (Ok u) = Ok accepted
enter_reply (Err e) = Err (enter_fault_number e)

abbrev pub known_reply : Result ℕ NoLine → Result JobAnswer ℕ
known_reply (Ok t) = Ok (first_unknown t)
known_reply (Err e) = Err (missing_line_number e)
