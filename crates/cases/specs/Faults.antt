-- The number of each refusal of a case, and the byte of the rule that it is about.
use Rattle.std.specs.Prelude.{ℕ, Some, None, Option}
use Rattle.rules.specs.Faults.{rule_fault_number, fault_place}
use Rattle.cases.specs.declared.fault.CaseFault.{CaseFault}
use Rattle.cases.specs.declared.fault.CaseFault.TheVariants.{TooLong, BadField, Misplaced, Rule}

abbrev pub case_number : CaseFault → ℕ
case_number TooLong = 22
case_number BadField = 20
case_number Misplaced = 21
case_number (Rule f) = rule_fault_number f

-- only what is about the rule has such a place
abbrev pub case_place : CaseFault → Option ℕ
case_place TooLong = None
case_place BadField = None
case_place Misplaced = None
case_place (Rule f) = Some (fault_place f)
