-- The number of each refusal of a rule text, and its place in the text.
use Rattle.std.specs.Prelude.{ℕ}
use Rattle.tokens.specs.declared.fault.TokenFault.TheVariants.{TooLong, Malformed}
use Rattle.rules.specs.declared.fault.RuleFault.{RuleFault}
use Rattle.rules.specs.declared.fault.RuleFault.TheVariants.{Empty, Token, Grammar, UnknownName, OutOfBounds, TooDeep, TooManyRows, TooFar}

abbrev pub rule_fault_number : RuleFault → ℕ
rule_fault_number Empty = 12
rule_fault_number (Token TooLong) = 12
rule_fault_number (Token (Malformed at)) = 13
rule_fault_number (Grammar at) = 14
rule_fault_number (UnknownName at) = 15
rule_fault_number (OutOfBounds at) = 16
rule_fault_number (TooDeep at) = 17
rule_fault_number TooManyRows = 18
rule_fault_number TooFar = 19

abbrev pub fault_place : RuleFault → ℕ
fault_place Empty = 0
fault_place (Token TooLong) = 0
fault_place (Token (Malformed at)) = at
fault_place (Grammar at) = at
fault_place (UnknownName at) = at
fault_place (OutOfBounds at) = at
fault_place (TooDeep at) = at
fault_place TooManyRows = 0
fault_place TooFar = 0
