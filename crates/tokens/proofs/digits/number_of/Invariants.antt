use Rattle.std.proofs.Common.{◌≡◌, take}
use Rattle.std.specs.List.{AllByRecursion}
use Rattle.tokens.specs.Words.{Digit, number_written}
use Rattle.tokens.proofs.digits.number_of.Given as goal

abbrev pub invariant-loop-digit : goal.invariant-loop-digit
invariant-loop-digit l =
    let front = take l.digit-index l.digits in
    record { all : AllByRecursion Digit front; value : l.value ≡ number_written front }
