use Rattle.std.proofs.Common.{arith}
use Rattle.tokens.proofs.Decimals.{digits_more, value_more, value_fits}
use Rattle.tokens.proofs.digits.number_of.Goals as goal

pub overflow_mul-value : goal.overflow_mul-value
overflow_mul-value c =
    let inv = c.loop-digit.invariant in
    omega (arith, value_fits _ _ c.loop-digit-test.true inv.all c.if-not-is_ascii_digit.ensures.cases _ inv.value c.if-digits-gt-MOST_DIGITS.false)

pub overflow_add-value : goal.overflow_add-value
overflow_add-value c =
    let inv = c.loop-digit.invariant in
    omega (arith, value_fits _ _ c.loop-digit-test.true inv.all c.if-not-is_ascii_digit.ensures.cases _ inv.value c.if-digits-gt-MOST_DIGITS.false)

pub loop-digit-preserved : goal.loop-digit-preserved
loop-digit-preserved c =
    let inv = c.loop-digit.invariant in
    let digit = c.if-not-is_ascii_digit.ensures.cases in
    record { all = digits_more _ _ c.loop-digit-test.true inv.all digit; value = value_more _ _ c.loop-digit-test.true inv.all digit _ inv.value }
