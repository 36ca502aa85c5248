use Rattle.std.proofs.Common.{◌<◌, length, sym, arith}
use Rattle.std.proofs.lemmas.Bool.{eqb-false}
use Rattle.std.proofs.lemmas.Int.{ints}
use Rattle.tokens.specs.Words.{number_written}
use Rattle.tokens.proofs.Decimals.{decimal_below}
use Rattle.case_text.proofs.number.ten_digits.Goals as goal

pub overflow_cast-result : goal.overflow_cast-result
overflow_cast-result c =
    let below : number_written c.args.word.now < 10000000000 = decimal_below c.args.word.now 10 c.in_ok-value.ensures.0.0 (omega arith) in
    let small : c.in_ok-value.value < 10000000000 = omega (arith, c.in_ok-value.ensures.1) in
    record { sfits = omega arith }

pub returns : goal.returns
returns c =
    let below : number_written c.args.word.now < 10000000000 = decimal_below c.args.word.now 10 c.in_ok-value.ensures.0.0 (omega arith) in
    let some : 0 < length c.args.word.now = omega (arith, eqb-false _ _ (sym c.if-is_empty.ensures)) in
    (record { all = c.in_ok-value.ensures.0.0; some = some; short = omega arith }, omega (arith, ints, c.in_ok-value.ensures.1))
