use Rattle.std.proofs.Common.{arith}
use Rattle.case_text.proofs.Fives.{count_none, count_cut, five_is}
use Rattle.case_text.proofs.line.five_words.Goals as goal

pub returns-in_err-one : goal.returns-in_err-one
returns-in_err-one c = rw c.from_residual.ensures (λ five. omega (arith, five, count_none c.args.words.now c.in_err-one.ensures))

pub returns-in_err-two : goal.returns-in_err-two
returns-in_err-two c =
    rw c.from_residual-in_err-two.ensures (λ five. omega (arith, five, count_cut c.in_ok-one.ensures, count_none c.in_ok-one.one.rest.now c.in_err-two.ensures))

pub returns-in_err-three : goal.returns-in_err-three
returns-in_err-three c =
    rw c.from_residual-in_err-three.ensures (λ five. omega (arith, five, count_cut c.in_ok-one.ensures, count_cut c.in_ok-two.ensures, count_none c.in_ok-two.two.rest.now c.in_err-three.ensures))

pub returns-in_err-four : goal.returns-in_err-four
returns-in_err-four c =
    rw c.from_residual-in_err-four.ensures (λ five. omega (arith, five, count_cut c.in_ok-one.ensures, count_cut c.in_ok-two.ensures, count_cut c.in_ok-three.ensures, count_none c.in_ok-three.three.rest.now c.in_err-four.ensures))

pub returns-in_err-five : goal.returns-in_err-five
returns-in_err-five c =
    rw c.from_residual-in_err-five.ensures (λ five. omega (arith, five, count_cut c.in_ok-one.ensures, count_cut c.in_ok-two.ensures, count_cut c.in_ok-three.ensures, count_cut c.in_ok-four.ensures, count_none c.in_ok-four.four.rest.now c.in_err-five.ensures))

pub returns-in_default : goal.returns-in_default
returns-in_default c five =
    omega (arith, five, count_cut c.in_ok-one.ensures, count_cut c.in_ok-two.ensures, count_cut c.in_ok-three.ensures, count_cut c.in_ok-four.ensures, count_cut c.in_ok-five.ensures, count_cut c.in_default.ensures)

pub returns : goal.returns
returns c = five_is c.in_ok-one.ensures c.in_ok-two.ensures c.in_ok-three.ensures c.in_ok-four.ensures c.in_ok-five.ensures c.in-None.ensures
