use Rattle.std.proofs.Common.{◌<◌, length, arith}
use Rattle.std.proofs.lemmas.Result.{err_from_is_err_and}
use Rattle.std.proofs.lemmas.Bool.Decides.{nat_tests}
use Rattle.rules.specs.Texts.{parsed}
use Rattle.rules.proofs.Answering.{refused, short}
use Rattle.rules.proofs.rule.Rule.read.Goals as goal

pub returns-in_err-tokens : goal.returns-in_err-tokens
returns-in_err-tokens c =
    let some : 0 < length c.args.text.now = grind (arith, nat_tests) in
    let p = err_from_is_err_and c.from_residual.result c.from_residual.ensures.1 in
    rw (p.1, p.2) (refused _ _ _ some c.in_err-tokens.ensures)

pub invariant_of-source : goal.invariant_of-source
invariant_of-source c = record { short = (rw c.tokens.ensures (short c.in_ok-tokens.ensures.split)) }

pub returns : goal.returns
returns c =
    let some : 0 < length c.args.text.now = grind (arith, nat_tests) in
    parsed _ _ some c.in_ok-tokens.ensures.short c.in_ok-tokens.ensures.split (rw (c.tokens.ensures, c.places.ensures) at c.of_tokens.ensures)
