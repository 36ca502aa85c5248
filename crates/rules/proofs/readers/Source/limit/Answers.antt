use Rattle.std.proofs.Common.{◌∙◌, arith}
use Rattle.std.proofs.lemmas.Int.{ints}
use Rattle.rules.proofs.Places.{short_from, short_here}
use Rattle.rules.proofs.Growth.{l_end, l_rest, l_number, l_minus, l_stop}
use Rattle.rules.proofs.Stopping.{stopped}
use Rattle.rules.proofs.readers.Source.limit.Goals as goal

pub returns-in_err-token : goal.returns-in_err-token
returns-in_err-token c = stopped _ _ _ _ c.from_residual.ensures.1 (l_end _ _ _ c.requires c.in_err-token.ensures.0 c.in_err-token.ensures.1)

pub overflow_cast-result : goal.overflow_cast-result
overflow_cast-result c =
    let h = c.in_ok-token.ensures in
    omega (arith, short_here _ _ _ c.args.self.now.short h.there (h.is ∙ c.in-Number.is))

pub overflow_cast-result-in-Minus : goal.overflow_cast-result-in-Minus
overflow_cast-result-in-Minus c = omega (arith, short_from _ _ _ _ c.args.self.now.short c.in_ok-number-in-Minus.ensures.text)

pub overflow_sub-result : goal.overflow_sub-result
overflow_sub-result c = omega (arith, ints, short_from _ _ _ _ c.args.self.now.short c.in_ok-number-in-Minus.ensures.text)

pub returns-in_err-number-in-Minus : goal.returns-in_err-number-in-Minus
returns-in_err-number-in-Minus c =
    let h = c.in_ok-token.ensures in
    stopped _ _ _ _ c.from_residual-in_err-number-in-Minus.ensures.1 (l_stop _ _ _ h.there (h.is ∙ c.in-Minus.is) c.in_err-number-in-Minus.ensures)

pub returns-in-Number : goal.returns-in-Number
returns-in-Number c =
    let h = c.in_ok-token.ensures in
    l_number _ _ _ _ h.there (h.is ∙ c.in-Number.is) (omega (arith, ints, short_here _ _ _ c.args.self.now.short h.there (h.is ∙ c.in-Number.is)))

pub returns-in_ok-number-in-Minus : goal.returns-in_ok-number-in-Minus
returns-in_ok-number-in-Minus c =
    let h = c.in_ok-token.ensures in
    l_minus _ _ _ _ _ h.there (h.is ∙ c.in-Minus.is) c.in_ok-number-in-Minus.ensures (omega (arith, ints, short_from _ _ _ _ c.args.self.now.short c.in_ok-number-in-Minus.ensures.text))

pub returns-in_default : goal.returns-in_default
returns-in_default c = l_rest _ _ _ c.in_ok-token.ensures c.in_default.not-Number c.in_default.not-Minus
