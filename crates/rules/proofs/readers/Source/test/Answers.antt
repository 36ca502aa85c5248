use Rattle.std.proofs.Common.{◌≡◌, ℕ, Some, None, Option, refl, ◌∙◌, arith}
use Rattle.std.proofs.lemmas.Int.{ints}
use Rattle.std.specs.Option.{unwrap_or}
use Rattle.rules.specs.Tables.{line_of}
use Rattle.rules.proofs.Growth.{p_side, p_limit, p_test}
use Rattle.rules.proofs.Stopping.{stopped}
use Rattle.rules.proofs.readers.Source.test.Goals as goal

line_is : (o : Option ℕ) → unwrap_or o 0 ≡ line_of o
line_is None = refl
line_is (Some k) = refl

pub returns-in_err-side : goal.returns-in_err-side
returns-in_err-side c = let h = c.requires.name in stopped _ _ _ _ c.from_residual.ensures.1 (p_side _ _ _ _ h.there h.is c.in_err-side.ensures)

pub returns-in_err-limit : goal.returns-in_err-limit
returns-in_err-limit c =
    let h = c.requires.name in
    stopped _ _ _ _ c.from_residual-in_err-limit.ensures.1 (p_limit _ _ _ _ _ _ h.there h.is c.in_ok-side.ensures c.in_err-limit.ensures)

pub returns : goal.returns
returns c = λ depth. let h = c.requires.name in p_test _ _ _ _ _ _ _ _ _ _ depth h.there h.is c.in_ok-side.ensures c.in_ok-limit.ensures (c.unwrap_or-line.ensures ∙ line_is c.args.line) c.push-root.ensures (omega (arith, ints))
