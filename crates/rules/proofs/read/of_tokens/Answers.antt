use Rattle.std.proofs.Common.{ℕ, Err, ap}
use Rattle.rules.specs.declared.fault.RuleFault.TheVariants.{Grammar}
use Rattle.rules.specs.Texts.{no_grammar, derived}
use Rattle.rules.proofs.read.of_tokens.Goals as goal

pub returns-in-Ok : goal.returns-in-Ok
returns-in-Ok c = let d = c.in-Ok.ensures in derived d.phrase d.derives (c.check.ensures d.phrase d.derives)

pub returns-in-Err : goal.returns-in-Err
returns-in-Err c = no_grammar c.in-Err.stop.at c.in-Err.ensures (ap (λ (n : ℕ). Err (Grammar n)) c.byte_of.ensures)
