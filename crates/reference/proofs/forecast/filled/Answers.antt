use Rattle.std.proofs.Common.{arith}
use Rattle.std.proofs.lemmas.List.{places}
use Rattle.std.proofs.lemmas.Grind.{common_steps}
use Rattle.reference.proofs.forecast.filled.Goals as goal

pub returns-clause-outside : goal.returns-clause-outside
returns-clause-outside c = λ t d less h. grind (arith, common_steps, places)
