use Rattle.std.proofs.Common.{arith, inl, inr}
use Rattle.std.proofs.lemmas.List.{places}
use Rattle.std.proofs.lemmas.Grind.{common_steps}
use Rattle.reference.proofs.wants.wanted_on.Goals as goal

pub returns-clause-outside : goal.returns-clause-outside
returns-clause-outside c = λ t d less h. elim h [ inl before ↦ grind (arith, common_steps, places) | inr behind ↦ grind (arith, common_steps, places) ]
