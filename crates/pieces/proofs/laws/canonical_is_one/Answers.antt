use Rattle.pieces.proofs.Chains.{only_one}
use Rattle.pieces.proofs.laws.canonical_is_one.Goals as goal

pub returns : goal.returns
returns g c = only_one g.V.Same.Value
