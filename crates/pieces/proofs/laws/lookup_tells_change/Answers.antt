use Rattle.pieces.proofs.Chains.{next_change}
use Rattle.pieces.proofs.laws.lookup_tells_change.Goals as goal

pub returns : goal.returns
returns g c = next_change g.V.Same.Value
