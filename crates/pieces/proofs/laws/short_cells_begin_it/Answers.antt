use Rattle.pieces.proofs.Chains.{extends}
use Rattle.pieces.proofs.laws.short_cells_begin_it.Goals as goal

pub returns : goal.returns
returns g c = extends g.V.Same.Value
