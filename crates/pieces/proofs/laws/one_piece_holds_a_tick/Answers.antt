use Rattle.pieces.proofs.Holders.{one_holder}
use Rattle.pieces.proofs.laws.one_piece_holds_a_tick.Goals as goal

pub returns : goal.returns
returns g c = one_holder g.V.Same.Value
