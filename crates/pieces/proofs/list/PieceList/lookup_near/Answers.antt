use Rattle.std.proofs.Common.{rules}
use Rattle.pieces.proofs.Orders.{found}
use Rattle.pieces.proofs.list.PieceList.lookup_near.Goals as goal

pub returns-clause-found : goal.returns-clause-found
returns-clause-found g c =
    found c.args.self.now.pieces.now c.args.t c.place_near-at.result c.index-pieces-at.result c.map-next.result c.args.self.now.ok c.place_near-at.ensures (λ h. search rules, λ h. search rules)
