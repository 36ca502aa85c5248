use Rattle.std.proofs.Common.{take}
use Rattle.std.specs.List.{AllByRecursion}
use Rattle.pieces.proofs.Firsts.{Other}
use Rattle.pieces.proofs.list.PieceList.first_tick.Given as goal

abbrev pub invariant-loop-piece : goal.invariant-loop-piece
invariant-loop-piece g l = AllByRecursion (Other g.V.Same.value (g.V.Same.value l.value)) (take l.piece-index l.self.pieces.now)
