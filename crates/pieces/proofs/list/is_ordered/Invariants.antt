use Rattle.std.proofs.Common.{◌≡◌, drop}
use Rattle.pieces.specs.Pieces.{ascending}
use Rattle.pieces.proofs.list.is_ordered.Given as goal

abbrev pub invariant-loop-piece : goal.invariant-loop-piece
invariant-loop-piece g l = ascending l.last (drop l.piece-index l.behind) ≡ ascending 0 l.behind
