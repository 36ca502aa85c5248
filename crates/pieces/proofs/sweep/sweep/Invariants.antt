use Rattle.pieces.proofs.Steadies.{left}
use Rattle.pieces.proofs.Sweeps.{Going}
use Rattle.pieces.proofs.sweep.sweep.Given as goal

abbrev pub invariant-loop-next : goal.invariant-loop-next
invariant-loop-next g l = Going g.S.Signal.value (g.S.Signal.f l.source) l.initial.cells l.initial.end l.initial.last l.cells l.end l.last l.next

abbrev pub decreases-loop-next : goal.decreases-loop-next
decreases-loop-next g l = left l.next
