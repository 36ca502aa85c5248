use Rattle.grades.specs.Worth.{worth}
use Rattle.pieces.proofs.Steadies.{left}
use Rattle.judge.specs.Signals.{heard}
use Rattle.judge.specs.Candidates.{EitherStarts, NeverOr}
use Rattle.judge.proofs.Goals.{Walking}
use Rattle.judge.proofs.until.gather_until.Given as goal

abbrev pub invariant-loop-next : goal.invariant-loop-next
invariant-loop-next g l =
    let K = g.G.Grade.kind in
    let W = worth K g.G.Grade.value in
    Walking K (heard K g.G.Grade.value l.left.pieces.now) (heard K g.G.Grade.value l.right.pieces.now) l.t l.first l.end l.next (W l.all) (W l.low) × NeverOr (EitherStarts l.left.pieces.now l.right.pieces.now) l.next

abbrev pub decreases-loop-next : goal.decreases-loop-next
decreases-loop-next g l = left l.next
