use Rattle.std.proofs.Common.{ℕ}
use Rattle.grades.specs.Worth.{worth}
use Rattle.pieces.proofs.Steadies.{left}
use Rattle.judge.specs.Signals.{heard}
use Rattle.judge.specs.Candidates.{Starts, NeverOr}
use Rattle.judge.proofs.Overs.{under, Gathering}
use Rattle.judge.proofs.steps.gather.Given as goal

abbrev pub invariant-loop-next : goal.invariant-loop-next
invariant-loop-next g l =
    let K = g.G.Grade.kind in
    (at : ℕ) × Gathering (under K l.way) (heard K g.G.Grade.value l.child.pieces.now) l.first l.end at l.next (worth K g.G.Grade.value l.all) × NeverOr (Starts l.child.pieces.now) l.next

abbrev pub decreases-loop-next : goal.decreases-loop-next
decreases-loop-next g l = left l.next
