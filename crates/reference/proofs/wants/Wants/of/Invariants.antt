use Rattle.reference.specs.RowWants.{AskedAt}
use Rattle.reference.proofs.wants.Wants.of.Given as goal

abbrev pub invariant-loop-t : goal.invariant-loop-t
invariant-loop-t g l = AskedAt l.rows l.tick l.wants

abbrev pub invariant-loop-k : goal.invariant-loop-k
invariant-loop-k g l = AskedAt l.rows l.tick l.wants
