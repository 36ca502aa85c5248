use Rattle.rule_check.proofs.Shown.{HeardSofar}
use Rattle.rule_check.proofs.reading.hear_out.Given as goal

abbrev pub invariant-loop : goal.invariant-loop
invariant-loop g l = HeardSofar (g.R.Read.remaining l.fn.source) (g.R.Read.remaining l.source) l.input
