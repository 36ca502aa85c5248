use Rattle.jobs.proofs.Blanks.{OpenedTo}
use Rattle.jobs.proofs.job.Job.open.Given as goal

abbrev pub invariant-loop-k : goal.invariant-loop-k
invariant-loop-k l = OpenedTo l.initial.cells l.cells l.k
