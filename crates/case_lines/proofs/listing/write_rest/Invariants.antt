use Rattle.std.proofs.Common.{◌≡◌}
use Rattle.runs.specs.States.{State}
use Rattle.jobs.specs.Jobs.{SameLoan}
use Rattle.lent.specs.Holding.{Contents, counts, SameLoans}
use Rattle.case_lines.specs.Leaves.{CarriedOn}
use Rattle.streams.specs.Buffers.{buffered}
use Rattle.case_lines.specs.Rests.{RestPrints, RestLeaves, work_left}
use Rattle.streams.proofs.Resting.{Sofar, Unsent}
use Rattle.case_lines.proofs.listing.write_rest.Given as goal

abbrev pub invariant-loop-line : goal.invariant-loop-line
invariant-loop-line g l =
    Sofar (g.W.Write.contents l.fn.sink) (RestPrints l.fn.lister) (g.W.Write.contents l.sink) (Unsent (buffered l.buffer) (RestPrints l.lister))
    × ((z : State) (after : Contents) → RestLeaves l.lister z after → RestLeaves l.fn.lister z after)
    × CarriedOn l.fn.lister.job.now l.lister.job.now
    × SameLoan l.fn.lister.job.now l.lister.job.now
    × (counts l.lister.cells.now ≡ counts l.fn.lister.cells.now)
    × SameLoans l.fn.lister.cells.now l.lister.cells.now
    × (l.lister.job.ghost_name ≡ l.fn.lister.job.ghost_name)
    × (l.lister.cells.ghost_name ≡ l.fn.lister.cells.ghost_name)

abbrev pub decreases-loop-line : goal.decreases-loop-line
decreases-loop-line g l = work_left l.lister
