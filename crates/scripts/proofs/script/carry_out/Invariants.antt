use Rattle.std.proofs.Common.{◌≡◌, drop}
use Rattle.jobs.specs.Jobs.{SameLoan}
use Rattle.lent.specs.Holding.{counts, SameLoans}
use Rattle.scripts.specs.Moments.{moment}
use Rattle.scripts.proofs.Going.{Going}
use Rattle.scripts.proofs.script.carry_out.Given as goal

abbrev pub invariant-loop-call : goal.invariant-loop-call
invariant-loop-call g l =
    Going g.L.Listener.hears l.calls (moment l.initial.job l.initial.cells) l.initial.listener (drop l.call-index l.calls) (moment l.job l.cells) l.listener
    × (counts l.cells ≡ counts l.initial.cells)
    × SameLoan l.initial.job l.job
    × SameLoans l.initial.cells l.cells
