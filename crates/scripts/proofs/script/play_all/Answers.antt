use Rattle.std.proofs.Common.{refl, subst}
use Rattle.runs.specs.States.{State}
use Rattle.runs.specs.Runs.{Ran}
use Rattle.jobs.specs.Jobs.{state_of}
use Rattle.runs.specs.Families.{truth_and_margin}
use Rattle.scripts.specs.Moments.{moment}
use Rattle.scripts.proofs.script.play_all.Goals as goal

pub returns-clause-run : goal.returns-clause-run
returns-clause-run g c =
    let run = c.carry_out-outcome.ensures.run in (
      run.0,
      (
        moment c.open-job.result c.args.cells.now,
        (
          subst (λ (s : State). Ran truth_and_margin s run.0 (state_of c.carry_out-outcome.new.job)) c.open-job.ensures.state run.1.0,
          record { state = c.open-job.ensures.state; behind = c.open-job.ensures.behind; lent_same = refl },
          run.1.1,
        ),
      ),
    )
