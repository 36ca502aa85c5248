use Rattle.case_lines.proofs.ListingRuns.{run, back}
use Rattle.case_lines.proofs.laws.listings_are_runs.Goals as goal

pub returns-clause-run : goal.returns-clause-run
returns-clause-run c = run

pub returns-clause-back : goal.returns-clause-back
returns-clause-back c = back
