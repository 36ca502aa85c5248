use Rattle.jobs.specs.Jobs.{state_of}
use Rattle.judge.proofs.RowLists.{readings_settle}
use Rattle.judge.proofs.judging.judge_table.Goals as goal

pub judge_rows-requires : goal.judge_rows-requires
judge_rows-requires g c = readings_settle (state_of c.args.job.now)
