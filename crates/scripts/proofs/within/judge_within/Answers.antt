use Rattle.std.proofs.Common.{List, subst, rules}
use Rattle.rules.specs.declared.row.Row.{Row}
use Rattle.rules.specs.Rows.{Sound}
use Rattle.rules.specs.Texts.{table_of}
use Rattle.jobs.specs.Jobs.{state_of}
use Rattle.scripts.proofs.Recounting.{judge_recounted}
use Rattle.scripts.proofs.Fronts.{judged_front}
use Rattle.scripts.proofs.within.judge_within.Goals as goal

pub returns-clause-sound : goal.returns-clause-sound
returns-clause-sound g c = subst (λ (v : List Row). Sound v) c.rows-rows.ensures.is c.rows-rows.ensures.sound

pub returns-clause-turn : goal.returns-clause-turn
returns-clause-turn g c = judge_recounted g.G.Grade.kind (state_of c.args.job.now) (table_of c.args.rule.now) c.args.tick _ (search rules) c.judge.ensures.turn

pub returns-clause-leaves : goal.returns-clause-leaves
returns-clause-leaves g c = judged_front g.G.Grade.kind g.G.Grade.value (table_of c.args.rule.now) (state_of c.args.job.now) c.args.rows _ c.args.cells.now c.judge.new.cells c.judge.result (search rules) (search rules) c.judge.ensures.cells
