use Rattle.std.proofs.Common.{List, length, subst, rules}
use Rattle.rules.specs.declared.row.Row.{Row}
use Rattle.rules.specs.Rows.{Sound}
use Rattle.rules.specs.Texts.{table_of}
use Rattle.runs.specs.States.{readings_of}
use Rattle.jobs.specs.Jobs.{state_of}
use Rattle.scripts.proofs.Recounting.{mark_recounted, marks_front, marks_fit}
use Rattle.scripts.proofs.Fronts.{marked_front}
use Rattle.scripts.proofs.within.mark_within.Goals as goal

pub returns-clause-sound : goal.returns-clause-sound
returns-clause-sound g c = subst (λ (v : List Row). Sound v) c.rows-rows.ensures.is c.rows-rows.ensures.sound

pub returns-clause-turn : goal.returns-clause-turn
returns-clause-turn g c =
    let fits = marks_fit g.G.Grade.kind g.G.Grade.value (table_of c.args.rule.now) (readings_of (state_of c.args.job.now)) c.args.tick _ _ _ _ _ _ c.mark.result {n = length c.mark.new.marks} (search rules) c.mark.ensures.cells in
    mark_recounted g.G.Grade.kind (state_of c.args.job.now) (table_of c.args.rule.now) c.args.tick (search rules) (search rules) (search rules) (marks_front g.G.Grade.kind g.G.Grade.value c.mark.result c.mark.new.marks _ fits) c.mark.ensures.turn

pub returns-clause-fits : goal.returns-clause-fits
returns-clause-fits g c = marks_fit g.G.Grade.kind g.G.Grade.value (table_of c.args.rule.now) (readings_of (state_of c.args.job.now)) c.args.tick _ _ _ _ _ _ c.mark.result (search rules) c.mark.ensures.cells

pub returns-clause-leaves : goal.returns-clause-leaves
returns-clause-leaves g c =
    marked_front g.G.Grade.kind g.G.Grade.value (table_of c.args.rule.now) (state_of c.args.job.now) c.args.tick c.args.portion _ _ _ c.args.cells.now c.mark.new.cells c.args.wants.now c.mark.new.wants c.args.marks.now c.mark.new.marks c.mark.result
    (search rules) (search rules) (search rules) (search rules) (search rules) (search rules) c.mark.ensures.cells
