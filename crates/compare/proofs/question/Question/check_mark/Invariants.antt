use Rattle.rules.specs.Texts.{table_of}
use Rattle.jobs.specs.Jobs.{state_of}
use Rattle.compare.specs.Found.{SameMarking}
use Rattle.compare.proofs.question.Question.check_mark.Given as goal

abbrev pub invariant-loop-room : goal.invariant-loop-room
invariant-loop-room g l = SameMarking g.G.Grade.kind g.G.Grade.value (state_of l.self.job.now) (table_of l.self.rule.now) l.self.tick g.G.Measured.number (record { rows = 2048; wants = 4096; marks = 1024 }) l.values l.whole.verdict l.whole.lent.marks.items l.whole.used.marks
