use Rattle.rules.specs.Rows.{Sound}
use Rattle.judge.proofs.WantFilling.{FilledWants}
use Rattle.judge.proofs.judged.Judged.write_wants.Given as goal

abbrev pub invariant-loop-i : goal.invariant-loop-i
invariant-loop-i g l = (sound : Sound l.self.rows.now) → FilledWants g.met.G.Grade.lawful l.self.rows.now sound (g.L.Lines.x l.self.lines.now) l.self.tick l.initial.wants l.i l.starts l.wants l.used
