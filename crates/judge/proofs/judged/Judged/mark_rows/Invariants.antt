use Rattle.std.proofs.Common.{◌-◌, length}
use Rattle.rules.specs.Rows.{row_at}
use Rattle.judge.specs.Children.{is_test, asks_at}
use Rattle.judge.proofs.RowMarks.{SoFar}
use Rattle.judge.proofs.judged.Judged.mark_rows.Given as goal

abbrev pub invariant-loop-k : goal.invariant-loop-k
invariant-loop-k g l = SoFar (λ k. is_test (row_at l.self.rows.now k)) (λ k. asks_at g.G.Grade.kind g.G.Grade.value l.self.ranges.begins.now l.self.ranges.cells.now l.wants.begins.now l.wants.cells.now k (length l.self.rows.now - 1 - k)) (λ k. l.self.limit) l.initial.marks l.k l.used l.marks
