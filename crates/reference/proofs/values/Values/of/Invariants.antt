use Rattle.std.proofs.Common.{◌≡◌, length}
use Rattle.reference.specs.RowValues.{Valued}
use Rattle.reference.proofs.values.Values.of.Given as goal

abbrev pub invariant-loop-k : goal.invariant-loop-k
invariant-loop-k g l = (length l.values.rows ≡ 64) × Valued g.S.Scale.grading l.rows l.forecast l.k l.values
