use Rattle.std.proofs.Common.{◌≡◌, ℕ, ◌<◌, length, slice_index_or}
use Rattle.reference.specs.Tables.{nothing}
use Rattle.reference.specs.RowValues.{Graded}
use Rattle.reference.proofs.values.Values.at_each_tick.Given as goal

abbrev pub invariant-loop-t : goal.invariant-loop-t
invariant-loop-t g l = (length l.found ≡ 49) × ((u : ℕ) → u < l.t → Graded g.S.Scale.grading l.forecast l.self l.row u (slice_index_or l.found u nothing))
