use Rattle.std.proofs.Common.{ℕ, ◌-◌, ◌<◌, ◌≤◌}
use Rattle.meaning.specs.Readings.{Within}
use Rattle.runs.specs.States.{reading_at}
use Rattle.jobs.proofs.look.narrows.Given as goal

abbrev pub invariant-loop-t : goal.invariant-loop-t
invariant-loop-t l = (l.from ≤ l.t) × ((u : ℕ) → l.from ≤ u → u < l.t → Within l.reading (reading_at l.line.pieces.now u))

abbrev pub decreases-loop-t : goal.decreases-loop-t
decreases-loop-t l = l.to - l.t
