use Rattle.std.proofs.Common.{◌≡◌, ℕ, ◌-◌, ◌<◌, ◌≤◌}
use Rattle.judge.specs.WantCandidates.{FromOr}
use Rattle.judge.proofs.yes.first.Given as goal

abbrev pub invariant-loop-t : goal.invariant-loop-t
invariant-loop-t g l = (l.from ≤ l.t) × (l.t ≤ l.end) × ((k : ℕ) → l.from ≤ k → k < l.t → g.S.YesNo.f l.source k ≡ l.value → ⊥) × (l.t < l.end → FromOr (g.S.YesNo.may_change l.source) l.from l.t)

abbrev pub decreases-loop-t : goal.decreases-loop-t
decreases-loop-t g l = l.end - l.t
