use Rattle.std.proofs.Common.{◌≡◌, false, ◌-◌, ◌≤◌}
use Rattle.judge.specs.WantCandidates.{FromOr}
use Rattle.judge.specs.Yes.{Clear}
use Rattle.judge.proofs.yes.clear_from.Given as goal

abbrev pub invariant-loop-t : goal.invariant-loop-t
invariant-loop-t g l = (l.t ≤ l.u) × Clear (g.S.YesNo.f l.source) l.from l.t l.s × (g.S.YesNo.f l.source l.u ≡ false → FromOr (g.S.YesNo.may_change l.source) l.from l.s)

abbrev pub decreases-loop-t : goal.decreases-loop-t
decreases-loop-t g l = l.u - l.t
