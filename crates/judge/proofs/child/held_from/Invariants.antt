use Rattle.std.proofs.Common.{◌-◌}
use Rattle.judge.proofs.Walks.{Walked}
use Rattle.judge.proofs.WantCandidates.{Traced}
use Rattle.judge.proofs.child.held_from.Given as goal

abbrev pub invariant-loop-p : goal.invariant-loop-p
invariant-loop-p g l = Walked (g.A.YesNo.f l.asks) (g.B.YesNo.f l.dead) (g.C.YesNo.f l.need) l.window.from l.window.to l.window.limit l.t l.s l.p l.c × Traced (g.A.YesNo.may_change l.asks) l.window.to l.window.limit l.t l.s l.p l.c

abbrev pub decreases-loop-p : goal.decreases-loop-p
decreases-loop-p g l = l.window.limit - l.p
