use Rattle.std.proofs.Common.{false, inl}
use Rattle.judge.proofs.Walks.{held_steady, held_dead}
use Rattle.judge.specs.WantCandidates.{LeftCandidate}
use Rattle.judge.proofs.Candidates.{never_or_more}
use Rattle.judge.proofs.child.left_at.Goals as goal

pub returns-then-gone : goal.returns-then-gone
returns-then-gone g c =
    let asks = g.A.YesNo.f c.args.asks.now in
    let dead = g.B.YesNo.f c.args.dead.now in
    let goal = g.C.YesNo.f c.args.need.now in
    let w = c.args.window in
    let u = c.args.t in
    let o = c.step-gone.result.1 in
    let A = g.A.YesNo.may_change c.args.asks.now in
    let D = g.B.YesNo.may_change c.args.dead.now in
    let N = g.C.YesNo.may_change c.args.need.now in
    record {
      steady = held_steady asks dead goal w.from w.to w.limit u false o (held_dead asks dead goal w.from w.to w.limit u c.step-gone.result.0 o c.step-gone.ensures.steady c.if-gone.true);
      named = never_or_more D (LeftCandidate A D w.from w.to w.limit N) o (λ n h. inl (inl h)) c.step-gone.ensures.named;
    }
