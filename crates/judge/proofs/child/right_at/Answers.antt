use Rattle.std.proofs.Common.{◌≡◌, ◌+◌, ◌-◌, max, true, false, Some, None, inl, inr, sym, ◌∙◌, subst, arith}
use Rattle.judge.specs.Yes.{FirstFrom, Clear}
use Rattle.pieces.proofs.Steadies.{before_self}
use Rattle.judge.proofs.Walks.{seen_steady, seen_dead, seen_never, seen_later, seen_found}
use Rattle.judge.specs.WantCandidates.{FromOr, RightCandidate}
use Rattle.judge.proofs.Candidates.{never_or_more}
use Rattle.judge.proofs.WantCandidates.{opens_at, right_ends}
use Rattle.judge.proofs.child.right_at.Goals as goal

pub returns-then-gone : goal.returns-then-gone
returns-then-gone g c =
    let asks = g.A.YesNo.f c.args.asks.now in
    let dead = g.B.YesNo.f c.args.dead.now in
    let w = c.args.window in
    let u = c.args.t in
    let o = c.step-gone.result.1 in
    let A = g.A.YesNo.may_change c.args.asks.now in
    let D = g.B.YesNo.may_change c.args.dead.now in
    record {
      steady = seen_steady asks dead w.from w.to w.limit u false o (seen_dead asks dead w.from w.to w.limit u c.step-gone.result.0 o c.step-gone.ensures.steady c.if-gone.true);
      named = never_or_more D (RightCandidate A D w.from w.to w.limit) o (λ n h. inl h) c.step-gone.ensures.named;
    }

pub returns-then-p-window : goal.returns-then-p-window
returns-then-p-window g c =
    let asks = g.A.YesNo.f c.args.asks.now in
    let dead = g.B.YesNo.f c.args.dead.now in
    let w = c.args.window in
    let u = c.args.t in
    let s = c.clear_from-s.result in
    let p = c.first-p.result in
    let back : c.saturating_sub.result ≡ u - w.to = omega arith in
    let top : c.max.result ≡ max w.limit s = omega arith in
    let cl = subst (λ n. Clear dead n u s) back c.clear_from-s.ensures.clear in
    let f = subst (λ n. FirstFrom asks true s n p) top c.first-p.ensures.first in
    record {
      steady = seen_steady asks dead w.from w.to w.limit u false None (seen_never asks dead w.from w.to w.limit u s cl p f c.if-p-window.true);
      named = tt;
    }

pub returns-then-t-p : goal.returns-then-t-p
returns-then-t-p g c =
    let asks = g.A.YesNo.f c.args.asks.now in
    let dead = g.B.YesNo.f c.args.dead.now in
    let w = c.args.window in
    let u = c.args.t in
    let s = c.clear_from-s.result in
    let p = c.first-p.result in
    let back : c.saturating_sub.result ≡ u - w.to = omega arith in
    let top : c.max.result ≡ max w.limit s = omega arith in
    let cl = subst (λ n. Clear dead n u s) back c.clear_from-s.ensures.clear in
    let f = subst (λ n. FirstFrom asks true s n p) top c.first-p.ensures.first in
    let A = g.A.YesNo.may_change c.args.asks.now in
    let D = g.B.YesNo.may_change c.args.dead.now in
    let gone = c.step-gone.ensures.steady in
    let here : dead u ≡ false = sym (gone.1 u (omega arith) (before_self u c.step-gone.result.1 gone.0)) ∙ c.if-gone.false in
    let sd = subst (λ n. FromOr D n s) back (c.clear_from-s.ensures.stop here) in
    record {
      steady = seen_steady asks dead w.from w.to w.limit u false (Some (p + w.from)) (seen_later asks dead w.from w.to w.limit u s cl p f c.if-t-p.true);
      named = inr (inl (opens_at A D dead w.from w.to w.limit u s w.ok sd p (c.first-p.ensures.stop (omega arith)) c.if-t-p.true));
    }

pub returns : goal.returns
returns g c =
    let asks = g.A.YesNo.f c.args.asks.now in
    let dead = g.B.YesNo.f c.args.dead.now in
    let w = c.args.window in
    let u = c.args.t in
    let s = c.clear_from-s.result in
    let p = c.first-p.result in
    let q = c.clipped-q.result in
    let z = c.first-end.result in
    let gone = c.step-gone.ensures.steady in
    let here : dead u ≡ false = sym (gone.1 u (omega arith) (before_self u c.step-gone.result.1 gone.0)) ∙ c.if-gone.false in
    let back : c.saturating_sub.result ≡ u - w.to = omega arith in
    let top : c.max.result ≡ max w.limit s = omega arith in
    let cl = subst (λ n. Clear dead n u s) back c.clear_from-s.ensures.clear in
    let f = subst (λ n. FirstFrom asks true s n p) top c.first-p.ensures.first in
    let A = g.A.YesNo.may_change c.args.asks.now in
    let D = g.B.YesNo.may_change c.args.dead.now in
    let sd = subst (λ n. FromOr D n s) back (c.clear_from-s.ensures.stop here) in
    record {
      steady = seen_steady asks dead w.from w.to w.limit u true (Some z)
          (seen_found asks dead w.from w.to w.limit u s cl p f here w.ok c.if-p-window.false c.if-t-p.false q z c.step-after.result.0 c.step-after.result.1 c.step-after.ensures.steady c.clipped-q.ensures c.first-end.ensures.first);
      named = right_ends A D dead w.from w.to w.limit u s w.ok sd q z c.step-after.result.1 c.clipped-q.ensures c.step-after.ensures.named here c.first-end.ensures.first c.first-end.ensures.stop;
    }
