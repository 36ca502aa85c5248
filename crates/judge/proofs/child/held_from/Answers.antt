use Rattle.std.proofs.Common.{◌≡◌, ◌≤◌, ◌+◌, ◌<◌, true, false, Some, None, inl, sym, refl, subst, arith}
use Rattle.judge.specs.Yes.{FirstFrom}
use Rattle.judge.proofs.Knowns.{clip_later}
use Rattle.judge.proofs.Walks.{held_steady, walked_first, held_later, held_never, held_cut, walked_more, held_ahead}
use Rattle.judge.specs.WantCandidates.{AheadCandidate, LeftCandidate}
use Rattle.judge.proofs.WantCandidates.{named_later, left_later, left_cut, left_ahead, traced_more}
use Rattle.judge.proofs.child.held_from.Goals as goal

pub loop-p-init : goal.loop-p-init
loop-p-init g c =
    let asks = g.A.YesNo.f c.args.asks.now in
    let dead = g.B.YesNo.f c.args.dead.now in
    let goal = g.C.YesNo.f c.args.need.now in
    let w = c.args.window in
    let p = c.first-p.result in
    let f = subst (λ n. FirstFrom asks true c.args.s n p) c.max.ensures c.first-p.ensures.first in (
      walked_first asks dead goal w.from w.to w.limit c.args.t c.args.s c.requires.clear p f,
      record { asking = λ l. c.first-p.ensures.stop (omega arith); ended = inl refl; ahead = omega arith },
    )

pub loop-p-preserved : goal.loop-p-preserved
loop-p-preserved g c =
    let asks = g.A.YesNo.f c.args.asks.now in
    let dead = g.B.YesNo.f c.args.dead.now in
    let goal = g.C.YesNo.f c.args.need.now in
    let w = c.args.window in
    let p = c.loop-p.p in
    let q = c.clipped-q.result in
    let lt : p < q = subst (λ n. p < n) (sym c.clipped-q.ensures) (clip_later c.step-after.result.1 w.limit p c.step-after.ensures.steady.0 c.loop-p-test.true) in
    let A = g.A.YesNo.may_change c.args.asks.now in
    let D = g.B.YesNo.may_change c.args.dead.now in
    let N = g.C.YesNo.may_change c.args.need.now in
    let is : c.first-c.result ≡ q + w.to = omega (arith, c.first-c.ensures.first.to) in
    let late : c.args.t ≤ c.first-c.result = omega (arith, c.first-c.ensures.first.from, c.loop-p.invariant.1.ahead) in (
      walked_more asks dead goal w.from w.to w.limit c.args.t c.args.s c.requires.clear p c.loop-p.c c.loop-p.invariant.0
          c.max-from.result c.first-z.result c.max-from.ensures c.first-z.ensures.first (q + w.to) c.first-c.result c.if-z-from.false c.first-c.ensures.first
          q c.first-p-in-loop-p.result lt refl c.if-c-end.false c.first-p-in-loop-p.ensures.first,
      traced_more A D N dead w.from w.to w.limit c.args.t c.args.s w.ok c.requires.stop p c.loop-p.c c.loop-p.invariant.1 c.loop-p-test.true q c.first-p-in-loop-p.result c.first-c.result c.step-after.result.1 c.clipped-q.ensures c.step-after.ensures.named c.first-p-in-loop-p.ensures.first.from c.first-p-in-loop-p.ensures.stop is late,
    )

pub returns-then-t-p : goal.returns-then-t-p
returns-then-t-p g c =
    let asks = g.A.YesNo.f c.args.asks.now in
    let dead = g.B.YesNo.f c.args.dead.now in
    let goal = g.C.YesNo.f c.args.need.now in
    let w = c.args.window in
    let u = c.args.t in
    let p = c.loop-p.p in
    let A = g.A.YesNo.may_change c.args.asks.now in
    let D = g.B.YesNo.may_change c.args.dead.now in
    let N = g.C.YesNo.may_change c.args.need.now in
    record {
      steady = held_steady asks dead goal w.from w.to w.limit u false (Some p) (held_later asks dead goal w.from w.to w.limit u c.args.s c.requires.clear p c.loop-p.c c.loop-p.invariant.0 c.if-t-p.true);
      named = left_later A D N dead w.from w.to w.limit u c.args.s w.ok c.requires.stop p c.loop-p.c c.loop-p.invariant.1 c.loop-p-test.true c.requires.clear.to c.if-t-p.true;
    }

pub returns-then-z-from : goal.returns-then-z-from
returns-then-z-from g c =
    let asks = g.A.YesNo.f c.args.asks.now in
    let dead = g.B.YesNo.f c.args.dead.now in
    let goal = g.C.YesNo.f c.args.need.now in
    let w = c.args.window in
    let u = c.args.t in
    let z = c.first-z.result in
    let A = g.A.YesNo.may_change c.args.asks.now in
    let D = g.B.YesNo.may_change c.args.dead.now in
    let N = g.C.YesNo.may_change c.args.need.now in
    record {
      steady = held_steady asks dead goal w.from w.to w.limit u false (Some z)
          (held_cut asks dead goal w.from w.to w.limit u c.args.s c.requires.clear c.loop-p.p c.loop-p.c c.loop-p.invariant.0
          c.max-from.result z c.max-from.ensures c.first-z.ensures.first c.requires.alive c.if-z-from.true);
      named = left_cut A D N dead w.from w.to w.limit u c.args.s w.ok c.requires.stop c.loop-p.p c.loop-p.c c.loop-p.invariant.1 c.loop-p-test.true z c.requires.alive (c.first-z.ensures.first.here c.if-z-from.true) (c.first-z.ensures.stop c.if-z-from.true);
    }

pub returns-then-c-end : goal.returns-then-c-end
returns-then-c-end g c =
    let asks = g.A.YesNo.f c.args.asks.now in
    let dead = g.B.YesNo.f c.args.dead.now in
    let goal = g.C.YesNo.f c.args.need.now in
    let w = c.args.window in
    let u = c.args.t in
    let q = c.clipped-q.result in
    let r = c.ahead.result in
    let A = g.A.YesNo.may_change c.args.asks.now in
    let D = g.B.YesNo.may_change c.args.dead.now in
    let N = g.C.YesNo.may_change c.args.need.now in
    let near : c.loop-p.p ≤ u = omega arith in
    record {
      steady = held_steady asks dead goal w.from w.to w.limit u r.0 r.1
          (held_ahead asks dead goal w.from w.to w.limit u c.args.s c.requires.clear c.loop-p.p c.loop-p.c c.loop-p.invariant.0
          c.max-from.result c.first-z.result c.max-from.ensures c.first-z.ensures.first (q + w.to) c.first-c.result c.if-z-from.false c.first-c.ensures.first
          q c.step-after.result.0 c.step-after.result.1 r.0 r.1 w.ok c.if-t-p.false c.loop-p-test.true c.step-after.ensures.steady c.clipped-q.ensures refl c.ahead.ensures.ahead);
      named = named_later u (AheadCandidate dead D N w.to (q + w.to) c.first-c.result) (LeftCandidate A D w.from w.to w.limit N) r.1 c.ahead.ensures.ahead.later c.ahead.ensures.named
          (λ n l h. left_ahead A D N dead w.from w.to w.limit u c.args.s w.ok c.requires.stop c.loop-p.p c.loop-p.c c.loop-p.invariant.1 c.loop-p-test.true near c.max-from.result c.first-c.result c.max-from.ensures (c.first-c.ensures.stop c.if-c-end.true)
          q (q + w.to) n c.step-after.result.1 c.requires.alive c.clipped-q.ensures c.step-after.ensures.named refl l h);
    }

pub returns : goal.returns
returns g c =
    let asks = g.A.YesNo.f c.args.asks.now in
    let dead = g.B.YesNo.f c.args.dead.now in
    let goal = g.C.YesNo.f c.args.need.now in
    let w = c.args.window in
    let u = c.args.t in
    record {
      steady = held_steady asks dead goal w.from w.to w.limit u false None (held_never asks dead goal w.from w.to w.limit u c.args.s c.requires.clear c.loop-p.p c.loop-p.c c.loop-p.invariant.0 c.loop-p-test.false);
      named = tt;
    }
