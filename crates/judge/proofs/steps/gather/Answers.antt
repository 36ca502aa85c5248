use Rattle.std.proofs.Common.{◌≡◌, sym, ◌∙◌, subst}
use Rattle.grades.specs.Worth.{worth}
use Rattle.pieces.specs.Ticks.{Later}
use Rattle.judge.specs.Signals.{heard}
use Rattle.judge.specs.Candidates.{Starts, NeverOr}
use Rattle.judge.proofs.Overs.{under, joins, Gathering, gathering_first, gathering_more, gathering_whole, gathering_stays}
use Rattle.judge.proofs.steps.gather.Goals as goal
use Rattle.judge.proofs.steps.gather.Goals.{in-Some+then-u-end, in_default}

pub loop-next-init : goal.loop-next-init
loop-next-init g c =
    let K = g.G.Grade.kind in (
      c.args.first,
      gathering_first (joins g.met.G.Grade.lawful c.args.way) (heard K g.G.Grade.value c.args.child.now.pieces.now) c.args.first c.args.end
          (worth K g.G.Grade.value c.look_near-range.result.0) c.look_near-range.result.1 c.requires c.look_near-range.ensures.steady,
      c.look_near-range.ensures.named,
    )

pub loop-next-preserved : goal.loop-next-preserved
loop-next-preserved g c =
    let K = g.G.Grade.kind in
    let W = worth K g.G.Grade.value in
    let i = c.loop-next.invariant in (
      c.in-Some.u,
      gathering_more (joins g.met.G.Grade.lawful c.args.way) (heard K g.G.Grade.value c.args.child.now.pieces.now) c.args.first c.args.end i.0 c.loop-next.next (W c.loop-next.all) i.1
          c.in-Some.u (W c.look_near-range-in-Some.result.0) (W c.combine-all.result) c.look_near-range-in-Some.result.1 c.in-Some.is c.if-u-end.false c.combine-all.ensures c.look_near-range-in-Some.ensures.steady,
      c.look_near-range-in-Some.ensures.named,
    )

pub returns : goal.returns
returns g c =
    let K = g.G.Grade.kind in
    let J = joins g.met.G.Grade.lawful c.args.way in
    let f = heard K g.G.Grade.value c.args.child.now.pieces.now in
    let s = c.args.first in
    let e = c.args.end in
    let x = worth K g.G.Grade.value c.loop-next.all in
    let next = c.match-next.next in
    let same : next ≡ c.loop-next.next = elim c.match-next.branch [ in-Some+then-u-end w ↦ w.next-is ∙ sym w.in-Some.is | in_default w ↦ w.next-is ] in
    let late : Later e next = elim c.match-next.branch [ in-Some+then-u-end w ↦ subst (Later e) (sym w.next-is) w.if-u-end.true | in_default w ↦ subst (Later e) (sym (w.next-is ∙ w.in_default.is)) tt ] in
    let at = c.loop-next.invariant.0 in
    let G = subst (λ o. Gathering (under K c.args.way) f s e at o x) (sym same) c.loop-next.invariant.1 in
    record {
      all = gathering_whole J f s e at next x G c.requires late;
      next = gathering_stays J f s e at next x G late;
      named = subst (NeverOr (Starts c.args.child.now.pieces.now)) (sym same) c.loop-next.invariant.2;
    }
