use Rattle.std.proofs.Common.{◌≡◌, sym, ◌∙◌, subst}
use Rattle.grades.specs.Worth.{worth}
use Rattle.pieces.specs.Ticks.{Later}
use Rattle.judge.specs.declared.steps.Way.TheVariants.{Upper}
use Rattle.judge.specs.Signals.{heard}
use Rattle.judge.proofs.Overs.{joins, gathering_whole, gathering_stays}
use Rattle.judge.specs.Candidates.{EitherStarts, NeverOr}
use Rattle.judge.proofs.Candidates.{either_starts}
use Rattle.judge.proofs.Goals.{aims, Walking, walking_leaves, walking_first, walking_more}
use Rattle.judge.proofs.until.gather_until.Goals as goal
use Rattle.judge.proofs.until.gather_until.Goals.{in-Some+then-u-end, in_default}

pub loop-next-init : goal.loop-next-init
loop-next-init g c =
    let K = g.G.Grade.kind in
    let W = worth K g.G.Grade.value in
    let ps = c.args.left.now.pieces.now in
    let qs = c.args.right.now.pieces.now in (
      walking_first K (heard K g.G.Grade.value c.args.left.now.pieces.now) (heard K g.G.Grade.value c.args.right.now.pieces.now) c.args.t g.met.G.Grade.lawful c.args.first c.args.end
          (W c.gather-more.result.0) (W c.look_near-after.result.0) (W c.lower-all.result) c.gather-more.result.1 c.look_near-after.result.1 c.first_of-leaves.result
          c.requires.start c.gather-more.ensures.all c.gather-more.ensures.next c.look_near-after.ensures.steady c.first_of-leaves.ensures c.requires.window c.lower-all.ensures,
      either_starts ps qs c.gather-more.result.1 c.look_near-after.result.1 c.first_of-leaves.result c.first_of-leaves.ensures c.gather-more.ensures.named c.look_near-after.ensures.named,
    )

pub loop-next-preserved : goal.loop-next-preserved
loop-next-preserved g c =
    let K = g.G.Grade.kind in
    let W = worth K g.G.Grade.value in
    let ps = c.args.left.now.pieces.now in
    let qs = c.args.right.now.pieces.now in (
      walking_more K (heard K g.G.Grade.value c.args.left.now.pieces.now) (heard K g.G.Grade.value c.args.right.now.pieces.now) c.args.t g.met.G.Grade.lawful c.args.first c.args.end
          c.loop-next.next (W c.loop-next.all) (W c.loop-next.low) c.requires.start c.loop-next.invariant.0
          c.in-Some.u (W c.look_near-m.result.0) (W c.look_near-n.result.0) (W c.lower-low.result) (W c.lower-both.result) (W c.upper-all.result) c.look_near-m.result.1 c.look_near-n.result.1 c.first_of-next.result
          c.in-Some.is c.if-u-end.false c.look_near-m.ensures.steady c.look_near-n.ensures.steady c.first_of-next.ensures c.lower-low.ensures c.lower-both.ensures c.upper-all.ensures,
      either_starts ps qs c.look_near-m.result.1 c.look_near-n.result.1 c.first_of-next.result c.first_of-next.ensures c.look_near-m.ensures.named c.look_near-n.ensures.named,
    )

pub returns : goal.returns
returns g c =
    let K = g.G.Grade.kind in
    let W = worth K g.G.Grade.value in
    let L = g.met.G.Grade.lawful in
    let l = heard K g.G.Grade.value c.args.left.now.pieces.now in
    let r = heard K g.G.Grade.value c.args.right.now.pieces.now in
    let t = c.args.t in
    let s = c.args.first in
    let e = c.args.end in
    let all = W c.loop-next.all in
    let next = c.match-next.next in
    let same : next ≡ c.loop-next.next = elim c.match-next.branch [ in-Some+then-u-end w ↦ w.next-is ∙ sym w.in-Some.is | in_default w ↦ w.next-is ] in
    let late : Later e next = elim c.match-next.branch [ in-Some+then-u-end w ↦ subst (Later e) (sym w.next-is) w.if-u-end.true | in_default w ↦ subst (Later e) (sym (w.next-is ∙ w.in_default.is)) tt ] in
    let w = subst (λ o. Walking K l r t s e o all (W c.loop-next.low)) (sym same) c.loop-next.invariant.0 in
    record {
      all = gathering_whole (joins L Upper) (aims K l r t) s e w.at next all w.gathered c.requires.window late;
      leaves = walking_leaves K l r t L s e (W c.gather-more.result.0) (W c.look_near-after.result.0) (W c.lower-all.result) c.gather-more.result.1 c.look_near-after.result.1 c.first_of-leaves.result
          c.requires.start c.gather-more.ensures.all c.gather-more.ensures.next c.look_near-after.ensures.steady c.first_of-leaves.ensures;
      next = gathering_stays (joins L Upper) (aims K l r t) s e w.at next all w.gathered late;
      leaves_named = either_starts c.args.left.now.pieces.now c.args.right.now.pieces.now c.gather-more.result.1 c.look_near-after.result.1 c.first_of-leaves.result c.first_of-leaves.ensures c.gather-more.ensures.named c.look_near-after.ensures.named;
      next_named = subst (NeverOr (EitherStarts c.args.left.now.pieces.now c.args.right.now.pieces.now)) (sym same) c.loop-next.invariant.1;
    }
