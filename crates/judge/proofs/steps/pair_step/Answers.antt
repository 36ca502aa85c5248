use Rattle.grades.specs.Worth.{worth}
use Rattle.pieces.specs.Ticks.{sooner}
use Rattle.pieces.proofs.Steadies.{both_steady, steady_as}
use Rattle.judge.specs.Signals.{heard, op}
use Rattle.judge.proofs.Candidates.{either_starts}
use Rattle.judge.proofs.steps.pair_step.Goals as goal

pub returns : goal.returns
returns g c =
    let K = g.G.Grade.kind in
    let W = worth K g.G.Grade.value in
    let l = heard K g.G.Grade.value c.args.left.now.pieces.now in
    let r = heard K g.G.Grade.value c.args.right.now.pieces.now in
    let f = op K c.args.way in
    let x = W c.look_near-one.result.0 in
    let y = W c.look_near-other.result.0 in
    let m = c.look_near-one.result.1 in
    let n = c.look_near-other.result.1 in
    record {
      steady = steady_as (λ u. f (l u) (r u)) c.args.t (f x y) (W c.combine.result) (sooner m n) c.first_of.result c.combine.ensures c.first_of.ensures
          (both_steady l r c.args.t x y m n f c.look_near-one.ensures.steady c.look_near-other.ensures.steady);
      named = either_starts c.args.left.now.pieces.now c.args.right.now.pieces.now m n c.first_of.result c.first_of.ensures c.look_near-one.ensures.named c.look_near-other.ensures.named;
    }
