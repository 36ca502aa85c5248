use Rattle.std.proofs.Common.{◌+◌}
use Rattle.grades.specs.Worth.{worth}
use Rattle.pieces.proofs.Steadies.{self_steady}
use Rattle.judge.specs.Signals.{heard}
use Rattle.judge.specs.Candidates.{Starts}
use Rattle.judge.proofs.Candidates.{at_ends}
use Rattle.judge.proofs.Overs.{joins, moved, window_steady}
use Rattle.judge.proofs.steps.window_step.Goals as goal

pub returns : goal.returns
returns g c =
    let K = g.G.Grade.kind in
    let W = worth K g.G.Grade.value in
    let f = heard K g.G.Grade.value c.args.child.now.pieces.now in
    let a = c.args.from in
    let b = c.args.to in
    let t = c.args.t in
    let leaves = c.look-leaves.result.1 in
    let next = c.gather-all.result.1 in
    let is = moved c.first_of.result c.moved_back.result c.moved_back-2.result leaves next a b c.first_of.ensures c.moved_back.ensures c.moved_back-2.ensures in
    record {
      steady = window_steady (joins g.met.G.Grade.lawful c.args.way) f t a b (W c.gather-all.result.0) leaves next c.first_of.result c.requires c.gather-all.ensures.all
          (self_steady f (t + a) (W c.look-leaves.result.0) leaves c.look-leaves.ensures.steady) c.gather-all.ensures.next is;
      named = at_ends (Starts c.args.child.now.pieces.now) t a b leaves next c.first_of.result is c.look-leaves.ensures.steady.0 c.gather-all.ensures.next.0 c.look-leaves.ensures.named c.gather-all.ensures.named;
    }
