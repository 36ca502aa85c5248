use Rattle.std.proofs.Common.{sym, subst}
use Rattle.grades.specs.Worth.{worth}
use Rattle.judge.specs.Signals.{heard}
use Rattle.judge.specs.Candidates.{Starts, EitherStarts, AtEnds, UntilCandidate, NeverOr}
use Rattle.judge.proofs.Candidates.{never_or_sooner, at_ends}
use Rattle.judge.proofs.Overs.{moved}
use Rattle.judge.proofs.Goals.{until_steady}
use Rattle.judge.proofs.until.until_step.Goals as goal

pub returns : goal.returns
returns g c =
    let K = g.G.Grade.kind in
    let W = worth K g.G.Grade.value in
    let a = c.args.from in
    let b = c.args.to in
    let leaves = c.gather_until-all.result.1 in
    let next = c.gather_until-all.result.2 in
    let is = moved c.first_of.result c.moved_back.result c.moved_back-2.result leaves next a b c.first_of.ensures c.moved_back.ensures c.moved_back-2.ensures in
    let ps = c.args.left.now.pieces.now in
    let E = EitherStarts ps c.args.right.now.pieces.now in
    let w = c.gather_until-all.ensures in
    record {
      steady = until_steady K (heard K g.G.Grade.value c.args.left.now.pieces.now) (heard K g.G.Grade.value c.args.right.now.pieces.now) c.args.t g.met.G.Grade.lawful a b
          (W c.gather_until-all.result.0) (W c.look-changes.result.0) c.look-changes.result.1 leaves next c.first_of.result c.first_of-2.result
          c.requires c.gather_until-all.ensures.all c.look-changes.ensures.steady c.gather_until-all.ensures.leaves c.gather_until-all.ensures.next
          is c.first_of-2.ensures;
      named = subst (NeverOr (UntilCandidate ps c.args.right.now.pieces.now a b)) (sym c.first_of-2.ensures)
          (never_or_sooner (Starts ps) (AtEnds E a b) c.look-changes.result.1 c.first_of.result c.look-changes.ensures.named
          (at_ends E c.args.t a b leaves next c.first_of.result is w.leaves.0 w.next.0 w.leaves_named w.next_named));
    }
