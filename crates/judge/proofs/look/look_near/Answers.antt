use Rattle.grades.specs.Ranges.{spans}
use Rattle.grades.specs.Worth.{worth}
use Rattle.pieces.proofs.Shows.{found_shown}
use Rattle.judge.proofs.Candidates.{found_starts}
use Rattle.judge.proofs.look.look_near.Goals as goal

pub returns : goal.returns
returns g c =
    record {
      steady = found_shown (worth g.G.Grade.kind g.G.Grade.value) (spans g.G.Grade.kind).lowest c.args.list.now.pieces.now c.args.t c.lookup_near.result.0 c.lookup_near.result.1 c.args.list.now.ok c.lookup_near.ensures.found;
      named = found_starts c.args.list.now.pieces.now c.args.t c.lookup_near.result.0 c.lookup_near.result.1 c.lookup_near.ensures.found;
    }
