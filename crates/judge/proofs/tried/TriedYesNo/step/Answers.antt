use Rattle.std.proofs.Common.{refl}
use Rattle.grades.specs.Worth.{worth}
use Rattle.grades.specs.declared.range.Range.{Range}
use Rattle.pieces.proofs.Shows.{found_steady}
use Rattle.pieces.proofs.Steadies.{steady_as}
use Rattle.judge.proofs.Candidates.{found_starts}
use Rattle.judge.specs.Trials.{tried}
use Rattle.judge.proofs.tried.TriedYesNo.step.Goals as goal

pub returns : goal.returns
returns g c =
    let s = c.args.self.now in
    let val = λ (r : Range g.row.G.Denot). tried g.G.Grade.kind s.by (worth g.G.Grade.kind g.G.Grade.value r) in
    record {
      steady = steady_as _ c.args.t _ _ _ _ c.try_range.ensures refl (found_steady val s.of.pieces.now s.of.ok c.args.t c.lookup-range.result.0 c.lookup-range.result.1 c.lookup-range.ensures);
      named = found_starts s.of.pieces.now c.args.t c.lookup-range.result.0 c.lookup-range.result.1 c.lookup-range.ensures;
    }
