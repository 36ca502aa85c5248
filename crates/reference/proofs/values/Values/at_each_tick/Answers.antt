use Rattle.std.proofs.Common.{◌∙◌, arith}
use Rattle.std.proofs.lemmas.List.{length-set}
use Rattle.reference.specs.Tables.{nothing}
use Rattle.reference.specs.RowValues.{Graded}
use Rattle.reference.proofs.Valuing.{filled_on}
use Rattle.reference.proofs.values.Values.at_each_tick.Goals as goal

pub loop-t-preserved : goal.loop-t-preserved
loop-t-preserved g c =
    let long : _ = c.loop-t.invariant.0 in
    (length-set c.loop-t.found c.loop-t.t c.value.result ∙ long, filled_on (Graded g.S.Scale.grading c.args.forecast.now c.args.self.now c.args.row) c.loop-t.found c.loop-t.t c.value.result nothing (omega (arith, c.loop-t-test.true)) c.loop-t.invariant.1 c.value.ensures)
