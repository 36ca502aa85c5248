use Rattle.std.proofs.Common.{ap, ◌∙◌}
use Rattle.grades.specs.Ranges.{spans}
use Rattle.judge.proofs.steps.not_step.Goals as goal

pub returns : goal.returns
returns g c =
    let s = c.look_near-range.ensures.steady in
    record { steady = (s.0, λ u a b. c.opposite.ensures ∙ ap (spans g.G.Grade.kind).opposite (s.1 u a b)); named = c.look_near-range.ensures.named }
