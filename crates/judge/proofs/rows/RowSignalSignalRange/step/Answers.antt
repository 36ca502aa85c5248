use Rattle.judge.proofs.rows.RowSignalSignalRange.step.Goals as goal

pub returns : goal.returns
returns g c = record { steady = c.step_near.ensures.steady; agree = λ a b. (λ e. e, λ e. e); named = c.step_near.ensures.named }
