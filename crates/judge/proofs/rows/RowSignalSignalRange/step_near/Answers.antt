use Rattle.judge.proofs.rows.RowSignalSignalRange.step_near.Goals as goal

pub returns : goal.returns
returns g c = record { steady = c.row_step.ensures.steady; agree = λ a b. (λ e. e, λ e. e); named = c.row_step.ensures.named }
