use Rattle.rules.proofs.Growth.{w_a, w_b, w_c, w_d, w_e}
use Rattle.rules.proofs.Stopping.{stopped}
use Rattle.rules.proofs.readers.Source.window.Goals as goal

pub returns-in_err-left : goal.returns-in_err-left
returns-in_err-left c = stopped _ _ _ _ c.from_residual.ensures.1 (w_a c.requires c.in_err-left.ensures)

pub returns-in_err-from : goal.returns-in_err-from
returns-in_err-from c = stopped _ _ _ _ c.from_residual-in_err-from.ensures.1 (w_b c.in_ok-left.ensures c.in_err-from.ensures)

pub returns-in_err-comma : goal.returns-in_err-comma
returns-in_err-comma c = stopped _ _ _ _ c.from_residual-in_err-comma.ensures.1 (w_c c.in_ok-left.ensures c.in_ok-from.ensures c.in_err-comma.ensures)

pub returns-in_err-to : goal.returns-in_err-to
returns-in_err-to c = stopped _ _ _ _ c.from_residual-in_err-to.ensures.1 (w_d c.in_ok-left.ensures c.in_ok-from.ensures c.in_ok-comma.ensures c.in_err-to.ensures)

pub returns-in_err-next : goal.returns-in_err-next
returns-in_err-next c = stopped _ _ _ _ c.from_residual-in_err-next.ensures.1 (w_e c.in_ok-left.ensures c.in_ok-from.ensures c.in_ok-comma.ensures c.in_ok-to.ensures c.in_err-next.ensures)
