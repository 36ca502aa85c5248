use Rattle.case_lines.proofs.OneLeaving.{one_leaving}
use Rattle.case_lines.proofs.leaving.leavings_are_one.Goals as goal

pub returns : goal.returns
returns c = one_leaving
