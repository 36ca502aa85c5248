use Rattle.grades.proofs.Levels.{level, tells_number}
use Rattle.grades.proofs.margin.margin_is_its_number.Goals as goal

pub returns : goal.returns
returns c = tells_number c.one_value.result (level c.args.one) (level c.args.other) c.one_value.ensures
