use Rattle.grades.specs.Margins.{level_path}
use Rattle.grades.proofs.Levels.{level, lower_level, upper_level, gap_level, tells_level}
use Rattle.grades.proofs.margin.MarginGrade.TheImpl.Goals as goal

pub same-tells : goal.same-tells
same-tells c = tells_level c.result (level c.args.self) (level c.args.other) c.ensures

pub lower-tells : goal.lower-tells
lower-tells c = lower_level (level c.args.self) (level c.args.other) (level c.result) c.ensures

pub upper-tells : goal.upper-tells
upper-tells c = upper_level (level c.args.self) (level c.args.other) (level c.result) c.ensures

pub opposite-tells : goal.opposite-tells
opposite-tells c = level_path _ _ c.ensures

pub lowest-tells : goal.lowest-tells
lowest-tells c = level_path _ _ c.ensures

pub highest-tells : goal.highest-tells
highest-tells c = level_path _ _ c.ensures

pub from_gap-tells : goal.from_gap-tells
from_gap-tells c = gap_level c.args.gap.number c.args.gap.ok (level c.result) c.ensures
