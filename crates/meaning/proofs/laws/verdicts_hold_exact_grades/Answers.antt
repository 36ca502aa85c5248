use Rattle.rules.specs.Rows.{root}
use Rattle.meaning.proofs.Rows.{root_below}
use Rattle.meaning.proofs.Kept.{values_hold}
use Rattle.meaning.proofs.laws.verdicts_hold_exact_grades.Goals as goal

pub returns : goal.returns
returns g c rows x y t sound exact within = values_hold g.met.G.Grade.lawful sound x y within (root rows) (root_below sound) t
