use Rattle.rules.specs.Rows.{root}
use Rattle.meaning.proofs.Rows.{root_below}
use Rattle.meaning.proofs.Kept.{values_nest}
use Rattle.meaning.proofs.laws.verdicts_nest.Goals as goal

pub returns : goal.returns
returns g c rows x y t sound within = values_nest g.met.G.Grade.lawful sound x y within (root rows) (root_below sound) t
