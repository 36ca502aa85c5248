use Rattle.rules.specs.Rows.{root}
use Rattle.meaning.proofs.Rows.{root_below}
use Rattle.meaning.proofs.Kept.{values_exact}
use Rattle.meaning.proofs.laws.exact_readings_settle.Goals as goal

pub returns : goal.returns
returns g c rows x t sound exact = values_exact g.G.Grade.kind sound x exact (root rows) (root_below sound) t
