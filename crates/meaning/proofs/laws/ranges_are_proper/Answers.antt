use Rattle.rules.specs.Rows.{root}
use Rattle.meaning.proofs.Rows.{root_below}
use Rattle.meaning.proofs.Kept.{values_proper}
use Rattle.meaning.proofs.laws.ranges_are_proper.Goals as goal

pub returns : goal.returns
returns g c rows x t sound = values_proper g.met.G.Grade.lawful sound x (root rows) (root_below sound) t
