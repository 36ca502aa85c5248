use Rattle.meaning.proofs.Blame.{marks_suffice_lem}
use Rattle.meaning.proofs.laws.marks_suffice.Goals as goal

pub returns : goal.returns
returns g c rows x y t ms sound marks within stand = marks_suffice_lem g.met.G.Grade.lawful sound x y t ms marks within stand
