use Rattle.meaning.proofs.Blame.{marks_settle_lem}
use Rattle.meaning.proofs.laws.marks_settle.Goals as goal

pub returns : goal.returns
returns g c rows x y t ms sound marks within exact = marks_settle_lem g.met.G.Grade.lawful sound x y t ms marks within exact
