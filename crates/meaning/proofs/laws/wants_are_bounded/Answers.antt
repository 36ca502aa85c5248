use Rattle.meaning.proofs.Wanting.{wanted_below}
use Rattle.meaning.proofs.Bounded.{wanted_after, wanted_near}
use Rattle.meaning.proofs.laws.wants_are_bounded.Goals as goal

pub returns : goal.returns
returns g c rows v asked k u sound h =
    let K = g.G.Grade.kind in
    (wanted_below K sound v asked k u h, wanted_after K v sound asked k u h, wanted_near K v sound asked k u h)
