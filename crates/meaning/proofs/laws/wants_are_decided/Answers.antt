use Rattle.meaning.proofs.Decided.{wanted?, marked?}
use Rattle.meaning.proofs.laws.wants_are_decided.Goals as goal

pub returns : goal.returns
returns g c =
    let L = g.met.G.Grade.lawful in
    record { wanted = λ rows v asked k u sound. wanted? L v sound asked k u; marked = λ rows x asked k u sound. marked? L sound x asked k u }
