use Rattle.std.proofs.Common.{◌≡◌, sym, subst}
use Rattle.grades.specs.Kinds.{Tells}
use Rattle.meaning.proofs.Readings.{ends_tell}
use Rattle.meaning.proofs.reading.Reading.same.Goals as goal

pub returns : goal.returns
returns c =
    let p = c.args.self in
    let q = c.args.other in
    subst (λ b. Tells b (p ≡ q)) (sym c.eq.ensures) (ends_tell p q)
