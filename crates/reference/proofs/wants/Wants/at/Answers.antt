use Rattle.std.proofs.Common.{◌≡◌, nat_lt, Some, sym, subst, arith}
use Rattle.std.specs.List.{slice_get}
use Rattle.std.proofs.lemmas.Grind.{common_steps}
use Rattle.std.proofs.lemmas.Option.{gets}
use Rattle.reference.specs.Tables.{said_of}
use Rattle.reference.proofs.wants.Wants.at.Goals as goal

pub returns-else-t-lt-WANT_TICKS : goal.returns-else-t-lt-WANT_TICKS
returns-else-t-lt-WANT_TICKS c =
    let is : slice_get c.args.self.now.rows c.args.row ≡ Some c.in-Some.wants.now = grind (arith, common_steps, gets) in
    subst (λ o. nat_lt c.args.t 128 ≡ said_of o c.args.t) (sym is) (grind (arith, common_steps))

pub returns-in-None : goal.returns-in-None
returns-in-None c = grind (arith, common_steps, gets)
