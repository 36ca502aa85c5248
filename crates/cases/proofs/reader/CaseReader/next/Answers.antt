use Rattle.std.proofs.Common.{◌≡◌, Some, refl, arith}
use Rattle.cases.proofs.Splits.{taken}
use Rattle.cases.proofs.reader.CaseReader.next.Goals as goal

pub returns : goal.returns
returns c =
    let some : c.split_at_checked.result ≡ Some (c.in_ok-body.body, c.in_ok-body._behind) = grind arith in
    let cut = rw some at c.split_at_checked.ensures.cases in
    record {
      leads = taken c.args.self.now.bytes.now c.args.self.now.at _ _ (omega arith) (omega (arith, c.from_be_bytes.ensures, c.from-size.ensures)) cut.0 cut.1;
      number = refl;
      count = refl;
      same = refl;
    }
