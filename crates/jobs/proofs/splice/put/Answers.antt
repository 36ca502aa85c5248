use Rattle.std.proofs.Common.{◌≡◌, length, sym, ap, ◌∙◌, arith}
use Rattle.jobs.specs.Edits.{written, optional}
use Rattle.jobs.proofs.Writes.{set_written, none_written}
use Rattle.jobs.proofs.splice.put.Goals as goal

pub returns-in-Some : goal.returns-in-Some
returns-in-Some c =
    let one : length (optional c.args.piece) ≡ 1 = ap (λ o. length (optional o)) c.in-Some.is in
    record {
      cells = set_written c.args.cells.now c.args.at c.in-Some.p (omega arith) ∙ ap (λ o. written c.args.cells.now c.args.at (optional o)) (sym c.in-Some.is);
      next = omega arith;
    }

pub returns-in-None : goal.returns-in-None
returns-in-None c =
    let none : length (optional c.args.piece) ≡ 0 = ap (λ o. length (optional o)) c.in-None.is in
    record {
      cells = none_written c.args.cells.now c.args.at ∙ ap (λ o. written c.args.cells.now c.args.at (optional o)) (sym c.in-None.is);
      next = omega arith;
    }
