use Rattle.std.proofs.Common.{Err, refl}
use Rattle.std.proofs.lemmas.Result.{err_from_is_err_and}
use Rattle.cases.specs.Readers.{left_of}
use Rattle.case_lines.specs.Listings.{too_long, no_heading}
use Rattle.case_lines.specs.Leaves.{too_long as left_too_long, no_heading as left_no_heading}
use Rattle.case_lines.proofs.Whole.{whole}
use Rattle.case_lines.proofs.opening.Opening.read.Goals as goal

pub returns-in_err-reader-clause-prints : goal.returns-in_err-reader-clause-prints
returns-in_err-reader-clause-prints c =
    let p = err_from_is_err_and c.from_residual.result c.from_residual.ensures.1 in
    rw (p.1, p.2) (λ lent. too_long _ c.in_err-reader.ensures refl)

pub returns-in_err-heading-clause-prints : goal.returns-in_err-heading-clause-prints
returns-in_err-heading-clause-prints c =
    let p = err_from_is_err_and c.from_residual-in_err-heading.result c.from_residual-in_err-heading.ensures.1 in
    rw (p.1, p.2)
    (λ lent. no_heading _ c.in_ok-reader.ensures.sized (whole c.args.case.now c.in_ok-reader.reader.number (left_of c.in_ok-reader.reader) c.in_ok-reader.ensures.number c.in_ok-reader.ensures.left (Err _) c.in_err-heading.ensures.answer) refl)

pub returns-in_err-reader-clause-leaves : goal.returns-in_err-reader-clause-leaves
returns-in_err-reader-clause-leaves c =
    let p = err_from_is_err_and c.from_residual.result c.from_residual.ensures.1 in
    rw p.1 (λ pieces before. left_too_long _ c.in_err-reader.ensures refl refl)

pub returns-in_err-heading-clause-leaves : goal.returns-in_err-heading-clause-leaves
returns-in_err-heading-clause-leaves c =
    let p = err_from_is_err_and c.from_residual-in_err-heading.result c.from_residual-in_err-heading.ensures.1 in
    rw p.1
    (λ pieces before. left_no_heading _ c.in_ok-reader.ensures.sized (whole c.args.case.now c.in_ok-reader.reader.number (left_of c.in_ok-reader.reader) c.in_ok-reader.ensures.number c.in_ok-reader.ensures.left (Err _) c.in_err-heading.ensures.answer) refl refl)
